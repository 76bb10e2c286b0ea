-- Numbers from low to high, by the words that they are in.
use Rattle.std.proofs.Common.{◌≡◌, ◌≢◌, ℕ, ◌+◌, ◌-◌, ◌*◌, ◌/◌, ◌%◌, ◌^◌, ◌<◌, ◌≤◌, List, length, get_or, refl, sym, ap, ◌∙◌, arith, inl, inr}
use Rattle.std.specs.Prelude.{◌⊎◌}
use Rattle.std.specs.Int.{bit_at}
use Rattle.std.specs.Simd.Lanes.{chunk}
use Rattle.std.proofs.lemmas.Bool.{cases_eq}
use Rattle.std.proofs.lemmas.Nat.Bits.{bit_at-zero}
use Rattle.std.proofs.lemmas.Simd.{length-chunk, get_or-chunk}
use Rattle.etcs_rows.specs.Sets.{Has, AnyFlag, AnyHas}
use Rattle.etcs_rows.proofs.Flags.{flag_of}
use Rattle.etcs_rows.proofs.Shifts.{member_at}
use Rattle.etcs_rows.proofs.SetLemmas.{one_is, is_one}

pub flag_has : (ws : List ℕ) (i a b low high : ℕ) → low ≤ i * 64 + a → i * 64 + b ≤ high → b < 64 → AnyFlag (get_or ws i 0) a b → AnyHas ws low high
flag_has ws i a b low high hl hh hb (k, one, over, under) = (i * 64 + k, member_at ws (i * 64 + k) i k refl (omega arith) ∙ is_one _ one, omega arith, omega arith)

pub has_flag : (ws : List ℕ) (m i a b : ℕ) → Has ws m → m / 64 ≡ i → a ≤ m % 64 → m % 64 ≤ b → AnyFlag (get_or ws i 0) a b
has_flag ws m i a b has at over under = (m % 64, one_is _ (sym (member_at ws m i (m % 64) (omega arith) (omega arith)) ∙ has), over, under)

-- a number held from low to high is in the first word, in the last, or in one of those between
pub has_between : (ws : List ℕ) (low high : ℕ) → AnyHas ws low high → (AnyFlag (get_or ws (low / 64) 0) (low % 64) 63 ⊎ AnyFlag (get_or ws (high / 64) 0) 0 (high % 64)) ⊎ ((i : ℕ) × (low / 64 + 1 ≤ i) × (i < high / 64) × (get_or ws i 0 ≢ 0))
has_between ws low high (m, has, over, under) =
    elim (cases_eq (m / 64) (low / 64)) [
      | inl first ↦ inl (inl (has_flag ws m (low / 64) (low % 64) 63 has first (omega arith) (omega arith)))
      | inr later ↦ elim (cases_eq (m / 64) (high / 64)) [
        | inl last ↦ inl (inr (has_flag ws m (high / 64) 0 (high % 64) has last (omega arith) (omega arith)))
        | inr sooner ↦ inr (m / 64, omega (arith, over, later), omega (arith, under, sooner), λ none. (let t : 1 ≡ 0 = sym (one_is _ has) ∙ ap (λ w. bit_at w (m % 64)) none ∙ bit_at-zero (m % 64) in omega (arith, t)))
      ]
    ]

-- the words of a part, and those of the whole
pub part_has : (ws : List ℕ) (from n low high : ℕ) → ((i : ℕ) → get_or ws i 0 < 2 ^ 64) → from + n ≤ length ws → low ≤ from * 64 → (from + n) * 64 ≤ high → ((i : ℕ) × (i < length (chunk from n ws)) × (get_or (chunk from n ws) i 0 ≢ 0)) → AnyHas ws low high
part_has ws from n low high fit room over under (i, inside, some) =
    let len = length-chunk from n ws room in
    let small : i < n = omega (arith, inside) in
    let flag = flag_of (get_or ws (from + i) 0) (λ none. some (get_or-chunk from n ws i 0 small ∙ none)) (fit (from + i)) in flag_has ws (from + i) 0 63 low high (omega arith) (omega arith) (omega arith) flag

pub some_part : (ws : List ℕ) (from n : ℕ) → from + n ≤ length ws → (i : ℕ) → from ≤ i → i < from + n → get_or ws i 0 ≢ 0 → (k : ℕ) × (k < length (chunk from n ws)) × (get_or (chunk from n ws) k 0 ≢ 0)
some_part ws from n room i over under some =
    let len = length-chunk from n ws room in
    let small : i - from < n = omega arith in
    let place : from + (i - from) ≡ i = omega arith in (i - from, omega arith, λ none. some (ap (λ k. get_or ws k 0) (sym place) ∙ sym (get_or-chunk from n ws (i - from) 0 small) ∙ none))
