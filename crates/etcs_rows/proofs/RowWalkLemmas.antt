-- Which bits may come inside a variable of a row of a given length.
use Rattle.std.proofs.Common.{◌≡◌, ℕ, ◌+◌, ◌-◌, ◌*◌, ◌/◌, ◌%◌, ◌^◌, ◌<◌, ◌≤◌, [], ◌∷◌, length, take, Some, None, refl, sym, ap, subst, ◌∙◌, arith}
use Rattle.std.specs.Prelude.{IsTrue, ◌↔◌}
use Rattle.std.proofs.lemmas.Nat.{pow_pos, pow-add, div_below, shr_split, mod_below, div-mul-add, mul-add-lt, shl_whole, one_shl}
use Rattle.std.proofs.Math.Pow.{pow_mono}
use Rattle.etcs_bits.specs.Bits.{num}
use Rattle.etcs_bits.proofs.Numbers.{num_same}
use Rattle.etcs_vars.specs.declared.var.Var.{Var}
use Rattle.etcs_vars.specs.Vars.{width, admits}
use Rattle.etcs_vars.specs.Reading.{Reading, spelled, Viable}
use Rattle.etcs_vars.proofs.Walk.{May}
use Rattle.etcs_vars.proofs.Prefixes.{take-num, admits_parts}
use Rattle.etcs_vars.proofs.Sent.{length-sent}
use Rattle.etcs_tables.specs.Layouts.{Layout, one, looks, Reads, ReadsIn, Lengths}
use Rattle.etcs_rows.specs.Places.{first_variable}
use Rattle.etcs_rows.specs.Lengths.{LengthsBy, FitsWithin, is_free}
use Rattle.etcs_rows.proofs.Following.{ReadsBy, by_number, head_number, tail_of}
use Rattle.etcs_rows.proofs.LengthLemmas.{lengths_by, nothing_left}
use Rattle.etcs_rows.proofs.SumLemmas.{free_fits}

-- the numbers that a variable may have, with this many bits in all
abbrev pub MayHave : Var → Layout → ℕ → ℕ → Type 0
MayHave v rest len n = (j : ℕ) × IsTrue (admits v n) × LengthsBy rest n j × (width v + j ≡ len)

pub may_from : (v : Var) (rest : Layout) (len n : ℕ) → IsTrue (looks None (one v rest)) → MayHave v rest len n → May (ReadsIn (one v rest) len) [] v n
may_from v rest len n look (j, ok, l, e) =
    let r = (lengths_by rest n j).0 l in
    (r.0, ((by_number (one v rest) None [] tt look ((v, n) ∷ r.0)).1 (n, r.0, ok, refl, r.1), length-sent v n r.0 ∙ ap (λ k. width v + k) r.2 ∙ e))

pub may_only : (v : Var) (rest : Layout) (len n : ℕ) → IsTrue (looks None (one v rest)) → May (ReadsIn (one v rest) len) [] v n → MayHave v rest len n
may_only v rest len n look (q, (reads, l)) =
    let b = (by_number (one v rest) None [] tt look ((v, n) ∷ q)).0 reads in
    let same : n ≡ b.0 = ap (λ (t : Reading). head_number t) b.3 in
    let rest-is : q ≡ b.1 = ap (λ (t : Reading). tail_of t) b.3 in
    let ok : IsTrue (admits v n) = rw same b.2 in
    let x : ReadsBy rest n q = subst (λ (t : Reading). ReadsBy rest n t) (sym rest-is) (subst (λ k. ReadsBy rest k b.1) (sym same) b.4) in
    (length (spelled q), ok, (lengths_by rest n (length (spelled q))).1 (q, x, refl), sym (length-sent v n q) ∙ l)

-- ---- Numbers whose first bits are known lie between two others.

pub prefix_between : (a b n x : ℕ) → n < 2 ^ (a + b) → x < 2 ^ a → take a (num (a + b) n) ≡ num a x → (x * 2 ^ b ≤ n) × (n ≤ x * 2 ^ b + (2 ^ b - 1))
prefix_between a b n x hn hx e =
    let pw : 2 ^ (a + b) ≡ 2 ^ a * 2 ^ b = pow-add 2 a b in
    let small : n / 2 ^ b < 2 ^ a = div_below n (2 ^ b) (2 ^ a) (pow_pos b) (rw (← pw) hn) in
    let same : n / 2 ^ b ≡ x = num_same a (n / 2 ^ b) x small hx (sym (take-num a b n) ∙ e) in
    let split : x * 2 ^ b + n % 2 ^ b ≡ n = ap (λ k. k * 2 ^ b + n % 2 ^ b) (sym same) ∙ shr_split n b in
    let low = mod_below n (2 ^ b) (pow_pos b) in
    let pos = pow_pos b in
    ((let t : x * 2 ^ b ≤ n = omega (arith, split) in t), (let t : n ≤ x * 2 ^ b + (2 ^ b - 1) = omega (arith, split, low, pos) in t))

pub between_prefix : (a b n x : ℕ) → x * 2 ^ b ≤ n → n ≤ x * 2 ^ b + (2 ^ b - 1) → take a (num (a + b) n) ≡ num a x
between_prefix a b n x l h =
    let pos = pow_pos b in
    let r = n - x * 2 ^ b in
    let is : x * 2 ^ b + r ≡ n = omega (arith, l) in
    let small : r < 2 ^ b = omega (arith, l, h, pos) in
    take-num a b n ∙ ap (λ k. num a (k / 2 ^ b)) (sym is) ∙ ap (num a) (div-mul-add x (2 ^ b) r small)

-- so the admitted numbers that begin with these bits are those that lie there
pub begun_between : (v : Var) (taken x : ℕ) → taken ≤ width v → x < 2 ^ taken → ((n : ℕ) × IsTrue (admits v n) × (take taken (num (width v) n) ≡ num taken x)) ↔ ((n : ℕ) × (x * 2 ^ (width v - taken) ≤ n) × (n ≤ x * 2 ^ (width v - taken) + (2 ^ (width v - taken) - 1)) × IsTrue (admits v n))
begun_between v taken x short small =
    let b = width v - taken in
    let whole_is : taken + b ≡ width v = omega arith in (
      λ (n, ok, e).
          let bounds = prefix_between taken b n x (rw whole_is (admits_parts v n ok).1) small (ap (λ w. take taken (num w n)) whole_is ∙ e) in
          (n, bounds.0, bounds.1, ok),
      λ (n, l, h, ok). (n, ok, ap (λ w. take taken (num w n)) (sym whole_is) ∙ between_prefix taken b n x l h),
    )

-- a whole number of a variable that no group looks at
pub free_whole : (row : Layout) (v : Var) (from to x k len : ℕ) → first_variable row ≡ Some v → IsTrue (is_free row) → FitsWithin row from to len → k ≡ 0 → IsTrue (admits v x) ↔ FitsWithin row (x * 2 ^ k) (x * 2 ^ k + (2 ^ k - 1)) len
free_whole row v from to x k len first free reaches none =
    let low : x * 2 ^ k ≡ x = ap (λ j. x * 2 ^ j) none ∙ (let t : x * 2 ^ 0 ≡ x = omega arith in t) in
    let high : x * 2 ^ k + (2 ^ k - 1) ≡ x = ap (λ j. x * 2 ^ j + (2 ^ j - 1)) none ∙ (let t : x * 2 ^ 0 + (2 ^ 0 - 1) ≡ x = omega arith in t) in
    let all = free_fits row v from to (x * 2 ^ k) (x * 2 ^ k + (2 ^ k - 1)) len first free reaches in (
      λ ok. all.0 (x, (let t : x * 2 ^ k ≤ x = omega (arith, low) in t), (let t : x ≤ x * 2 ^ k + (2 ^ k - 1) = omega (arith, high) in t), ok),
      λ f.
          let (n, l, u, ok) = all.1 f in
          let same : n ≡ x = omega (arith, l, u, low, high) in
          subst (λ i. IsTrue (admits v i)) same ok,
    )

pub start_viable : (row : Layout) (len : ℕ) → Lengths row [] len → Viable (ReadsIn row len) (num 0 0)
unfolding num
start_viable row len (r, rest, reads, none, bits, small) =
    let gone : r ≡ [] = nothing_left r none in
    let all : Reads row [] rest = rw gone at reads in
    (rest, spelled rest, (all, bits), refl)

-- numbers of 64 bits
pub may_room : (w t x : ℕ) → 0 < t → t ≤ w → w ≤ 64 → x < 2 ^ t → (x * 2 ^ (w - t) % 2 ^ 64 ≡ x * 2 ^ (w - t)) × (1 * 2 ^ (w - t) % 2 ^ 64 ≡ 2 ^ (w - t)) × (x * 2 ^ (w - t) + (2 ^ (w - t) - 1) < 2 ^ 64)
may_room w t x some taken wide small =
    let k = w - t in
    let pos = pow_pos k in
    let inside = mul-add-lt x (2 ^ k) (2 ^ k - 1) (2 ^ t) small (omega (arith, pos)) in
    let all : 2 ^ (k + t) ≡ 2 ^ k * 2 ^ t = pow-add 2 k t in
    let is : k + t ≡ w = omega (arith, taken) in
    let all' : 2 ^ w ≡ 2 ^ k * 2 ^ t = ap (λ j. 2 ^ j) (sym is) ∙ all in
    let top = pow_mono wide in (
      shl_whole x t k 64 small (omega (arith, is, wide)),
      one_shl k 64 (omega (arith, some, taken, wide)),
      (let u : x * 2 ^ k + (2 ^ k - 1) < 2 ^ 64 = omega (arith, inside, all', top) in u),
    )
