-- What a set of words holds after each operation.
use Rattle.std.proofs.Common.{◌≡◌, ℕ, ◌*◌, ◌/◌, ◌%◌, ◌^◌, ◌<◌, ◌≤◌, List, [], ◌∷◌, zero, suc, length, get_or, set, replicate, true, refl, sym, ap, ◌∙◌, arith, max, bit_or, bit_and, inl, inr, subst}
use Rattle.std.specs.Prelude.{◌==◌, ◌↔◌, ◌⊎◌, IsTrue}
use Rattle.std.specs.Int.{bit_at}
use Rattle.std.specs.Simd.Lanes.{zip2}
use Rattle.std.proofs.lemmas.Bool.{cases_lt, cases_eq}
use Rattle.std.proofs.lemmas.Bool.Decides.{nat_tests}
use Rattle.std.proofs.lemmas.List.{get_or-set_same, get_or-set_other, get_or-replicate, get_or_past}
use Rattle.std.proofs.lemmas.Simd.{length-replicate}
use Rattle.std.proofs.lemmas.Nat.{one_shl}
use Rattle.std.proofs.lemmas.Nat.Bits.{bit_at_or, bit_at-lt, bit_at-zero, bit_at-pow_same, bit_at-pow_other, shr_and_one}
use Rattle.etcs_rows.specs.declared.length_set.LengthSet.{LengthSet}
use Rattle.etcs_rows.specs.Sets.{In, Has}
use Rattle.etcs_rows.specs.Sums.{Plus, SumOf}
use Rattle.etcs_rows.proofs.Shifts.{member_small}

pub one_is : (x : ℕ) → (x == 1) ≡ true → x ≡ 1
one_is x h = grind (arith, nat_tests)

pub is_one : (x : ℕ) → x ≡ 1 → (x == 1) ≡ true
is_one x h = rw h refl

-- a set is what its words hold
pub in_words : (s : LengthSet) (m : ℕ) → In s m → bit_at (get_or s.words (m / 64) 0) (m % 64) ≡ 1
unfolding In
in_words s m h = one_is _ h

pub words_in : (s : LengthSet) (m : ℕ) → bit_at (get_or s.words (m / 64) 0) (m % 64) ≡ 1 → In s m
unfolding In
words_in s m h = is_one _ h

pub in_small : (s : LengthSet) (m : ℕ) → length s.words ≡ 128 → In s m → m ≤ 8191
unfolding In
in_small s m len h = member_small s.words m len h

-- ---- no number, and one
abbrev pub zeroes : ℕ → List ℕ
zeroes n = replicate n 0

zeroes_at : (n i : ℕ) → get_or (zeroes n) i 0 ≡ 0
zeroes_at n i = elim (cases_lt i n) [
  | inl h ↦ get_or-replicate n i 0 0 h
  | inr h ↦ get_or_past (zeroes n) i 0 (let t : length (zeroes n) ≡ n = length-replicate n 0 in omega arith)
]

pub no_zeroes : (n m : ℕ) → Has (zeroes n) m → ⊥
no_zeroes n m h = let t : 1 ≡ 0 = sym (one_is _ h) ∙ ap (λ x. bit_at x (m % 64)) (zeroes_at n (m / 64)) ∙ bit_at-zero (m % 64) in omega (arith, t)

pub empty_holds : (s : LengthSet) (m : ℕ) → s.words ≡ zeroes 128 → In s m → ⊥
unfolding In
empty_holds s m e h = no_zeroes 128 m (let P : List ℕ → Type 0 = λ ws. Has ws m in subst P e h)

-- ---- the numbers of the one or the other
or_at : (xs ys : List ℕ) (i : ℕ) → length xs ≡ length ys → get_or (zip2 bit_or xs ys) i 0 ≡ bit_or (get_or xs i 0) (get_or ys i 0)
or_at [] [] i h = refl
or_at [] (y ∷ ys) i h = absurd (omega (arith, h))
or_at (x ∷ xs) [] i h = absurd (omega (arith, h))
or_at (x ∷ xs) (y ∷ ys) zero h = refl
or_at (x ∷ xs) (y ∷ ys) (suc i) h = or_at xs ys i (omega (arith, h))

pub max_one : (x y : ℕ) → x < 2 → y < 2 → max x y ≡ 1 → (x ≡ 1) ⊎ (y ≡ 1)
max_one x y hx hy e = elim (cases_eq x 1) [ inl h ↦ inl h | inr h ↦ inr (omega arith) ]

pub join_holds : (a b s : LengthSet) → length a.words ≡ 128 → length b.words ≡ 128 → s.words ≡ zip2 bit_or a.words b.words → (m : ℕ) → In s m ↔ (In a m ⊎ In b m)
join_holds a b s la lb e m =
    let x = get_or a.words (m / 64) 0 in let y = get_or b.words (m / 64) 0 in let j = m % 64 in
    let at : bit_at (get_or s.words (m / 64) 0) j ≡ max (bit_at x j) (bit_at y j) = ap (λ (w : List ℕ). bit_at (get_or w (m / 64) 0) j) e ∙ ap (λ w. bit_at w j) (or_at a.words b.words (m / 64) (la ∙ sym lb)) ∙ bit_at_or x y j in (
      λ h. elim (max_one (bit_at x j) (bit_at y j) (bit_at-lt x j) (bit_at-lt y j) (sym at ∙ in_words s m h)) [ inl g ↦ inl (words_in a m g) | inr g ↦ inr (words_in b m g) ],
      λ h. words_in s m (at ∙ elim h [
        | inl g ↦ (let t = in_words a m g in let u = bit_at-lt y j in omega (arith, t, u))
        | inr g ↦ (let t = in_words b m g in let u = bit_at-lt x j in omega (arith, t, u))
      ]),
    )

-- ---- one number
pub single_holds : (s : LengthSet) (n : ℕ) → n ≤ 8191 → s.words ≡ set (zeroes 128) (n / 64) (1 * 2 ^ (n % 64) % 2 ^ 64) → (m : ℕ) → In s m ↔ (m ≡ n)
single_holds s n small e m =
    let i = m / 64 in let j = m % 64 in
    let len : length (zeroes 128) ≡ 128 = length-replicate {A = ℕ} 128 0 in
    let cut : 1 * 2 ^ (n % 64) % 2 ^ 64 ≡ 2 ^ (n % 64) = one_shl (n % 64) 64 (omega arith) in
    let word : n / 64 ≡ i → get_or s.words i 0 ≡ 2 ^ (n % 64) = λ h. ap (λ (w : List ℕ). get_or w i 0) e ∙ ap (λ k. get_or (set (zeroes 128) (n / 64) (1 * 2 ^ (n % 64) % 2 ^ 64)) k 0) (sym h) ∙ get_or-set_same (zeroes 128) (n / 64) (1 * 2 ^ (n % 64) % 2 ^ 64) 0 (omega arith) ∙ cut in
    let other : (i ≡ n / 64 → ⊥) → get_or s.words i 0 ≡ 0 = λ h. ap (λ (w : List ℕ). get_or w i 0) e ∙ get_or-set_other (zeroes 128) (n / 64) i (1 * 2 ^ (n % 64) % 2 ^ 64) 0 h ∙ zeroes_at 128 i in (
      λ h.
          let bit = in_words s m h in
          elim (cases_eq i (n / 64)) [
            | inl same ↦
                elim (cases_eq j (n % 64)) [
                  | inl spot ↦ omega arith
                  | inr off ↦ (let t : 1 ≡ 0 = sym bit ∙ ap (λ x. bit_at x j) (word (sym same)) ∙ bit_at-pow_other (n % 64) j off in absurd (omega (arith, t)))
                ]
            | inr off ↦ (let t : 1 ≡ 0 = sym bit ∙ ap (λ x. bit_at x j) (other off) ∙ bit_at-zero j in absurd (omega (arith, t)))
          ],
      λ h.
          let a : n / 64 ≡ i = omega arith in
          let b : j ≡ n % 64 = omega arith in
          words_in s m (ap (λ x. bit_at x j) (word a) ∙ ap (λ k. bit_at (2 ^ (n % 64)) k) b ∙ bit_at-pow_same (n % 64)),
    )

pub tested : (s : LengthSet) (n : ℕ) → IsTrue (bit_and (get_or s.words (n / 64) 0 / 2 ^ (n % 64)) 1 == 1) ↔ In s n
tested s n =
    let at : bit_and (get_or s.words (n / 64) 0 / 2 ^ (n % 64)) 1 ≡ bit_at (get_or s.words (n / 64) 0) (n % 64) = shr_and_one (get_or s.words (n / 64) 0) (n % 64) in (
      λ h. words_in s n (sym at ∙ one_is _ h),
      λ h. is_one _ (at ∙ in_words s n h),
    )

-- ---- sums of this many numbers
pub record SumsOf (n : ℕ) (A : ℕ → Type 0) (s : LengthSet) : Type 0 where
  pub are : (m : ℕ) → In s m ↔ (SumOf n A m × (m ≤ 8191))

pub times_none : (A : ℕ → Type 0) (s : LengthSet) → ((m : ℕ) → In s m ↔ (m ≡ 0)) → SumsOf 0 A s
times_none A s h = record { are = λ m. (λ x. (let e = (h m).0 x in let t : m ≤ 8191 = omega (arith, e) in (e, t)), λ (e, le). (h m).1 e) }

pub times_more : (n : ℕ) (A : ℕ → Type 0) (s next : LengthSet) → SumsOf n A s → ((m : ℕ) → In next m ↔ (Plus A (In s) m × (m ≤ 8191))) → SumsOf (suc n) A next
times_more n A s next h all = record {
  are = λ m. (
    λ x. (let z = (all m).0 x in let p = z.0 in ((p.0, p.1, p.2, ((h.are p.1).0 p.3).0, p.4), z.1)),
    λ ((j, k, a, b, e), le). (all m).1 ((j, k, a, (h.are k).1 (b, (let t : k ≤ 8191 = omega (arith, e, le) in t)), e), le),
  );
}
