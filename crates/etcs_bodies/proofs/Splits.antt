-- The numbers of variables whose bits lie one after another in a word.
use Rattle.std.proofs.Common.{◌≡◌, ℕ, ◌+◌, ◌/◌, ◌%◌, ◌^◌, ◌≤◌, Bool, List, ◌++◌, length, take, drop, Option, Some, None, sym, ap, subst, ◌∙◌, arith, inl, inr}
use Rattle.std.proofs.lemmas.Bool.{cases_lt}
use Rattle.std.proofs.Math.Seq.{take-append_seam, drop-append_seam}
use Rattle.etcs_bits.specs.Bits.{num, value, part, number_at}
use Rattle.etcs_bits.proofs.Numbers.{length-num, num-add, value-num_low}
use Rattle.etcs_bits.proofs.Lists.{length-part, part-add}
use Rattle.etcs_bits.proofs.Positions.{number_inside, number_past}
use Rattle.etcs_bits.proofs.Views.{number_bits}
use Rattle.etcs_bodies.specs.Runs.{LiesAt}

-- two lists of which the first parts are equally long
halves : (xs ys xs' ys' : List Bool) → length xs ≡ length xs' → xs ++ ys ≡ xs' ++ ys' → (xs ≡ xs') × (ys ≡ ys')
halves xs ys xs' ys' l e = (
  sym (take-append_seam xs ys) ∙ ap (take (length xs)) e ∙ ap (λ k. take k (xs' ++ ys')) l ∙ take-append_seam xs' ys',
  sym (drop-append_seam xs ys) ∙ ap (drop (length xs)) e ∙ ap (λ k. drop k (xs' ++ ys')) l ∙ drop-append_seam xs' ys',
)

both_lie : (word w m : ℕ) (b : List Bool) (k : ℕ) → LiesAt word (w + m) b k → (num w (word / 2 ^ m) ≡ part k w b) × (num m word ≡ part (k + w) m b)
both_lie word w m b k h =
    let inside = h.inside in
    halves (num w (word / 2 ^ m)) (num m word) (part k w b) (part (k + w) m b)
    (length-num w (word / 2 ^ m) ∙ sym (length-part k w b (omega (arith, inside))))
    (sym (num-add w m word) ∙ h.bits ∙ part-add k w m b)

-- the number in the first of them
pub first_lies : (word w m : ℕ) (b : List Bool) (k : ℕ) → LiesAt word (w + m) b k → number_at k w b ≡ Some (word / 2 ^ m % 2 ^ w)
first_lies word w m b k h =
    let inside = h.inside in
    sym (number_inside k w b (word / 2 ^ m % 2 ^ w) (omega (arith, inside)) (sym (value-num_low w (word / 2 ^ m)) ∙ ap value (both_lie word w m b k h).0))

-- and those after them
pub second_lies : (word w m : ℕ) (b : List Bool) (k : ℕ) → LiesAt word (w + m) b k → LiesAt word m b (k + w)
second_lies word w m b k h =
    let inside = h.inside in
    record { inside = omega (arith, inside); bits = (both_lie word w m b k h).1 }

pub lies_further : (word a c m : ℕ) (b : List Bool) (k : ℕ) → LiesAt word (a + c + m) b k → LiesAt word (a + (c + m)) b k
lies_further word a c m b k h =
    let all : a + c + m ≡ a + (c + m) = omega arith in
    subst (λ j. LiesAt word j b k) all h

is_inside : (n w : ℕ) (b : List Bool) (k : ℕ) → number_at k w b ≡ Some n → k + w ≤ length b
is_inside n w b k h =
    elim (cases_lt (length b) (k + w)) [
      | inl past ↦ let none : ◌≡◌ {A = Option ℕ} None (Some n) = sym (number_past k w b past) ∙ h in absurd cc
      | inr inside ↦ inside
    ]

-- a word of all of them
pub word_lies : (word w : ℕ) (b : List Bool) (k : ℕ) → number_at k w b ≡ Some word → LiesAt word (w + 0) b k
word_lies word w b k h =
    let whole : w ≡ w + 0 = omega arith in
    let inside = is_inside word w b k h in
    subst (λ j. LiesAt word j b k) whole (record { inside = inside; bits = number_bits k w word b inside h })
