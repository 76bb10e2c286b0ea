-- What is left either begins with the numbers of a run, in the bits of its widths, or lacks one.
use Rattle.std.proofs.Common.{◌≡◌, ℕ, ◌+◌, ◌≤◌, Bool, true, false, List, length, drop, Option, Some, None, refl, sym, subst, ◌∙◌, arith, inl, inr}
use Rattle.std.specs.Prelude.{◌⊎◌, nat_eq}
use Rattle.std.proofs.lemmas.Bool.{cases_lt}
use Rattle.etcs_bits.specs.Bits.{number_at, value, part}
use Rattle.etcs_bits.proofs.Positions.{number_past, number_inside}
use Rattle.etcs_vars.specs.declared.var.Var.{Var}
use Rattle.etcs_vars.specs.Vars.{width, admits}
use Rattle.etcs_bodies.specs.Taking.{Left, in_bits, next_number, next_flag}
use Rattle.etcs_bodies.specs.Runs.{TakesNumber, TakesBoth, LacksOne, TakesBits}
use Rattle.etcs_bodies.specs.laws.Takes.{number_ok}
use Rattle.etcs_bodies.specs.laws.Sources.{next_is_in_bits, not_in_bits, no_more_bits, flag_is_in_bits, no_flag_in_bits}

number_there : (v : Var) (n : ℕ) (b : List Bool) (k : ℕ) → k + width v ≤ length b → number_at k (width v) b ≡ Some n → (t : Bool) → admits v n ≡ t → (next_number v (in_bits (drop k b)) ≡ None) ⊎ TakesBits (TakesNumber v) (width v) b k
number_there v n b k inside h true e = inr (inside, n, (next_is_in_bits v n b k h e, number_ok v n e, e))
number_there v n b k inside h false e = inl (not_in_bits v n b k h e)

pub number_or_none : (v : Var) (b : List Bool) (k : ℕ) → (next_number v (in_bits (drop k b)) ≡ None) ⊎ TakesBits (TakesNumber v) (width v) b k
number_or_none v b k =
    elim (cases_lt (length b) (k + width v)) [
      | inl past ↦ inl (no_more_bits v b k (number_past k (width v) b past))
      | inr inside ↦
          let n = value (part k (width v) b) in
          number_there v n b k inside (sym (number_inside k (width v) b n inside refl)) (admits v n) refl
    ]

pub flag_or_none : (v : Var) (b : List Bool) (k : ℕ) → (next_flag v (in_bits (drop k b)) ≡ None) ⊎ TakesBits (λ s c t. next_flag v s ≡ Some (c, t)) 1 b k
flag_or_none v b k =
    elim (cases_lt (length b) (k + 1)) [
      | inl past ↦ inl (no_flag_in_bits v b k (number_past k 1 b past))
      | inr inside ↦
          let n = value (part k 1 b) in
          inr (inside, nat_eq n 1, flag_is_in_bits v n b k (sym (number_inside k 1 b n inside refl)))
    ]

pub both_or_none : {V W : Type 0} (takes : Left → V → Left → Type 0) (lacks : Left → Type 0) (w : ℕ) (takes' : Left → W → Left → Type 0) (lacks' : Left → Type 0) (w' : ℕ) → ((b : List Bool) (k : ℕ) → lacks (in_bits (drop k b)) ⊎ TakesBits takes w b k) → ((b : List Bool) (k : ℕ) → lacks' (in_bits (drop k b)) ⊎ TakesBits takes' w' b k) → (b : List Bool) (k : ℕ) → LacksOne takes lacks lacks' (in_bits (drop k b)) ⊎ TakesBits (TakesBoth takes takes') (w + w') b k
both_or_none takes lacks w takes' lacks' w' first second b k =
    elim (first b k) [
      | inl l ↦ inl (inl l)
      | inr h ↦ elim (second b (k + w)) [
        | inl l ↦ inl (inr (h.1, in_bits (drop (k + w) b), h.2, l))
        | inr i ↦
            let all : k + w + w' ≡ k + (w + w') = omega arith in
            inr (omega (arith, i.0), (h.1, i.1), (in_bits (drop (k + w) b), h.2, subst (λ j. takes' (in_bits (drop (k + w) b)) i.1 (in_bits (drop j b))) all i.2))
      ]
    ]

-- if the bits of a run aren't all there, one of its numbers isn't
pub none_past : {V : Type 0} (takes : Left → V → Left → Type 0) (lacks : Left → Type 0) (w : ℕ) (b : List Bool) (k : ℕ) → (lacks (in_bits (drop k b)) ⊎ TakesBits takes w b k) → number_at k w b ≡ None → lacks (in_bits (drop k b))
none_past takes lacks w b k either h =
    elim either [
      | inl l ↦ l
      | inr there ↦
          let found : ◌≡◌ {A = Option ℕ} (Some (value (part k w b))) None = number_inside k w b (value (part k w b)) there.0 refl ∙ h in
          absurd cc
    ]
