-- Lemmas about specs/Sources.antt.
use Rattle.std.proofs.Common.{◌≡◌, ℕ, zero, suc, ◌+◌, ◌<◌, ◌≤◌, Bool, true, false, nat_eq, List, [], ◌∷◌, length, drop, Option, Some, None, refl, sym, ap, ◌∙◌, nat_le, arith, inl, inr}
use Rattle.std.proofs.Math.Dec.{eqb-suc-zero}
use Rattle.std.proofs.lemmas.Bool.{cases_lt, lt-leb, le-leb}
use Rattle.std.proofs.lemmas.List.{at_drop_more, drop_all, drop-drop, length-drop}
use Rattle.etcs_bits.specs.Bits.{number_at, part, bit}
use Rattle.etcs_bits.proofs.Lists.{part-drop}
use Rattle.etcs_bits.proofs.Positions.{number_past}
use Rattle.etcs_bits.proofs.Views.{number_same}
use Rattle.etcs_vars.specs.declared.var.Var.{Var}
use Rattle.etcs_vars.specs.Vars.{width, admits}
use Rattle.etcs_vars.proofs.Prefixes.{width_pos}
use Rattle.etcs_bodies.specs.Taking.{listed, in_bits, is_spent, next_number, next_flag}

-- ---- Of a list.

pub none_listed : (f : List ℕ) → nat_eq (length f) 0 ≡ is_spent (listed f)
none_listed [] = refl
none_listed (n ∷ f) = eqb-suc-zero (length f)

pub next_is_listed : (v : Var) (n : ℕ) (f : List ℕ) → admits v n ≡ true → next_number v (listed (n ∷ f)) ≡ Some (n, listed f)
unfolding next_number
next_is_listed v n f h = rw h refl

pub not_listed : (v : Var) (n : ℕ) (f : List ℕ) → admits v n ≡ false → next_number v (listed (n ∷ f)) ≡ None
unfolding next_number
not_listed v n f h = rw h refl

pub none_next : (v : Var) (f : List ℕ) → length f ≡ 0 → next_number v (listed f) ≡ None
unfolding next_number
none_next v [] e = refl
none_next v (n ∷ f) e = absurd cc

pub no_flag : (v : Var) (f : List ℕ) → length f ≡ 0 → next_flag v (listed f) ≡ None
unfolding next_flag
no_flag v [] e = refl
no_flag v (n ∷ f) e = absurd cc

pub flag_too_large : (v : Var) (n : ℕ) (f : List ℕ) → 1 < n → next_flag v (listed (n ∷ f)) ≡ None
unfolding next_flag
flag_too_large v zero f h = absurd (omega arith)
flag_too_large v (suc zero) f h = absurd (omega arith)
flag_too_large v (suc (suc n)) f h = refl

pub flag_is_listed : (v : Var) (n : ℕ) (f : List ℕ) → n ≤ 1 → next_flag v (listed (n ∷ f)) ≡ Some (nat_eq n 1, listed f)
unfolding next_flag
flag_is_listed v zero f h = refl
flag_is_listed v (suc zero) f h = refl
flag_is_listed v (suc (suc n)) f h = absurd (omega arith)

-- ---- Of bits.

pub none_in_bits : (b : List Bool) (k : ℕ) → nat_le (length b) k ≡ is_spent (in_bits (drop k b))
none_in_bits b k =
    elim (cases_lt k (length b)) [
      | inl some ↦ lt-leb (length b) k some ∙ sym (at_drop_more (λ l. is_spent (in_bits l)) b k false some)
      | inr none ↦ le-leb (length b) k none ∙ sym (ap (λ l. is_spent (in_bits l)) (drop_all k b none))
    ]

-- a number after those that are taken
beyond : (k w : ℕ) (b : List Bool) → 0 < w → number_at 0 w (drop k b) ≡ number_at k w b
beyond k w b h =
    elim (cases_lt (length b) (k + w)) [
      | inl past ↦ number_past 0 w (drop k b) (omega (arith, length-drop k b)) ∙ sym (number_past k w b past)
      | inr inside ↦
          let none : k + 0 ≡ k = omega arith in
          number_same 0 k w (drop k b) b (omega (arith, length-drop k b)) inside (part-drop k 0 w b ∙ ap (λ i. part i w b) none)
    ]

next_in : (v : Var) (n : ℕ) (b : List Bool) → number_at 0 (width v) b ≡ Some n → admits v n ≡ true → next_number v (in_bits b) ≡ Some (n, in_bits (drop (width v) b))
unfolding next_number
next_in v n b h ok = rw (h, ok) refl

not_in : (v : Var) (n : ℕ) (b : List Bool) → number_at 0 (width v) b ≡ Some n → admits v n ≡ false → next_number v (in_bits b) ≡ None
unfolding next_number
not_in v n b h bad = rw (h, bad) refl

none_in : (v : Var) (b : List Bool) → number_at 0 (width v) b ≡ None → next_number v (in_bits b) ≡ None
unfolding next_number
none_in v b h = rw h refl

pub next_is_in_bits : (v : Var) (n : ℕ) (b : List Bool) (k : ℕ) → number_at k (width v) b ≡ Some n → admits v n ≡ true → next_number v (in_bits (drop k b)) ≡ Some (n, in_bits (drop (k + width v) b))
next_is_in_bits v n b k h ok =
    next_in v n (drop k b) (beyond k (width v) b (width_pos v) ∙ h) ok ∙ ap (λ l. Some (n, in_bits l)) (drop-drop (width v) k b)

pub not_in_bits : (v : Var) (n : ℕ) (b : List Bool) (k : ℕ) → number_at k (width v) b ≡ Some n → admits v n ≡ false → next_number v (in_bits (drop k b)) ≡ None
not_in_bits v n b k h bad = not_in v n (drop k b) (beyond k (width v) b (width_pos v) ∙ h) bad

pub no_more_bits : (v : Var) (b : List Bool) (k : ℕ) → number_at k (width v) b ≡ None → next_number v (in_bits (drop k b)) ≡ None
no_more_bits v b k h = none_in v (drop k b) (beyond k (width v) b (width_pos v) ∙ h)

some_bit : (b : List Bool) → nat_le (0 + 1) (suc (length b)) ≡ true
some_bit b = le-leb (0 + 1) (suc (length b)) (omega arith)

first_bit : (c : Bool) (b : List Bool) → number_at 0 1 (c ∷ b) ≡ Some (bit c)
first_bit true b = rw (some_bit b) refl
first_bit false b = rw (some_bit b) refl

flag_at : (c : Bool) (n : ℕ) → bit c ≡ n → c ≡ nat_eq n 1
flag_at true n e = rw (← e) refl
flag_at false n e = rw (← e) refl

flag_in : (v : Var) (n : ℕ) (b : List Bool) → number_at 0 1 b ≡ Some n → next_flag v (in_bits b) ≡ Some (nat_eq n 1, in_bits (drop 1 b))
unfolding next_flag
flag_in v n [] h = absurd cc
flag_in v n (c ∷ b) h =
    let both : ◌≡◌ {A = Option ℕ} (Some (bit c)) (Some n) = sym (first_bit c b) ∙ h in
    let one : bit c ≡ n = cc in
    rw (← flag_at c n one) refl

no_flag_in : (v : Var) (b : List Bool) → number_at 0 1 b ≡ None → next_flag v (in_bits b) ≡ None
unfolding next_flag
no_flag_in v [] h = refl
no_flag_in v (c ∷ b) h = let both : ◌≡◌ {A = Option ℕ} (Some (bit c)) None = sym (first_bit c b) ∙ h in absurd cc

pub flag_is_in_bits : (v : Var) (n : ℕ) (b : List Bool) (k : ℕ) → number_at k 1 b ≡ Some n → next_flag v (in_bits (drop k b)) ≡ Some (nat_eq n 1, in_bits (drop (k + 1) b))
flag_is_in_bits v n b k h = flag_in v n (drop k b) (beyond k 1 b (omega arith) ∙ h) ∙ ap (λ l. Some (nat_eq n 1, in_bits l)) (drop-drop 1 k b)

pub no_flag_in_bits : (v : Var) (b : List Bool) (k : ℕ) → number_at k 1 b ≡ None → next_flag v (in_bits (drop k b)) ≡ None
no_flag_in_bits v b k h = no_flag_in v (drop k b) (beyond k 1 b (omega arith) ∙ h)
