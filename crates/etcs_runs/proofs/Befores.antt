-- The runs before one.
use Rattle.std.proofs.Common.{◌≡◌, ℕ, zero, suc, ◌-◌, ◌<◌, ◌≤◌, Bool, true, false, cond, nat_le, length, take, List, [], ◌∷◌, refl, sym, ap, ◌∙◌, arith}
use Rattle.std.proofs.lemmas.Bool.Decides.{nat_tests}
use Rattle.etcs_runs.specs.Digits.{are_enough, before_digits, before_last, text_digits, without_end}
use Rattle.etcs_runs.specs.LineRuns.{before_last_digits, enough_runs}

module _ (left : ℕ) (text front : List ℕ) (some : 0 < left) (is : front ≡ before_digits text) where
  before_with : (n : ℕ) → 0 < n → (b : Bool) → are_enough (text_digits front) ≡ b → enough_runs n front ≡ cond b (front ∷ enough_runs (n - 1) (before_digits front)) []
  before_with zero lt b h = absurd (omega (arith, lt))
  before_with (suc n) lt b h =
      let less : n ≡ suc n - 1 = omega arith in
      ap (λ (z : Bool). cond z (front ∷ enough_runs n (before_digits front)) []) h
      ∙ ap (λ (k : ℕ). cond b (front ∷ enough_runs k (before_digits front)) []) less

  pub run_before : (b : Bool) → are_enough (text_digits front) ≡ b → enough_runs left (before_digits text) ≡ cond b (front ∷ enough_runs (left - 1) (before_digits front)) []
  run_before b h = ap (enough_runs left) (sym is) ∙ before_with left some b h

pub no_digits_left : (at : ℕ → Bool) (ws : List (List ℕ)) (n : ℕ) (text : List ℕ) → n ≤ 0 → before_last_digits at ws n text ≡ text
no_digits_left at [] n text h = refl
no_digits_left at (w ∷ ws) zero text h = refl
no_digits_left at (w ∷ ws) (suc n) text h = absurd (omega (arith, h))

pub inside_of_word : (at : ℕ → Bool) (w : List ℕ) (ws : List (List ℕ)) (n : ℕ) (text : List ℕ) → 0 < n → n < length w → before_last_digits at (w ∷ ws) n text ≡ take (length (without_end at text) - n) text
inside_of_word at w ws zero text some less = absurd (omega (arith, some))
inside_of_word at w ws (suc n) text some less =
    let long : nat_le (length w) (suc n) ≡ false = grind (arith, nat_tests, less) in
    ap (λ (b : Bool). cond b (before_last_digits at ws (suc n - length w) (before_last at text)) (take (length (without_end at text) - suc n) text)) long
