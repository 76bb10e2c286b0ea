-- The digits of words, the last first.
use Rattle.std.proofs.Common.{◌≡◌, ℕ, zero, suc, ◌+◌, arith, sym, Bool, true, cond, eqb, false, List, [], ◌∷◌, ◌++◌, length, map, reverse, ap, ◌∙◌}
use Rattle.std.specs.List.{list_all}
use Rattle.std.proofs.lemmas.Bool.{eqb-true}
use Rattle.std.proofs.lemmas.List.{append_assoc, map-append, reverse-append}
use Rattle.hex.specs.Hex.{is_hex_digit}
use Rattle.etcs_runs.specs.Digits.{are_digits, are_enough, bare, before_last, before_words, found_words, last_first, run, run_words, searched, searched_words, words}
use Rattle.etcs_runs.proofs.LastWords.{both}

pub last_first-last : (at : ℕ → Bool) (t before word : List ℕ) → words at t ≡ words at before ++ word ∷ [] → last_first at t ≡ bare word ∷ last_first at before
last_first-last at t before word h =
    ap (λ (z : List (List ℕ)). reverse (map bare z)) h
    ∙ ap reverse (map-append bare (words at before) (word ∷ []))
    ∙ reverse-append (map bare (words at before)) (bare word ∷ [])

run_with : (b : Bool) → b ≡ true → (front w beyond : List ℕ) → cond b (front ++ w) [] ++ beyond ≡ front ++ (w ++ beyond)
run_with true h front w beyond = append_assoc front w beyond
run_with false h front w beyond = cc h

pub run_more : (n : ℕ) (w : List ℕ) (ws : List (List ℕ)) (beyond : List ℕ) → are_digits n w ≡ true → run n (w ∷ ws) ++ beyond ≡ run n ws ++ (w ++ beyond)
run_more n w ws beyond h = run_with (are_digits n w) h (run n ws) w beyond

pub digits_long : (n : ℕ) (w : List ℕ) → are_digits n w ≡ true → length w ≡ n
digits_long n w h = eqb-true (length w) n (both (eqb (length w) n) (list_all is_hex_digit w) h).0

-- one that is comes before those that were taken
pub take_more_digits : (at : ℕ → Bool) (n : ℕ) (rest before word : List ℕ) → words at rest ≡ words at before ++ word ∷ [] → are_digits n (bare word) ≡ true → (digits : List ℕ) → run n (last_first at rest) ++ digits ≡ run n (last_first at before) ++ (bare word ++ digits)
take_more_digits at n rest before word is digit digits =
    ap (λ (z : List (List ℕ)). run n z ++ digits) (last_first-last at rest before word is) ∙ run_more n (bare word) (last_first at before) digits digit

pub no_words : (at : ℕ → Bool) (t : List ℕ) → words at t ≡ [] → last_first at t ≡ []
no_words at t h = ap (λ (z : List (List ℕ)). reverse (map bare z)) h

-- words that never have enough digits
pub found_words-none : (digits_of : List (List ℕ) → List ℕ) (words_of : List (List ℕ) → ℕ) (ws : List (List ℕ)) → searched digits_of ws ≡ [] → found_words digits_of words_of ws ≡ words_of ws
found_words-none digits_of words_of ws is = ap (λ (z : List ℕ). cond (are_enough z) (searched_words digits_of words_of ws) (words_of ws)) is

-- ---- What is before words that have n digits each.

pub before_more : (at : ℕ → Bool) (n : ℕ) (rest before w : List ℕ) (ws : List (List ℕ)) → last_first at rest ≡ w ∷ ws → are_digits n w ≡ true → before ≡ before_last at rest → before_words at (run_words n (last_first at rest)) rest ≡ before_words at (run_words n ws) before
before_more at n rest before w ws is digit front =
    ap (λ (z : List (List ℕ)). before_words at (run_words n z) rest) is
    ∙ ap (λ (b : Bool). before_words at (cond b (suc (run_words n ws)) 0) rest) digit
    ∙ ap (before_words at (run_words n ws)) (sym front)

pub before_other : (at : ℕ → Bool) (n : ℕ) (rest w : List ℕ) (ws : List (List ℕ)) → last_first at rest ≡ w ∷ ws → are_digits n w ≡ false → before_words at (run_words n (last_first at rest)) rest ≡ rest
before_other at n rest w ws is other =
    ap (λ (z : List (List ℕ)). before_words at (run_words n z) rest) is
    ∙ ap (λ (b : Bool). before_words at (cond b (suc (run_words n ws)) 0) rest) other

pub before_none : (at : ℕ → Bool) (n : ℕ) (rest : List ℕ) → words at rest ≡ [] → before_words at (run_words n (last_first at rest)) rest ≡ rest
before_none at n rest none = ap (λ (z : List (List ℕ)). before_words at (run_words n z) rest) (no_words at rest none)

-- words before words
pub before_words-add : (at : ℕ → Bool) (n m : ℕ) (text : List ℕ) → before_words at (n + m) text ≡ before_words at m (before_words at n text)
before_words-add at zero m text =
    let sum : 0 + m ≡ m = omega arith in
    ap (λ k. before_words at k text) sum
before_words-add at (suc n) m text =
    let sum : suc n + m ≡ suc (n + m) = omega arith in
    ap (λ k. before_words at k text) sum ∙ before_words-add at n m (before_last at text)
