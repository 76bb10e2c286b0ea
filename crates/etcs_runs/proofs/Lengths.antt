-- A text has as many characters as its digits, or more.
use Rattle.std.proofs.Common.{◌≡◌, ℕ, zero, suc, ◌+◌, ◌≤◌, Bool, true, false, cond, nat_le, List, [], ◌∷◌, ◌++◌, length, drop, map, reverse, filter, refl, sym, ap, ◌∙◌, arith}
use Rattle.std.specs.List.{list_all}
use Rattle.std.proofs.lemmas.Bool.Decides.{nat_tests}
use Rattle.std.proofs.lemmas.List.{length-append, length-drop}
use mathlib.Core.List.{reverse-cons}
use Rattle.hex.specs.Hex.{is_hex_digit}
use Rattle.etcs_runs.specs.Digits.{are_digits, are_enough, bare, cut, end_digits, found, group_size, groups, grown, has_0x, has_some, is_gap, is_group, is_joint, last_first, run, searched, text_digits, word_digits, words}

-- how many characters words have
abbrev total : List (List ℕ) → ℕ
total [] = 0
total (w ∷ ws) = length w + total ws

total-append : (ws vs : List (List ℕ)) → total (ws ++ vs) ≡ total ws + total vs
total-append [] vs = omega arith
total-append (w ∷ ws) vs = omega (arith, total-append ws vs)

total-reverse : (ws : List (List ℕ)) → total (reverse ws) ≡ total ws
total-reverse [] = refl
total-reverse (w ∷ ws) = ap total (reverse-cons w ws) ∙ omega (arith, total-append (reverse ws) (w ∷ []), total-reverse ws)

bare_with : (b : Bool) (w : List ℕ) → length (cond b (drop 2 w) w) ≤ length w
bare_with true w = omega (arith, length-drop 2 w)
bare_with false w = omega arith

total-bare : (ws : List (List ℕ)) → total (map bare ws) ≤ total ws
total-bare [] = omega arith
total-bare (w ∷ ws) = omega (arith, bare_with (has_0x w) w, total-bare ws)

some_with : (b : Bool) (w : List ℕ) (vs : List (List ℕ)) (n : ℕ) → total vs ≤ n → total (cond b (w ∷ vs) vs) ≤ length w + n
some_with true w vs n h = omega (arith, h)
some_with false w vs n h = omega (arith, h)

total-some : (ws : List (List ℕ)) → total (filter has_some ws) ≤ total ws
total-some [] = omega arith
total-some (w ∷ ws) = some_with (has_some w) w (filter has_some ws) (total ws) (total-some ws)

total-grown : (c : ℕ) (ws : List (List ℕ)) → total (grown c ws) ≡ 1 + total ws
total-grown c [] = refl
total-grown c (w ∷ ws) = omega arith

cut_with : (b : Bool) (c n : ℕ) (ws : List (List ℕ)) → total ws ≤ n → total (cond b ([] ∷ ws) (grown c ws)) ≤ suc n
cut_with true c n ws h = omega (arith, h)
cut_with false c n ws h = omega (arith, h, total-grown c ws)

total-cut : (at : ℕ → Bool) (text : List ℕ) → total (cut at text) ≤ length text
total-cut at [] = omega arith
total-cut at (c ∷ cs) = cut_with (at c) c (length cs) (cut at cs) (total-cut at cs)

total-words : (at : ℕ → Bool) (text : List ℕ) → total (last_first at text) ≤ length text
total-words at text = omega (arith, total-reverse (map bare (words at text)), total-bare (words at text), total-some (cut at text), total-cut at text)

-- ---- The digits of words.

run_with : (b : Bool) (xs w : List ℕ) (n : ℕ) → length xs ≤ n → length (cond b (xs ++ w) []) ≤ length w + n
run_with true xs w n h = omega (arith, h, length-append xs w)
run_with false xs w n h = omega arith

run-short : (n : ℕ) (ws : List (List ℕ)) → length (run n ws) ≤ total ws
run-short n [] = omega arith
run-short n (w ∷ ws) = run_with (are_digits n w) (run n ws) w (total ws) (run-short n ws)

either_short : (b : Bool) (xs ys : List ℕ) (n : ℕ) → length xs ≤ n → length ys ≤ n → length (cond b xs ys) ≤ n
either_short true xs ys n h g = h
either_short false xs ys n h g = g

groups-short : (ws : List (List ℕ)) → length (groups ws) ≤ total ws
groups-short [] = omega arith
groups-short (w ∷ ws) =
    let r = run (group_size (length w) ws) ws in
    either_short (is_group w) (r ++ w) (cond (list_all is_hex_digit w) w []) (length w + total ws) (omega (arith, length-append r w, run-short (group_size (length w) ws) ws)) (either_short (list_all is_hex_digit w) w [] (length w + total ws) (omega arith) (omega arith))

module _ (digits_of : List (List ℕ) → List ℕ) (short : (ws : List (List ℕ)) → length (digits_of ws) ≤ total ws) where
  searched-short : (ws : List (List ℕ)) → length (searched digits_of ws) ≤ total ws
  searched-short [] = omega arith
  searched-short (w ∷ ws) = either_short (are_enough (digits_of (w ∷ ws))) (digits_of (w ∷ ws)) (searched digits_of ws) (length w + total ws) (short (w ∷ ws)) (omega (arith, searched-short ws))

  found-short : (ws : List (List ℕ)) → length (found digits_of ws) ≤ total ws
  found-short ws = either_short (are_enough (searched digits_of ws)) (searched digits_of ws) (digits_of ws) (total ws) (searched-short ws) (short ws)

word-short : (w : List ℕ) → length (word_digits w) ≤ length w
word-short w = omega (arith, found-short groups groups-short (last_first is_joint w), total-words is_joint w)

end-short : (ws : List (List ℕ)) → length (end_digits ws) ≤ total ws
end-short [] = omega arith
end-short (w ∷ ws) = either_short (is_group w) (groups (w ∷ ws)) (word_digits w) (length w + total ws) (groups-short (w ∷ ws)) (omega (arith, word-short w))

digits-short : (text : List ℕ) → length (text_digits text) ≤ length text
digits-short text = omega (arith, found-short end_digits end-short (last_first is_gap text), total-words is_gap text)

pub too_short : (text : List ℕ) → length text + 1 ≤ 20 → are_enough (text_digits text) ≡ false
too_short text short =
    let few : length (text_digits text) + 1 ≤ 20 = omega (arith, short, digits-short text) in
    grind (arith, nat_tests, few)
