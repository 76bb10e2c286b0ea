-- Where the last word of a text begins.
use Rattle.std.proofs.Common.{◌≡◌, ℕ, zero, suc, ◌+◌, ◌-◌, ◌<◌, ◌≤◌, Bool, true, false, cond, not, ◌&&◌, eqb, List, [], ◌∷◌, ◌++◌, length, take, drop, slice_index, refl, sym, ap, subst, ◌∙◌, arith}
use Rattle.std.specs.List.{list_all}
use Rattle.std.proofs.lemmas.Bool.{eqb-true}
use Rattle.std.proofs.lemmas.Bool.Decides.{nat_tests}
use Rattle.std.proofs.lemmas.List.{append_assoc, drop-append-le, drop_at, get_or_append_left, length-append, take_all, take_at}
use Rattle.std.proofs.lemmas.List.Folds.{list_all-append}
use Rattle.hex.specs.Hex.{is_hex_digit}
use Rattle.etcs_runs.specs.Digits.{bare, before_last, before_words, has_0x, is_gap, is_joint, is_x, kept, without_end}
use Rattle.etcs_runs.specs.Finds.{IsKnown, IsStart}
use Rattle.etcs_runs.proofs.LastWords.{both}
use Rattle.etcs_runs.proofs.Fronts.{all_with, before_words-begins, without_end-append, without_end-first, without_end-none}
use Rattle.etcs_runs.proofs.Pure.{not_joint}

-- ---- Characters.

gap_joint : (c : ℕ) → is_gap c ≡ true → is_joint c ≡ true
gap_joint c h = grind (arith, nat_tests)

x_joint : (c : ℕ) → is_x c ≡ true → not (is_joint c) ≡ true
x_joint c h = grind (arith, nat_tests)

all_map : (p q : ℕ → Bool) → ((c : ℕ) → p c ≡ true → q c ≡ true) → (xs : List ℕ) → list_all p xs ≡ true → list_all q xs ≡ true
all_map p q f [] h = refl
all_map p q f (c ∷ cs) h =
    let s = both (p c) (list_all p cs) h in
    all_with (q c) (list_all q cs) (f c s.0) (all_map p q f cs s.1)

bare_with : (b : Bool) (w : List ℕ) → has_0x w ≡ b → list_all is_hex_digit (cond b (drop 2 w) w) ≡ true → list_all (λ c. not (is_joint c)) w ≡ true
bare_with false w h all = all_map is_hex_digit (λ c. not (is_joint c)) not_joint w all
bare_with true [] h all = cc h
bare_with true (a ∷ []) h all = cc (sym (both (eqb a 48) false h).1)
bare_with true (a ∷ b ∷ cs) h all =
    let s = both (eqb a 48) (is_x b) h in
    let first : not (is_joint a) ≡ true = ap (λ c. not (is_joint c)) (eqb-true a 48 s.0) in
    all_with (not (is_joint a)) (not (is_joint b) && list_all (λ c. not (is_joint c)) cs) first (all_with (not (is_joint b)) (list_all (λ c. not (is_joint c)) cs) (x_joint b s.1) (all_map is_hex_digit (λ c. not (is_joint c)) not_joint cs all))

-- a word of digits has no joint, `0x` in front or not
pub bare_joins : (w : List ℕ) → list_all is_hex_digit (bare w) ≡ true → list_all (λ c. not (is_joint c)) w ≡ true
bare_joins w all = bare_with (has_0x w) w refl all

-- ---- The end of a text.

kept_rest : (at : ℕ → Bool) (c : ℕ) (cs s r : List ℕ) (b : Bool) → at c ≡ b → cs ≡ s ++ r → list_all at r ≡ true → (rest : List ℕ) × (c ∷ cs ≡ kept b c s ++ rest) × (list_all at rest ≡ true)
kept_rest at c cs [] r true here is all = (c ∷ cs, refl, all_with (at c) (list_all at cs) here (ap (list_all at) is ∙ all))
kept_rest at c cs (x ∷ xs) r true here is all = (r, ap (λ (z : List ℕ). c ∷ z) is, all)
kept_rest at c cs s r false here is all = (r, ap (λ (z : List ℕ). c ∷ z) is, all)

end_rest : (at : ℕ → Bool) (t : List ℕ) → (rest : List ℕ) × (t ≡ without_end at t ++ rest) × (list_all at rest ≡ true)
end_rest at [] = ([], refl, refl)
end_rest at (c ∷ cs) =
    let r = end_rest at cs in
    kept_rest at c cs (without_end at cs) r.0 (at c) refl r.1 r.2

kept_longer : (b : Bool) (c : ℕ) (xs : List ℕ) → 0 < length xs → kept b c xs ≡ c ∷ xs
kept_longer true c [] some = absurd (omega (arith, some))
kept_longer true c (x ∷ xs) some = refl
kept_longer false c xs some = refl

-- what is before a text that doesn't lose all
pub without_end-after : (at : ℕ → Bool) (xs w : List ℕ) → 0 < length (without_end at w) → without_end at (xs ++ w) ≡ xs ++ without_end at w
without_end-after at [] w some = refl
without_end-after at (c ∷ cs) w some =
    ap (kept (at c) c) (without_end-after at cs w some) ∙ kept_longer (at c) c (cs ++ without_end at w) (omega (arith, some, length-append cs (without_end at w)))

without_end-edge : (at : ℕ → Bool) (t : List ℕ) → (0 < length t → at (slice_index t (length t - 1)) ≡ false) → without_end at t ≡ t
without_end-edge at t edge =
    let all = take_all (length t) t (omega arith) in
    ap (without_end at) (sym all) ∙ without_end-first at t (length t) (omega arith) edge ∙ all

not_it : (b : Bool) → b ≡ true → not b ≡ false
not_it true h = refl
not_it false h = cc h

-- ---- A text before a word, the word, and characters at which it is cut.

module _ (at : ℕ → Bool) (xs w : List ℕ) (word : list_all (λ c. not (at c)) w ≡ true) (some : 0 < length w) where
  pub word_ends : without_end at (xs ++ w) ≡ xs ++ w
  word_ends =
      let none = without_end-none at w word in
      without_end-after at xs w (omega (arith, ap length none, some)) ∙ ap (λ (z : List ℕ). xs ++ z) none

  pub word_last : (0 < length xs → at (slice_index xs (length xs - 1)) ≡ true) → before_last at (xs ++ w) ≡ xs
  word_last edge =
      ap (without_end (λ c. not (at c))) word_ends
      ∙ without_end-append (λ c. not (at c)) xs w word
      ∙ without_end-edge (λ c. not (at c)) xs (λ n. not_it (at (slice_index xs (length xs - 1))) (edge n))

module _ (text xs w : List ℕ) (is : without_end is_gap text ≡ xs ++ w) (word : list_all (λ c. not (is_gap c)) w ≡ true) (edge : 0 < length xs → is_gap (slice_index xs (length xs - 1)) ≡ true) where
  rest : (r : List ℕ) × (text ≡ (xs ++ w) ++ r) × (list_all is_gap r ≡ true)
  rest =
      let e = end_rest is_gap text in
      (e.0, e.1 ∙ ap (λ (z : List ℕ). z ++ e.0) is, e.2)

  parts : text ≡ xs ++ (w ++ rest.0)
  parts = rest.1 ∙ append_assoc xs w rest.0

  pub word_starts : IsStart text (length xs)
  word_starts less = (
    ap (λ (z : List ℕ). list_all (λ c. not (is_gap c)) (drop (length xs) z)) is ∙ ap (list_all (λ c. not (is_gap c))) (drop_at xs w (length xs) refl) ∙ word,
    λ some. ap (λ (z : List ℕ). is_gap (slice_index z (length xs - 1))) parts ∙ ap is_gap (get_or_append_left xs (w ++ rest.0) 0 (length xs - 1) (omega (arith, some))) ∙ edge some,
  )

  -- a word without joints
  pub word_front : list_all (λ c. not (is_joint c)) w ≡ true → 0 < length w → take (length xs) text ≡ before_words is_joint 1 text
  word_front joins some =
      ap (take (length xs)) parts
      ∙ take_at xs (w ++ rest.0) (length xs) refl
      ∙ sym (ap (before_last is_joint) rest.1
      ∙ ap (without_end (λ c. not (is_joint c))) (without_end-append is_joint (xs ++ w) rest.0 (all_map is_gap is_joint gap_joint rest.0 rest.2))
      ∙ word_last is_joint xs w joins some (λ n. gap_joint (slice_index xs (length xs - 1)) (edge n)))

-- ---- What is before some parts of the last word.

before_joints : (n : ℕ) (text : List ℕ) → 0 < n → before_words is_joint n text ≡ before_words is_joint n (without_end is_gap text)
before_joints zero text some = absurd (omega (arith, some))
before_joints (suc n) text some =
    let e = end_rest is_gap text in
    let ends = without_end-append is_joint (without_end is_gap text) e.0 (all_map is_gap is_joint gap_joint e.0 e.2) in
    ap (λ (z : List ℕ). before_words is_joint n (without_end (λ c. not (is_joint c)) z)) (ap (without_end is_joint) e.1 ∙ ends)

pub front_known : (text front : List ℕ) (start n : ℕ) → IsStart text start → 0 < n → front ≡ before_words is_joint n text → IsKnown front start
front_known text front start n starts some is less =
    let word = without_end is_gap text in
    let e = end_rest is_gap text in
    let b = before_words-begins is_joint n word in
    let begins : word ≡ front ++ b.0 = b.1 ∙ ap (λ (z : List ℕ). z ++ b.0) (sym (is ∙ before_joints n text some)) in
    let all : text ≡ front ++ (b.0 ++ e.0) = e.1 ∙ ap (λ (z : List ℕ). z ++ e.0) begins ∙ append_assoc front b.0 e.0 in
    let s = starts (omega (arith, less, ap length all, length-append front (b.0 ++ e.0))) in
    let rest : drop start word ≡ drop start front ++ b.0 = ap (drop start) begins ∙ drop-append-le start front b.0 (omega (arith, less)) in
    let apart = both (list_all (λ c. not (is_gap c)) (drop start front)) (list_all (λ c. not (is_gap c)) b.0) (sym (ap (list_all (λ c. not (is_gap c))) rest ∙ list_all-append (λ c. not (is_gap c)) (drop start front) b.0) ∙ s.0) in (
      apart.0,
      λ n. sym (ap (λ (z : List ℕ). is_gap (slice_index z (start - 1))) all ∙ ap is_gap (get_or_append_left front (b.0 ++ e.0) 0 (start - 1) (omega (arith, less)))) ∙ s.1 n,
    )
