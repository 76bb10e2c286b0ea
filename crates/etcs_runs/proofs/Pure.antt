-- A line that is nothing but digits.
use Rattle.std.proofs.Common.{◌≡◌, ℕ, ◌-◌, ◌≤◌, ◌%◌, nat_le, nat_lt, ◌<◌, Bool, true, false, cond, not, ◌&&◌, eqb, List, [], ◌∷◌, ◌++◌, length, map, reverse, drop, slice_index, inl, inr, refl, sym, ap, ◌∙◌, arith}
use Rattle.std.specs.List.{list_all}
use Rattle.std.proofs.lemmas.Bool.{cases_eq}
use Rattle.std.proofs.lemmas.Bool.Decides.{nat_tests}
use Rattle.std.proofs.lemmas.List.Sums.{AllPass-from_list_all, list_all-from_AllPass}
use Rattle.hex.specs.Hex.{is_hex_digit}
use Rattle.etcs_runs.specs.declared.words.Cut.TheVariants.{Gaps, Joints}
use Rattle.etcs_runs.specs.Digits.{are_enough, bare, before_digits, before_end, before_words, end_digits, end_front, found, found_words, group_words, groups, is_blank, is_gap, is_group, is_joint, is_passed_over, is_x, last_first, passed_parts, passed_words, read_text, says_nothing, searched, text_digits, without_comment, without_end, without_mark, word_digits, word_parts, words}
use Rattle.etcs_runs.specs.LineRuns.{digits_end, line_runs, runs_before, text_end, words_end}
use Rattle.etcs_runs.specs.Finds.{IsStart}
use Rattle.etcs_runs.proofs.Fronts.{without_end-all, without_end-none}
use Rattle.etcs_runs.proofs.LastWords.{both, not_true, words-word}

not_blank : (c : ℕ) → is_hex_digit c ≡ true → not (is_blank c) ≡ true
not_blank c h = grind (arith, nat_tests)

pub not_gap : (c : ℕ) → is_hex_digit c ≡ true → not (is_gap c) ≡ true
not_gap c h = grind (arith, nat_tests)

pub gap_apart : (c : ℕ) → is_hex_digit c ≡ true → is_gap c ≡ false
gap_apart c h = not_true (is_gap c) (not_gap c h)

pub not_joint : (c : ℕ) → is_hex_digit c ≡ true → not (is_joint c) ≡ true
not_joint c h = grind (arith, nat_tests)

not_x : (c : ℕ) → is_hex_digit c ≡ true → is_x c ≡ false
not_x c h = grind (arith, nat_tests)

not_equal : (c n : ℕ) → is_hex_digit c ≡ true → is_hex_digit n ≡ false → eqb c n ≡ false
not_equal c n h other = elim (cases_eq c n) [
  | inl is ↦ cc (sym other ∙ ap is_hex_digit (sym is) ∙ h)
  | inr apart ↦ grind (arith, nat_tests)
]

and_false : (a b : Bool) → b ≡ false → (a && b) ≡ false
and_false true b h = h
and_false false b h = refl

either : (a b : Bool) (xs : List ℕ) → b ≡ true → cond a ([] ++ xs) (cond b xs []) ≡ xs
either true b xs h = refl
either false b xs h = ap (λ (z : Bool). cond z xs []) h

same_both : (b : Bool) (xs ys v : List ℕ) → xs ≡ v → ys ≡ v → cond b xs ys ≡ v
same_both true xs ys v h g = h
same_both false xs ys v h g = g

one_with : (b : Bool) (v : List ℕ) → are_enough v ≡ b → cond (are_enough (cond b v [])) (cond b v []) v ≡ v
one_with true v h = same_both (are_enough v) v v v refl refl
one_with false v h = refl

-- of one word
found_one : (digits_of : List (List ℕ) → List ℕ) (w v : List ℕ) → digits_of (w ∷ []) ≡ v → found digits_of (w ∷ []) ≡ v
found_one digits_of w v h =
    ap (λ (z : List ℕ). cond (are_enough (cond (are_enough z) z [])) (cond (are_enough z) z []) z) h ∙ one_with (are_enough v) v refl

either_words : (a b : Bool) (n : ℕ) → b ≡ true → cond a n (cond b n 0) ≡ n
either_words true b n h = refl
either_words false b n h = ap (λ (z : Bool). cond z n 0) h

found_words-one : (a b : Bool) (n : ℕ) → n ≡ 1 → cond a (cond b n 1) n ≡ 1
found_words-one true true n is = is
found_words-one true false n is = refl
found_words-one false b n is = is

always_none : (b : Bool) → ◌≡◌ {A = ℕ} (cond b 0 0) 0
always_none true = refl
always_none false = refl

passed_with : (b : Bool) (v : List ℕ) → are_enough v ≡ b → ◌≡◌ {A = ℕ} (cond (are_enough (cond b v [])) (cond b 0 1) 0) 0
passed_with true v h = always_none (are_enough v)
passed_with false v h = refl

-- one word is after nothing
passed_one : (digits_of : List (List ℕ) → List ℕ) (w : List ℕ) → found_words digits_of (λ ws. 0) (w ∷ []) ≡ 0
passed_one digits_of w = passed_with (are_enough (digits_of (w ∷ []))) (digits_of (w ∷ [])) refl

-- digits have no comment
comment_with : (b more : Bool) (c : ℕ) (cs xs : List ℕ) → not b ≡ true → xs ≡ cs → cond (b && more) [] (c ∷ xs) ≡ c ∷ cs
comment_with true more c cs xs h is = cc h
comment_with false more c cs xs h is = ap (λ (z : List ℕ). c ∷ z) is

no_comment : (line : List ℕ) → list_all is_hex_digit line ≡ true → without_comment line ≡ line
no_comment [] h = refl
no_comment (c ∷ cs) h =
    let all = both (is_hex_digit c) (list_all is_hex_digit cs) h in
    comment_with (is_blank c) _ c cs (without_comment cs) (not_blank c all.0) (no_comment cs all.1)

-- the last word of a text has parts
pub parts_end : (text w : List ℕ) (ws : List (List ℕ)) → last_first is_gap text ≡ w ∷ ws → is_group w ≡ false → digits_end text ≡ (Joints, before_words is_joint (passed_parts w) text)
parts_end text w ws is other =
    ap (λ (z : List (List ℕ)). words_end z text) is
    ∙ ap (λ (b : Bool). cond b (Gaps, text) (Joints, before_words is_joint (passed_parts w) text)) other

module _ (line : List ℕ) (digits : list_all is_hex_digit line ≡ true) (two : 1 < length line) where
  at_place : (i : ℕ) → i < length line → is_hex_digit (slice_index line i) ≡ true
  at_place i lt = AllPass-from_list_all is_hex_digit line digits i 0 lt

  some : 0 < length line
  some = omega (arith, two)

  apart_by : (at : ℕ → Bool) → ((c : ℕ) → is_hex_digit c ≡ true → not (at c) ≡ true) → list_all (λ c. not (at c)) line ≡ true
  apart_by at f = list_all-from_AllPass (λ c. not (at c)) line (λ i d lt. f _ (AllPass-from_list_all is_hex_digit line digits i d lt))

  no_mark : without_mark line ≡ line
  no_mark =
      let first = not_equal (slice_index line 0) 239 (at_place 0 some) refl in
      rw first refl

  bare_same : bare line ≡ line
  bare_same = ap (λ (b : Bool). cond b (drop 2 line) line) (and_false (eqb (slice_index line 0) 48) (is_x (slice_index line 1)) (not_x (slice_index line 1) (at_place 1 two)))

  one_word : (at : ℕ → Bool) → ((c : ℕ) → is_hex_digit c ≡ true → not (at c) ≡ true) → last_first at line ≡ line ∷ []
  one_word at f = ap (λ (z : List (List ℕ)). reverse (map bare z)) (words-word at line (apart_by at f) some) ∙ ap (λ (z : List ℕ). z ∷ []) bare_same

  all_groups : groups (line ∷ []) ≡ line
  all_groups = either (is_group line) (list_all is_hex_digit line) line digits

  pub one_part : word_parts line ≡ 1
  one_part =
      ap (found_words groups group_words) (one_word is_joint not_joint)
      ∙ found_words-one (are_enough (searched groups (line ∷ []))) (are_enough (groups (line ∷ []))) (group_words (line ∷ [])) (either_words (is_group line) (list_all is_hex_digit line) 1 digits)

  pub no_parts_after : passed_parts line ≡ 0
  no_parts_after = ap (found_words groups (λ ws. 0)) (one_word is_joint not_joint) ∙ passed_one groups line

  pub all_parts : word_digits line ≡ line
  all_parts = ap (found groups) (one_word is_joint not_joint) ∙ found_one groups line line all_groups

  -- it is the last word of a text, and no group
  module _ (text : List ℕ) (ws : List (List ℕ)) (is : last_first is_gap text ≡ line ∷ ws) (long : is_group line ≡ false) where
    pub long_digits : end_digits (last_first is_gap text) ≡ line
    long_digits = ap end_digits is ∙ ap (λ (b : Bool). cond b (groups (line ∷ ws)) (word_digits line)) long ∙ all_parts

    pub long_front : before_end text ≡ before_words is_joint 1 text
    long_front =
        ap (λ (z : List (List ℕ)). end_front z text) is
        ∙ ap (λ (b : Bool). cond b (before_words is_gap (group_words (line ∷ ws)) text) (before_words is_joint (word_parts line) text)) long
        ∙ ap (λ n. before_words is_joint n text) one_part

    pub long_end : digits_end text ≡ (Joints, text)
    long_end = parts_end text line ws is long ∙ ap (λ n. (Joints, before_words is_joint n text)) no_parts_after

  all_digits : end_digits (line ∷ []) ≡ line
  all_digits = same_both (is_group line) (groups (line ∷ [])) (word_digits line) line all_groups all_parts

  pub all_text : text_digits line ≡ line
  all_text = ap (found end_digits) (one_word is_gap not_gap) ∙ found_one end_digits line line all_digits

  pub all_read : read_text (without_mark line) ≡ line
  all_read = ap read_text no_mark ∙ same_both (are_enough (text_digits (without_comment line))) (without_comment line) line line (no_comment line digits) refl

  no_words_after : before_words is_gap (passed_words line) line ≡ line
  no_words_after = ap (λ n. before_words is_gap n line) (ap (found_words end_digits (λ ws. 0)) (one_word is_gap not_gap) ∙ passed_one end_digits line)

  -- it is no group
  module _ (long : is_group line ≡ false) where
    pub pure_end : text_end line ≡ (Joints, line)
    pure_end = ap digits_end no_words_after ∙ long_end line [] (one_word is_gap not_gap) long

    pub pure_before : before_digits line ≡ before_words is_joint 1 line
    pure_before = ap before_end no_words_after ∙ long_front line [] (one_word is_gap not_gap) long

  pub nothing_before : before_words is_joint 1 line ≡ []
  nothing_before =
      ap (without_end (λ c. not (is_joint c))) (without_end-none is_joint line (apart_by is_joint not_joint))
      ∙ without_end-all (λ c. not (is_joint c)) line (apart_by is_joint not_joint)

  pub pure_runs : line_runs line ≡ line ∷ runs_before (are_enough line) (length line) line
  pure_runs =
      ap (λ (z : List ℕ). z ∷ runs_before (are_enough (text_digits z)) (length z) z) all_read
      ∙ ap (λ (z : List ℕ). line ∷ runs_before (are_enough z) (length line) line) all_text

  pub pure_starts : IsStart line 0
  pure_starts _ = (
    ap (list_all (λ c. not (is_gap c))) (without_end-none is_gap line (apart_by is_gap not_gap)) ∙ apart_by is_gap not_gap,
    λ none. absurd (omega (arith, none)),
  )

  pub pure_read : is_passed_over line ≡ false
  pure_read = ap (λ (z : List ℕ). says_nothing (words is_blank z)) no_mark ∙ ap says_nothing (words-word is_blank line (apart_by is_blank not_blank) some) ∙ not_equal (slice_index line 0) 35 (at_place 0 some) refl

-- ---- More digits than a group has.

no_group_with : (a b c d : Bool) → b ≡ false → ((a && b && c) && d) ≡ false
no_group_with true b c d h = ap (λ (z : Bool). (z && c) && d) h
no_group_with false b c d h = refl

pub no_group : (line : List ℕ) → 20 ≤ length line → is_group line ≡ false
no_group line long = no_group_with (nat_lt 0 (length line)) (nat_le (length line) 16) (eqb (length line % 2) 0) (list_all is_hex_digit line) (grind (arith, nat_tests, long))
