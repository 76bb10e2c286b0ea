-- The runs of digits of a line, and what is before the last digits of one.
use Rattle.std.specs.Prelude.{ℕ, zero, suc, ◌-◌, ◌*◌, Bool, nat_le, if◌then◌else◌, List, [], ◌∷◌, length, take}
use Rattle.etcs_runs.specs.declared.words.Cut.{Cut}
use Rattle.etcs_runs.specs.declared.words.Cut.TheVariants.{Gaps, Joints}
use Rattle.etcs_runs.specs.Cuts.{parts_at}
use Rattle.etcs_runs.specs.Digits.{are_enough, before_digits, before_last, before_words, is_blank, is_gap, is_group, is_joint, last_first, passed_parts, passed_words, read_text, text_digits, without_end, without_mark}

-- A run is named by the text that ends with it: its digits are the text's, and what is before them is what is before the
-- text's digits.

-- ---- Which runs a line has.

-- a text, if its digits are enough, and then what is before them, in the same way; at most n texts
abbrev pub enough_runs : ℕ → List ℕ → List (List ℕ)
enough_runs zero text = []
enough_runs (suc n) text = if are_enough (text_digits text) then text ∷ enough_runs n (before_digits text) else []

-- what is before the digits of a text, and so on, if these are enough; at most n texts
abbrev pub runs_before : Bool → ℕ → List ℕ → List (List ℕ)
runs_before enough n text = if enough then enough_runs n (before_digits text) else []

-- The texts that end with the runs of a line, the last first. The last run is the line's digits (`line_digits`). If it has
-- 20 digits, the run before it has the digits of what is before, if these are 20, too; and so on. A text has fewer runs
-- than characters
abbrev pub line_runs : List ℕ → List (List ℕ)
line_runs line = let text = read_text (without_mark line) in text ∷ runs_before (are_enough (text_digits text)) (length text) text

-- ---- What is before the last digits of a run.

-- of a text of these words, the last first: what is before its last n digits
abbrev pub before_last_digits : (ℕ → Bool) → List (List ℕ) → ℕ → List ℕ → List ℕ
before_last_digits at [] n text = text
before_last_digits at (w ∷ ws) zero text = text
before_last_digits at (w ∷ ws) (suc n) text = if nat_le (length w) (suc n) then before_last_digits at ws (suc n - length w) (before_last at text) else take (length (without_end at text) - suc n) text

-- of a text of these words, the last first: how the digits at its end are cut, as groups between gaps or as parts of its
-- last word, and the text up to them
abbrev pub words_end : List (List ℕ) → List ℕ → Cut × List ℕ
words_end [] text = (Gaps, text)
words_end (w ∷ ws) text = if is_group w then (Gaps, text) else (Joints, before_words is_joint (passed_parts w) text)

-- the same of a text
abbrev pub digits_end : List ℕ → Cut × List ℕ
digits_end text = words_end (last_first is_gap text) text

-- the same of the digits of a text, which need not be at its end
abbrev pub text_end : List ℕ → Cut × List ℕ
text_end text = digits_end (before_words is_gap (passed_words text) text)

-- before the last n digits of a text that is cut in this way
abbrev pub before_count : Cut × List ℕ → ℕ → List ℕ
before_count place n = before_last_digits (parts_at place.0) (last_first (parts_at place.0) place.1) n place.1

-- What is before the digits of the last n bytes of a run, without blanks, tabs and CRs at the end: if they begin inside of a
-- word, with the digits that this word has before them
abbrev pub front_of : ℕ → List ℕ → List ℕ
front_of n text = without_end is_blank (before_count (text_end text) (2 * n))
