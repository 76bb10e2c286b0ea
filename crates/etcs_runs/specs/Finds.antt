-- The digits that are found in a line, and what is before them.
use Rattle.std.specs.Prelude.{◌≡◌, ℕ, ◌+◌, ◌-◌, ◌<◌, ◌==◌, Bool, true, not, ◌&&◌, ◌||◌, List, ◌++◌, length, drop, slice_index}
use Rattle.std.specs.List.{list_all}
use Rattle.hex.specs.Hex.{is_hex_digit}
use Rattle.etcs_runs.specs.declared.words.Cut.{Cut}
use Rattle.etcs_runs.specs.Cuts.{parts_at}
use Rattle.etcs_runs.specs.Digits.{before_words, is_gap, is_size, last_first, run, run_words, without_end}

-- a word of digits that is a group, before which words of `size` digits count; or one before which none does
abbrev pub is_found : ℕ → List ℕ → List ℕ → Bool
is_found size before word = is_size size && list_all is_hex_digit word && (is_size (length word) || (length before == 0))

-- the digits of this word, and of the words of `size` digits before it
abbrev pub digits_of : Cut → ℕ → List ℕ → List ℕ → List ℕ
digits_of cut size before word = run size (last_first (parts_at cut) before) ++ word

-- a line before these words, and before n words after them
abbrev pub found_front : Cut → ℕ → List ℕ → ℕ → List ℕ → List ℕ
found_front cut size before n line = before_words (parts_at cut) (n + run_words size (last_first (parts_at cut) before)) line

-- how a line is cut, and the line before its last n words
abbrev pub end_of : Cut → ℕ → List ℕ → Cut × List ℕ
end_of cut n line = (cut, before_words (parts_at cut) n line)

-- unless it is the text's length: the last word of the text between gaps begins here
abbrev pub IsStart : List ℕ → ℕ → Type 0
IsStart text start = start < length text → (list_all (λ c. not (is_gap c)) (drop start (without_end is_gap text)) ≡ true) × (0 < start → is_gap (slice_index text (start - 1)) ≡ true)

-- and ends with the text
abbrev pub IsKnown : List ℕ → ℕ → Type 0
IsKnown text start = start < length text → (list_all (λ c. not (is_gap c)) (drop start text) ≡ true) × (0 < start → is_gap (slice_index text (start - 1)) ≡ true)
