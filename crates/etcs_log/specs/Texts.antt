-- Lines that are only text, and what is before the bytes of an item.
use Rattle.std.specs.Prelude.{ℕ, Bool, false, ◌&&◌, ◌||◌, ◌==◌, nat_lt, if◌then◌else◌, List, [], ◌∷◌, length}
use Rattle.std.specs.Char.{is_ascii_alphabetic}
use Rattle.std.specs.List.{list_any}
use Rattle.etcs_runs.specs.Digits.{has_some, text_digits, text_front}
use Rattle.etcs_runs.specs.LineRuns.{front_of}

-- the text has no digits at its end, or fewer than an item has and a letter before them
abbrev pub is_text : List ℕ → Bool
is_text text = nat_lt (length (text_digits text)) 20 && ((length (text_digits text) == 0) || list_any is_ascii_alphabetic (text_front text))

-- the same of the last run of a line
abbrev pub are_text : List (List ℕ) → Bool
are_text [] = false
are_text (text ∷ texts) = is_text text

-- there is something before the digits at the end of a line
abbrev pub are_named : List (List ℕ) → Bool
are_named [] = false
are_named (text ∷ texts) = has_some (text_front text)

-- what is before the digits of n bytes of a text: of its last ones, or of all
abbrev pub item_front : Bool → ℕ → List ℕ → List ℕ
item_front is_last n text = if is_last then front_of n text else text_front text
