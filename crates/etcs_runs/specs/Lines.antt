-- The lines of a text.
use Rattle.std.specs.Prelude.{◌≡◌, ℕ, ◌+◌, List, [], ◌∷◌, ◌++◌, length, flat_map, All}
use Rattle.std.specs.Io.BufRead.{strip_last}

-- no character of the line is LF
abbrev pub IsLine : List ℕ → Type 0
IsLine line = All (λ c. c ≡ 10 → ⊥) line

-- the characters of a line that ends with a LF: one CR just before it is dropped
abbrev pub strip_cr : List ℕ → List ℕ
strip_cr line = strip_last 13 line

-- the text of lines, each with its LF
abbrev pub lines_text : List (List ℕ) → List ℕ
lines_text lines = flat_map (λ line. line ++ 10 ∷ []) lines

-- there is a LF just before this place of the text
abbrev pub IsAfterLf : List ℕ → ℕ → Type 0
IsAfterLf text place = (front : List ℕ) × (beyond : List ℕ) × (text ≡ front ++ 10 ∷ beyond) × (place ≡ length front + 1)
