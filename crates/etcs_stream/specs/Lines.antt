-- How long lines may be, and the bytes for which lines of hexadecimal digits stand.
use Rattle.std.specs.Prelude.{◌≡◌, ℕ, ◌%◌, List, [], ◌∷◌, ◌++◌, length, Option, Some, None, nat_lt, not, ◌==◌, if◌then◌else◌, flat_map}
use Rattle.std.specs.List.{position}
use Rattle.std.specs.Result.{result_unwrap_or}
use Rattle.etcs_runs.specs.declared.form.Form.{Form}
use Rattle.etcs_runs.specs.declared.form.Form.TheVariants.{Hex, Bin, Json}
use Rattle.etcs_runs.specs.Lines.{strip_cr, lines_text}
use Rattle.hex.specs.Hex.{is_hex_digit, decode_of}

-- how many characters a line of an input has at most
abbrev pub most_characters : Form → ℕ
most_characters Hex = 4096
most_characters Bin = 0
most_characters Json = 1048576

-- the place at which a line isn't hexadecimal: 4096 if it is longer than that, its length if that is odd, else that of the
-- first character that is no digit; none for a good line
abbrev pub bad_place : List ℕ → Option ℕ
bad_place line =
    if nat_lt 4096 (length line) then Some 4096
    else if length line % 2 == 1 then Some (length line)
    else position (λ c. not (is_hex_digit c)) line

-- the bytes for which the digits of a good line stand
abbrev pub line_bytes : List ℕ → List ℕ
line_bytes line = result_unwrap_or (decode_of line) []

-- the bytes of lines that have a LF, one after another
abbrev pub lines_bytes : List (List ℕ) → List ℕ
lines_bytes lines = flat_map (λ line. line_bytes (strip_cr line)) lines

-- each of the lines, which have a LF, is good without a CR at its end
abbrev pub AreGood : List (List ℕ) → Type 0
AreGood [] = Unit {0}
AreGood (line ∷ lines) = (bad_place (strip_cr line) ≡ None) × AreGood lines

-- the text is good lines, each with its LF but the last, which may be empty, and bytes are theirs, joined. A good line
-- has no LF inside, so the lines are what is between the LFs
pub record IsHexText (text bytes : List ℕ) : Type 0 where
  pub lines : List (List ℕ)
  pub last : List ℕ
  pub text_is : text ≡ lines_text lines ++ last
  pub lines_good : AreGood lines
  pub last_good : bad_place last ≡ None
  pub bytes_are : bytes ≡ lines_bytes lines ++ line_bytes last
