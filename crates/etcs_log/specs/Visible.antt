-- Text of JSON in which a terminal acts on no character.
use Rattle.std.specs.Prelude.{ℕ, ◌/◌, ◌%◌, Bool, ◌||◌, ◌==◌, if◌then◌else◌, List, [], ◌∷◌, ◌++◌, codes, flat_map}
use Rattle.std.specs.Char.{encode_utf8}
use Rattle.std.specs.Int.{is_in_range}
use Rattle.std.specs.Str.{chars}
use Rattle.hex.specs.Hex.{encode_lower}

-- a terminal may act on the character, and JSON has it as it is: DEL and C1, ends of lines and paragraphs, and marks of the
-- direction of writing
abbrev pub is_unseen : ℕ → Bool
is_unseen c =
    is_in_range 0x7F 0x9F c || (c == 0x61C) || is_in_range 0x200E 0x200F c || is_in_range 0x2028 0x202E c || is_in_range 0x2066 0x2069 c

-- the escape of a character below 65,536
abbrev pub escape_of : ℕ → List ℕ
escape_of c = codes "\\u" ++ encode_lower (c / 256 ∷ c % 256 ∷ [])

-- what is written of a character
abbrev pub visible_char : ℕ → List ℕ
visible_char c = if is_unseen c then escape_of c else encode_utf8 c

-- the text with its unseen characters escaped
unfoldable pub visible : List ℕ → List ℕ
visible text = flat_map visible_char (chars text)
