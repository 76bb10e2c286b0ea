-- What an input has to be explained, in order.
use Rattle.std.specs.Prelude.{◌≡◌, ℕ, ◌+◌, ◌/◌, ◌<◌, ◌⊎◌, Bool, List, [], ◌∷◌, ◌++◌, length, map, take, nat_lt, if◌then◌else◌, Option, Result, Ok, Err, All}
use Rattle.hex.specs.Hex.{decode_of}
use Rattle.etcs_text.specs.declared.entry.Kind.{Kind}
use Rattle.etcs_reasons.specs.BitDigits.{packed}
use Rattle.etcs_explain.specs.Kinds.{say_bits}
use Rattle.etcs_runs.specs.Digits.{is_passed_over, line_digits, without_mark}
use Rattle.etcs_runs.specs.Lines.{IsLine, strip_cr, lines_text}
use Rattle.etcs_runs.specs.declared.form.Form.{Form}
use Rattle.etcs_runs.specs.declared.form.Form.TheVariants.{Hex, Bin, Json}

-- a byte, with the number of its line (0 in an input of bytes); or a line, with its number, that is JSON or has no bytes
pub data Token : Type 0 where
  of_byte : ℕ → ℕ → Token
  of_line : ℕ → List ℕ → Token

-- bytes, each with its line
abbrev pub placed : List ℕ → List ℕ → List Token
placed (l ∷ ls) (b ∷ bs) = of_byte l b ∷ placed ls bs
placed (l ∷ ls) [] = []
placed [] bs = []

-- the bytes of a line's digits; if the digits are the bits of a telegram of the kind that is asked for, the bytes of these bits
abbrev pub digits_say : Option Kind → List ℕ → List ℕ
digits_say kind bytes = if say_bits kind bytes then take ((length bytes + 3) / 4) (packed bytes) else bytes

-- the bytes of a line's digits, or the line if it has none
abbrev pub said : {E : Type 0} → Option Kind → ℕ → List ℕ → Result (List ℕ) E → List Token
said kind n text (Ok []) = of_line n text ∷ []
said kind n text (Ok (b ∷ bs)) = map (of_byte n) (digits_say kind (b ∷ bs))
said kind n text (Err e) = of_line n text ∷ []

-- what a line of hexadecimal has: nothing if it is blank or a comment
abbrev pub hex_tokens : Option Kind → ℕ → List ℕ → List Token
hex_tokens kind n text = if is_passed_over text then [] else said kind n text (decode_of (line_digits text))

-- what a line of JSON has without a byte order mark in front: nothing if it is empty
abbrev pub json_tokens : ℕ → List ℕ → List Token
json_tokens n [] = []
json_tokens n (c ∷ text) = of_line n (c ∷ text) ∷ []

-- what a line has that isn't too long, by the form of the input
abbrev pub short_tokens : Option Kind → Form → ℕ → List ℕ → List Token
short_tokens kind Json n text = json_tokens n (without_mark text)
short_tokens kind Hex n text = hex_tokens kind n text
short_tokens kind Bin n text = hex_tokens kind n text

-- the line is too long: it has more than 1,048,576 characters
abbrev pub is_long : List ℕ → Bool
is_long text = nat_lt 1048576 (length text)

-- what the line of this number has: nothing if it is too long
abbrev pub line_tokens : Option Kind → Form → ℕ → List ℕ → List Token
line_tokens kind form n text = if is_long text then [] else short_tokens kind form n text

-- its number, if it is too long
abbrev pub line_long : ℕ → List ℕ → List ℕ
line_long n text = if is_long text then n ∷ [] else []

-- what lines have after the first n, each with a CR at its end or none
abbrev pub lines_tokens : Option Kind → Form → ℕ → List (List ℕ) → List Token
lines_tokens kind form n [] = []
lines_tokens kind form n (text ∷ lines) = line_tokens kind form (n + 1) (strip_cr text) ++ lines_tokens kind form (n + 1) lines

-- the numbers of those that are too long, after the first n
abbrev pub lines_long : ℕ → List (List ℕ) → List ℕ
lines_long n [] = []
lines_long n (text ∷ lines) = line_long (n + 1) (strip_cr text) ++ lines_long (n + 1) lines

-- these tokens, and lines that are too long, are those of some first lines of an input and of a part of the next one
pub record Lines (kind : Option Kind) (form : Form) (given : List ℕ) (tokens : List Token) (long : List ℕ) : Type 0 where
  pub lines : List (List ℕ)
  pub part : List ℕ
  pub rest : List ℕ
  pub given_is : given ≡ lines_text lines ++ (part ++ rest)
  pub are_lines : All IsLine (lines ++ part ∷ [])
  pub tokens_are : tokens ≡ lines_tokens kind form 0 (lines ++ part ∷ [])
  pub long_is : long ≡ lines_long 0 (lines ++ part ∷ [])

-- the part is empty, or too long however it continues
abbrev pub IsSure : List ℕ → Type 0
IsSure part = (part ≡ []) ⊎ (1048576 + 1 < length part)

-- the tokens are these bytes, of line 0, and no line is too long
abbrev pub IsBytes : List ℕ → List Token → List ℕ → Type 0
IsBytes given tokens long = (tokens ≡ map (of_byte 0) given) × (long ≡ [])

-- a whole input has these tokens, in order, and these numbers of lines that are too long
abbrev pub Has : Option Kind → Form → List ℕ → List Token → List ℕ → Type 0
Has kind Bin given tokens long = IsBytes given tokens long
Has kind Hex given tokens long = (h : Lines kind Hex given tokens long) × (h.rest ≡ [])
Has kind Json given tokens long = (h : Lines kind Json given tokens long) × (h.rest ≡ [])

-- every input that begins so has these first
abbrev pub Begins : Option Kind → Form → List ℕ → List Token → List ℕ → Type 0
Begins kind Bin given tokens long = IsBytes given tokens long
Begins kind Hex given tokens long = (h : Lines kind Hex given tokens long) × ((h.rest ≡ []) ⊎ IsSure h.part)
Begins kind Json given tokens long = (h : Lines kind Json given tokens long) × ((h.rest ≡ []) ⊎ IsSure h.part)

-- what is there of an input has these: all lines that have a LF, and the next one if it is too long
abbrev pub SoFar : Option Kind → Form → List ℕ → List Token → List ℕ → Type 0
SoFar kind Bin given tokens long = IsBytes given tokens long
SoFar kind Hex given tokens long = (h : Lines kind Hex given tokens long) × IsSure h.part × IsLine h.rest
SoFar kind Json given tokens long = (h : Lines kind Json given tokens long) × IsSure h.part × IsLine h.rest
