-- The text of variables and bits: a line for each (SUBSET-026, 7.5).
use Rattle.std.specs.Prelude.{ℕ, zero, suc, ◌+◌, ◌-◌, ◌/◌, ◌%◌, Bool, List, [], ◌∷◌, ◌++◌, length, map, Option, Some, None, codes, nat_lt, if◌then◌else◌}
use Rattle.std.specs.Fmt.{decimal}
use Rattle.etcs_bits.specs.Bits.{bit}
use Rattle.etcs_vars.specs.declared.var.Var.{Var}
use Rattle.etcs_vars.specs.declared.var.Var.TheVariants.{NID_RADIO, D_REF}
use Rattle.etcs_vars.specs.Vars.{name, special}
use Rattle.etcs_vars.specs.Reading.{Sent}

-- the meaning of a number, if it has one of its own, in parentheses after it
abbrev pub special_text : Option (List ℕ) → List ℕ
special_text None = []
special_text (Some text) = codes " (" ++ text ++ codes ")"

-- a digit of a hexadecimal number: 0 to 9, then a to f
abbrev pub hex_digit : ℕ → ℕ
hex_digit d = if nat_lt d 10 then 48 + d else 87 + d

-- the last digits of a number in hexadecimal, this many of them
abbrev pub hex_digits : ℕ → ℕ → List ℕ
hex_digits zero n = []
hex_digits (suc count) n = hex_digits count (n / 16) ++ hex_digit (n % 16) ∷ []

-- a number of 16 bits in two's complement as a decimal with its sign: D_REF
abbrev pub signed_text : ℕ → List ℕ
signed_text n = if nat_lt n 32768 then decimal n else codes "-" ++ decimal (65536 - n)

-- the number of a variable: NID_RADIO as its sixteen digits of four bits, D_REF with its sign, all others in decimal
abbrev pub number_text : Var → ℕ → List ℕ
number_text NID_RADIO n = hex_digits 16 n
number_text D_REF n = signed_text n
number_text v n = decimal n

-- what comes before the number in a variable's line: two blanks, the name and a blank
abbrev pub line_front : Var → List ℕ
line_front v = codes "  " ++ name v ++ codes " "

-- the line of a variable: two blanks, its name, its number, and the meaning if the number has one of its own
abbrev pub variable_line : Sent → List ℕ
variable_line p = line_front p.0 ++ number_text p.0 p.1 ++ special_text (special p.0 p.1) ++ codes "\n"

-- a bit as a digit, 0 or 1
abbrev pub bit_digit : Bool → ℕ
bit_digit b = 48 + bit b

-- a blank and the bits as digits, if there are any
abbrev pub bits_text : List Bool → List ℕ
bits_text [] = []
bits_text (b ∷ bs) = codes " " ++ map bit_digit (b ∷ bs)

-- the line of bits under a name: two blanks, the name, their count, and the bits
abbrev pub bits_line : List ℕ → List Bool → List ℕ
bits_line text bs = codes "  " ++ text ++ codes " " ++ decimal (length bs) ++ bits_text bs ++ codes "\n"

-- the line of FILL, the bits after packet 255
abbrev pub fill_line : List Bool → List ℕ
fill_line bs = bits_line (codes "FILL") bs
