-- Characters that a terminal may obey, and their neighbours.
use Rattle.std.proofs.Common.{◌≡◌, ℕ, zero, suc, ◌/◌, ◌%◌, Bool, true, false, cond, ◌&&◌, nat_lt, List, [], ◌∷◌, ◌++◌, get_or, slice_index, flat_map, refl, append-nil}
use Rattle.std.specs.Prelude.{Some, codes}
use Rattle.std.specs.Str.{chars, NoCharPasses}
use Rattle.std.specs.Char.{encode_utf8}
use Rattle.std.proofs.lemmas.Bool.{and_parts}
use Rattle.std.proofs.lemmas.Str.{NoCharPasses-append, NoCharPasses-nil}
use Rattle.hex.specs.Hex.{encode_with, encode_lower, lower_digits}
use Rattle.hex.proofs.OnLiterals.{hex_on_literals}
use Rattle.serde_json.specs.Data.{string}
use Rattle.serde_json.specs.Read.{read}
use Rattle.serde_json.specs.Written.{compact_text}
use Rattle.serde_json.proofs.OnLiterals.{serde_json_on_literals}
use Rattle.etcs_log.specs.Visible.{escape_of, is_unseen, visible, visible_char}
use Rattle.etcs_log.proofs.Shown.{below_delete, NoCharPasses-below_delete}

-- ---- No unseen character is left.

digit_below : (digits : List ℕ) → below_delete digits ≡ true → (n : ℕ) → nat_lt (get_or digits n 0) 127 ≡ true
digit_below [] e n = refl
digit_below (d ∷ ds) e zero = (and_parts _ _ e).0
digit_below (d ∷ ds) e (suc n) = digit_below ds (and_parts _ _ e).1 n

hex_digit_below : (n : ℕ) → nat_lt (slice_index lower_digits n) 127 ≡ true
hex_digit_below n = digit_below lower_digits refl n

digits_below : (bytes : List ℕ) → below_delete (encode_lower bytes) ≡ true
unfolding encode_with
digits_below [] = refl
digits_below (b ∷ bytes) = λ i. hex_digit_below (b / 16) i && (hex_digit_below (b % 16) i && digits_below bytes i)

seen_char : (c : ℕ) → NoCharPasses is_unseen (visible_char c)
seen_char c = go (is_unseen c) refl
  where
    go : (unseen : Bool) → is_unseen c ≡ unseen → NoCharPasses is_unseen (cond unseen (escape_of c) (encode_utf8 c))
    go true e = NoCharPasses-below_delete (escape_of c) (digits_below (c / 256 ∷ c % 256 ∷ []))
    go false e = (c ∷ [], append-nil (encode_utf8 c), (e, tt))

seen_chars : (cs : List ℕ) → NoCharPasses is_unseen (flat_map visible_char cs)
seen_chars [] = NoCharPasses-nil is_unseen
seen_chars (c ∷ cs) = NoCharPasses-append is_unseen _ _ (seen_char c) (seen_chars cs)

pub none_is_left : (text : List ℕ) → NoCharPasses is_unseen (visible text)
unfolding visible
none_is_left text = seen_chars (chars text)

-- ---- What is written of them.

pub delete : visible (codes "\"~" ++ 127 ∷ codes "[2J\"") ≡ codes "\"~\\u007f[2J\""
unfolding visible chars encode_utf8 hex_on_literals
delete = refl

pub first_of_c1 : visible (0xC2 ∷ 0x80 ∷ []) ≡ codes "\\u0080"
unfolding visible chars encode_utf8 hex_on_literals
first_of_c1 = refl

-- what begins an order
pub control_sequence : visible (0xC2 ∷ 0x9B ∷ codes "2J") ≡ codes "\\u009b2J"
unfolding visible chars encode_utf8 hex_on_literals
control_sequence = refl

pub last_of_c1 : visible (0xC2 ∷ 0x9F ∷ []) ≡ codes "\\u009f"
unfolding visible chars encode_utf8 hex_on_literals
last_of_c1 = refl

pub letter_mark : visible (0xD8 ∷ 0x9C ∷ []) ≡ codes "\\u061c"
unfolding visible chars encode_utf8 hex_on_literals
letter_mark = refl

pub marks : visible (0xE2 ∷ 0x80 ∷ 0x8E ∷ 0xE2 ∷ 0x80 ∷ 0x8F ∷ []) ≡ codes "\\u200e\\u200f"
unfolding visible chars encode_utf8 hex_on_literals
marks = refl

pub line_end : visible (0xE2 ∷ 0x80 ∷ 0xA8 ∷ []) ≡ codes "\\u2028"
unfolding visible chars encode_utf8 hex_on_literals
line_end = refl

pub override : visible (codes "a" ++ 0xE2 ∷ 0x80 ∷ 0xAE ∷ codes "b") ≡ codes "a\\u202eb"
unfolding visible chars encode_utf8 hex_on_literals
override = refl

pub isolates : visible (0xE2 ∷ 0x81 ∷ 0xA6 ∷ 0xE2 ∷ 0x81 ∷ 0xA9 ∷ []) ≡ codes "\\u2066\\u2069"
unfolding visible chars encode_utf8 hex_on_literals
isolates = refl

-- ---- What stays: U+00A0, U+00E9, U+061B, U+061D, U+200D, U+2010, U+2027, U+202F, U+2065, U+206A, U+1F689.

pub neighbours_of_c1 : visible (0xC2 ∷ 0xA0 ∷ 0xC3 ∷ 0xA9 ∷ []) ≡ 0xC2 ∷ 0xA0 ∷ 0xC3 ∷ 0xA9 ∷ []
unfolding visible chars encode_utf8 hex_on_literals
neighbours_of_c1 = refl

pub neighbours_of_the_letter_mark : visible (0xD8 ∷ 0x9B ∷ 0xD8 ∷ 0x9D ∷ []) ≡ 0xD8 ∷ 0x9B ∷ 0xD8 ∷ 0x9D ∷ []
unfolding visible chars encode_utf8 hex_on_literals
neighbours_of_the_letter_mark = refl

pub neighbours_of_marks : visible (0xE2 ∷ 0x80 ∷ 0x8D ∷ 0xE2 ∷ 0x80 ∷ 0x90 ∷ []) ≡ 0xE2 ∷ 0x80 ∷ 0x8D ∷ 0xE2 ∷ 0x80 ∷ 0x90 ∷ []
unfolding visible chars encode_utf8 hex_on_literals
neighbours_of_marks = refl

pub neighbours_of_ends_and_overrides : visible (0xE2 ∷ 0x80 ∷ 0xA7 ∷ 0xE2 ∷ 0x80 ∷ 0xAF ∷ []) ≡ 0xE2 ∷ 0x80 ∷ 0xA7 ∷ 0xE2 ∷ 0x80 ∷ 0xAF ∷ []
unfolding visible chars encode_utf8 hex_on_literals
neighbours_of_ends_and_overrides = refl

pub neighbours_of_isolates : visible (0xE2 ∷ 0x81 ∷ 0xA5 ∷ 0xE2 ∷ 0x81 ∷ 0xAA ∷ []) ≡ 0xE2 ∷ 0x81 ∷ 0xA5 ∷ 0xE2 ∷ 0x81 ∷ 0xAA ∷ []
unfolding visible chars encode_utf8 hex_on_literals
neighbours_of_isolates = refl

pub a_station : visible (0xF0 ∷ 0x9F ∷ 0x9A ∷ 0x89 ∷ []) ≡ 0xF0 ∷ 0x9F ∷ 0x9A ∷ 0x89 ∷ []
unfolding visible chars encode_utf8 hex_on_literals
a_station = refl

-- ---- What is read back.

pub reads_back : let text = codes "a\"\\" ++ 127 ∷ 0xC2 ∷ 0x9B ∷ 0xD8 ∷ 0x9C ∷ 0xE2 ∷ 0x80 ∷ 0x8E ∷ 0xE2 ∷ 0x80 ∷ 0xA8 ∷ 0xE2 ∷ 0x81 ∷ 0xA9 ∷ [] in read (visible (compact_text (string text))) ≡ Some (string text)
unfolding visible chars encode_utf8 hex_on_literals serde_json_on_literals
reads_back = refl
