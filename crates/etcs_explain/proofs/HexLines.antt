-- What a line of hexadecimal has.
use Rattle.std.proofs.Common.{◌≡◌, ℕ, ◌+◌, ◌-◌, ◌%◌, ◌*◌, ◌/◌, ◌<◌, ◌≤◌, Bool, take, true, false, List, [], ◌∷◌, length, drop, map, refl, sym, ap, ◌∙◌, arith, inl, inr}
use Rattle.std.specs.Prelude.{◌&&◌, ◌==◌, Option, Some, None, Result, Ok, Err, IsTrue}
use Rattle.std.specs.List.{list_all}
use Rattle.std.proofs.lemmas.Bool.{and_parts, cases_Bool, eqb-true, or_cases}
use Rattle.std.proofs.lemmas.List.{length-drop}
use Rattle.std.proofs.lemmas.List.FromFn.{length-map-range_with_len}
use Rattle.hex.specs.declared.FromHexError.{FromHexError}
use Rattle.hex.specs.Hex.{decode_of}
use Rattle.hex.proofs.HexLemmas.{decode_of-odd, decode_of-ok}
use Rattle.etcs_text.specs.declared.entry.Kind.{Kind}
use Rattle.etcs_text.specs.declared.entry.Kind.TheVariants.{Long, Short, Radio, Train}
use Rattle.etcs_reasons.specs.BitDigits.{is_bit_pair, are_bits, packed_byte, packed}
use Rattle.etcs_runs.specs.declared.digits.NoBytes.{NoBytes}
use Rattle.etcs_runs.specs.declared.digits.NoBytes.TheVariants.{Empty, NoDigits, OddDigits}
use Rattle.etcs_runs.specs.Answers.{Says}
use Rattle.etcs_runs.specs.Digits.{is_passed_over, line_digits}
use Rattle.etcs_explain.specs.Kinds.{say_bits}
use Rattle.etcs_explain.specs.Inputs.{of_byte, of_line, digits_say, said, hex_tokens}

-- ---- The bits of a telegram.

pub bits_said : (asked : Option Kind) (bytes : List ℕ) → say_bits asked bytes ≡ true → digits_say asked bytes ≡ take ((length bytes + 3) / 4) (packed bytes)
bits_said asked bytes e = rw e refl

pub bytes_said : (asked : Option Kind) (bytes : List ℕ) → say_bits asked bytes ≡ false → digits_say asked bytes ≡ bytes
bytes_said asked bytes e = rw e refl

bits_long : (bytes : List ℕ) (n : ℕ) (b : Bool) → ((length bytes == n) && b) ≡ true → length bytes ≡ n
bits_long bytes n b e = eqb-true (length bytes) n (and_parts (length bytes == n) b e).0

few_of_kind : (kind : Kind) (bytes : List ℕ) → are_bits kind bytes ≡ true → length bytes ≤ 415
few_of_kind Long bytes e = omega (arith, bits_long bytes 415 (list_all is_bit_pair bytes) e)
few_of_kind Short bytes e = omega (arith, bits_long bytes 105 (list_all is_bit_pair bytes) e)
few_of_kind Radio bytes e = absurd cc
few_of_kind Train bytes e = absurd cc

few_bits : (asked : Option Kind) (bytes : List ℕ) → say_bits asked bytes ≡ true → length bytes ≤ 415
few_bits (Some kind) bytes e = few_of_kind kind bytes e
few_bits None bytes e = elim (or_cases (are_bits Long bytes) (are_bits Short bytes) e) [ inl l ↦ few_of_kind Long bytes l | inr s ↦ few_of_kind Short bytes s ]

-- the bytes of as many bits are there
pub has_bits : (asked : Option Kind) (bytes list : List ℕ) → say_bits asked bytes ≡ true → list ≡ packed bytes → (length bytes + 3) / 4 ≤ length list
has_bits asked bytes list e is =
    let all : length list ≡ 104 = ap length is ∙ length-map-range_with_len (λ i. packed_byte bytes i) 0 104 in
    omega (arith, few_bits asked bytes e, all)

-- ---- Lines.

said_some : (E : Type 0) (kind : Option Kind) (n : ℕ) (text : List ℕ) (bs : List ℕ) → 0 < length bs → said {E = E} kind n text (Ok bs) ≡ map (of_byte n) (digits_say kind bs)
said_some E kind n text [] h = absurd (omega (arith, h))
said_some E kind n text (b ∷ bs) h = refl

passed : (kind : Option Kind) (n : ℕ) (line : List ℕ) → is_passed_over line ≡ true → hex_tokens kind n line ≡ []
passed kind n line e = rw e refl

not_passed : (kind : Option Kind) (n : ℕ) (line : List ℕ) → is_passed_over line ≡ false → hex_tokens kind n line ≡ said kind n line (decode_of (line_digits line))
not_passed kind n line e = rw e refl

pub hex_ok : (kind : Option Kind) (n : ℕ) (line buffer : List ℕ) (k : ℕ) (r : Result ℕ NoBytes) → r ≡ Ok k → (IsTrue (is_passed_over line) → r ≡ Err Empty) → (is_passed_over line ≡ false → Says (line_digits line) r buffer) → hex_tokens kind n line ≡ map (of_byte n) (digits_say kind (drop (length buffer - k) buffer))
hex_ok kind n line buffer k r is empty says =
    elim (cases_Bool (is_passed_over line)) [
      | inl e ↦ let x = sym is ∙ empty e in absurd cc
      | inr e ↦
          let d = rw is at says e in
          not_passed kind n line e ∙ ap (λ z. said kind n line z) d.2 ∙ said_some FromHexError kind n line (drop (length buffer - k) buffer) (omega (arith, d.0, d.1, length-drop (length buffer - k) buffer))
    ]

pub hex_empty : (kind : Option Kind) (n : ℕ) (line buffer : List ℕ) (r : Result ℕ NoBytes) → r ≡ Err Empty → (is_passed_over line ≡ false → Says (line_digits line) r buffer) → hex_tokens kind n line ≡ []
hex_empty kind n line buffer r is says =
    elim (cases_Bool (is_passed_over line)) [
      | inl e ↦ passed kind n line e
      | inr e ↦ absurd (rw is at says e)
    ]

-- digits of no bytes are none
no_digits : {E : Type 0} (kind : Option Kind) (n : ℕ) (line : List ℕ) (r : Result (List ℕ) E) → ((bytes : List ℕ) → r ≡ Ok bytes → length (line_digits line) ≡ 2 * length bytes) → length (line_digits line) ≡ 0 → said kind n line r ≡ of_line n line ∷ []
no_digits kind n line (Ok []) twice none = refl
no_digits kind n line (Ok (b ∷ bs)) twice none = absurd (omega (arith, none, twice (b ∷ bs) refl))
no_digits kind n line (Err e) twice none = refl

bad : (kind : Option Kind) (n : ℕ) (line buffer : List ℕ) (why : NoBytes) → (why ≡ Empty → ⊥) → Says (line_digits line) (Err why) buffer → said kind n line (decode_of (line_digits line)) ≡ of_line n line ∷ []
bad kind n line buffer Empty other says = absurd says
bad kind n line buffer NoDigits other says = no_digits kind n line (decode_of (line_digits line)) (λ bytes h. (decode_of-ok (line_digits line) bytes h).2) (ap length says)
bad kind n line buffer (OddDigits k) other says = ap (λ z. said kind n line z) (decode_of-odd (line_digits line) (ap (λ (j : ℕ). j % 2) (sym says.0) ∙ says.1))

pub hex_bad : (kind : Option Kind) (n : ℕ) (line buffer : List ℕ) (why : NoBytes) (r : Result ℕ NoBytes) → r ≡ Err why → (why ≡ Empty → ⊥) → (IsTrue (is_passed_over line) → r ≡ Err Empty) → (is_passed_over line ≡ false → Says (line_digits line) r buffer) → hex_tokens kind n line ≡ of_line n line ∷ []
hex_bad kind n line buffer why r is other empty says =
    elim (cases_Bool (is_passed_over line)) [
      | inl e ↦ let x : why ≡ Empty = let y = sym is ∙ empty e in cc in absurd (other x)
      | inr e ↦ not_passed kind n line e ∙ bad kind n line buffer why other (rw is at says e)
    ]

-- a line without bytes isn't passed over, and says why
pub says_why : (line buffer : List ℕ) (why : NoBytes) (r : Result ℕ NoBytes) → r ≡ Err why → (why ≡ Empty → ⊥) → (IsTrue (is_passed_over line) → r ≡ Err Empty) → (is_passed_over line ≡ false → Says (line_digits line) r buffer) → Says (line_digits line) (Err why) buffer
says_why line buffer why r is other empty says =
    elim (cases_Bool (is_passed_over line)) [
      | inl e ↦ let x : why ≡ Empty = let y = sym is ∙ empty e in cc in absurd (other x)
      | inr e ↦ rw is at says e
    ]
