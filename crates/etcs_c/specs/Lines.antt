-- What `etcs_line_bytes` returns for the digits of a line.
use Rattle.std.specs.Prelude.{◌≡◌, ℕ, ◌<◌, ◌%◌, ◌⊎◌, true, false, List, [], length, Ok}
use Rattle.hex.specs.Hex.{decode_of}
use Rattle.etcs_runs.specs.Digits.{is_passed_over, line_digits}
use Rattle.etcs_c.specs.declared.answer.EtcsAnswer.{EtcsAnswer}
use Rattle.etcs_c.specs.Writes.{Starves, Writes}

-- the bytes that the digits stand for, at least one, are written; or 9 if there are no digits; or 10 with their number,
-- which is odd
abbrev pub SaysDigits : List ℕ → List ℕ → List ℕ → ℕ → EtcsAnswer → Type 0
SaysDigits digits old new s a = ((bytes : List ℕ) × (0 < length bytes) × (decode_of digits ≡ Ok bytes) × Writes bytes old new s a) ⊎ (((s ≡ 9) × (digits ≡ []) × (new ≡ old)) ⊎ ((s ≡ 10) × (a.taken ≡ length digits) × (a.taken % 2 ≡ 1) × (new ≡ old)))

-- `etcs_line_bytes`: 8 if the line is blank or a comment; else that for its digits; or it is out of memory
abbrev pub SaysBytes : List ℕ → List ℕ → List ℕ → ℕ → EtcsAnswer → Type 0
SaysBytes line old new s a = ((s ≡ 8) × (is_passed_over line ≡ true) × (new ≡ old)) ⊎ (((is_passed_over line ≡ false) × SaysDigits (line_digits line) old new s a) ⊎ Starves old new s)
