-- What `line_bytes` returns for the digits of a line.
use Rattle.std.specs.Prelude.{◌≡◌, ℕ, ◌-◌, ◌%◌, ◌<◌, ◌≤◌, List, [], length, drop, Result, Ok, Err}
use Rattle.hex.specs.Hex.{decode_of}
use Rattle.etcs_runs.specs.declared.digits.NoBytes.{NoBytes}
use Rattle.etcs_runs.specs.declared.digits.NoBytes.TheVariants.{Empty, NoDigits, OddDigits}

-- the digits stand for bytes, and these are the last n of the buffer, at least one; or there are no digits, or n, an
-- odd number
abbrev pub Says : List ℕ → Result ℕ NoBytes → List ℕ → Type 0
Says digits (Ok n) buffer = (0 < n) × (n ≤ length buffer) × (decode_of digits ≡ Ok (drop (length buffer - n) buffer))
Says digits (Err Empty) buffer = ⊥
Says digits (Err NoDigits) buffer = digits ≡ []
Says digits (Err (OddDigits n)) buffer = (n ≡ length digits) × (n % 2 ≡ 1)
