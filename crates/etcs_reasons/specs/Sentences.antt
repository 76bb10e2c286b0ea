-- What is written in words.
use Rattle.std.specs.Prelude.{◌≡◌, ◌<◌, false, length, string_bytes}
use Rattle.etcs_reasons.specs.declared.text.Text.{Text}

-- the text isn't empty, unless memory ran out for a part of it
abbrev pub IsWritten : Text → Type 0
IsWritten t = t.is_starved ≡ false → 0 < length (string_bytes t.held)
