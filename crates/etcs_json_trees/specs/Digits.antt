-- Hexadecimal digits of either case.
use Rattle.std.specs.Prelude.{ℕ, ◌+◌, ◌&&◌, nat_le, if◌then◌else◌}

-- the byte c, A to F in lower case and all else as it is
abbrev pub lower : ℕ → ℕ
lower c = if nat_le 65 c && nat_le c 70 then c + 32 else c
