-- How many bits a message's row takes, and how many bytes a message may have (SUBSET-026, 8).
use Rattle.std.specs.Prelude.{ℕ, ◌+◌, ◌/◌, List, [], ◌∷◌, Option, Some, None}
use Rattle.etcs_vars.specs.Vars.{width}
use Rattle.etcs_tables.specs.declared.row.Way.{Way}
use Rattle.etcs_tables.specs.declared.row.Way.TheVariants.{ToTrain, ToTrack}
use Rattle.etcs_tables.specs.Layouts.{Layout, whole, one, guarded, counted}
use Rattle.etcs_tables.specs.Frames.{frame_bits}

-- how many bits the header of a typed message takes, which comes before its row
abbrev pub header_bits : Way → ℕ
header_bits ToTrain = 75
header_bits ToTrack = 74

-- how many bits a row without groups takes
abbrev pub row_bits : Layout → ℕ
row_bits whole = 0
row_bits (one v rest) = width v + row_bits rest
row_bits (guarded g group rest) = 0
row_bits (counted group rest) = 0

-- the numbers of bytes, as ranges with both ends, that leave at most 7 bits after these bits, and those that leave the
-- frame of a packet or more
abbrev pub after_bits : Way → ℕ → List (ℕ × ℕ)
after_bits way bits = ((bits + 7) / 8, (bits + 7) / 8) ∷ ((bits + (frame_bits way + 7)) / 8, 1023) ∷ []

-- the numbers of bytes that a message may have, as ranges with both ends: those that leave at most 7 bits after header
-- and row, and those that leave the frame of a packet or more; 3 to 1,023 if there is no row
abbrev pub lengths_after : Way → Option Layout → List (ℕ × ℕ)
lengths_after way None = (3, 1023) ∷ []
lengths_after way (Some row) = after_bits way (header_bits way + row_bits row)
