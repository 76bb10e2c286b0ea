-- How many bytes a message may have, by its number (SUBSET-026, 8).
use Rattle.std.specs.Prelude.{◌≡◌, ℕ, ◌+◌, ◌*◌, ◌^◌, ◌≤◌, ◌<◌, ◌⊎◌, [], Some, None}
use Rattle.etcs_tables.specs.declared.row.Way.{Way}
use Rattle.etcs_rows.specs.declared.frames.Carrier.TheVariants.{Message}
use Rattle.etcs_tables.specs.Layouts.{Layout, Lengths}
use Rattle.etcs_tables.specs.Rows.{message_row_to}
use Rattle.etcs_tables.specs.MessageRows.{header_bits}
use Rattle.etcs_rows.specs.Frames.{Leaves}

-- a typed message nid may have l bytes: header and some length of its row leave at most 7 bits or at least the frame of
-- a packet
abbrev pub TypedLength : Way → ℕ → ℕ → Type 0
TypedLength way nid l = (row : Layout) × (m : ℕ) × (message_row_to way nid ≡ Some row) × Lengths row [] m × Leaves (Message way) (8 * l) (header_bits way + m)

-- a message that isn't typed may have l bytes: at least 3, which have room for NID_MESSAGE and L_MESSAGE
abbrev pub KeptLength : Way → ℕ → ℕ → Type 0
KeptLength way nid l = (message_row_to way nid ≡ None) × (3 ≤ l)

-- a message nid may have l bytes, fewer than 1,024: as a typed message or as one that is kept whole
abbrev pub MessageLengthFits : Way → ℕ → ℕ → Type 0
MessageLengthFits way nid l = (l < 2 ^ 10) × (TypedLength way nid l ⊎ KeptLength way nid l)
