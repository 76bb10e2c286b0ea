-- Which numbers and which lengths a packet may still have in a telegram or a message, by the bits that are left after
-- it (SUBSET-026, 7.4 and 8).
use Rattle.std.specs.Prelude.{◌≡◌, ℕ, ◌+◌, ◌-◌, ◌/◌, ◌≤◌, ◌<◌, ◌^◌, Bool, ◌||◌, nat_le, IsTrue, Some, [], ◌⊎◌, ◌↔◌}
use Rattle.etcs_tables.specs.declared.row.Way.{Way}
use Rattle.etcs_tables.specs.declared.row.Way.TheVariants.{ToTrain}
use Rattle.etcs_rows.specs.declared.frames.Carrier.{Carrier}
use Rattle.etcs_rows.specs.declared.frames.Carrier.TheVariants.{Telegram, Message}
use Rattle.etcs_rows.specs.declared.frames.Window.{Window}
use Rattle.etcs_rows.specs.declared.frames.Windows.{Windows}
use Rattle.etcs_tables.specs.Layouts.{Layout, Lengths}
use Rattle.etcs_tables.specs.Rows.{row_to}
use Rattle.etcs_tables.specs.Frames.{frame_bits, is_kept}

-- packet nid may have m bits after its frame: its row has a spelling of this length, or it is kept as bits
abbrev pub BodyLength : Way → ℕ → ℕ → Type 0
BodyLength way nid m = ((row : Layout) × (row_to way nid ≡ Some row) × Lengths row [] m) ⊎ IsTrue (is_kept way nid)

-- the way of a carrier's packets: a telegram's go to the train, a message's its own way
abbrev pub way_of : Carrier → Way
way_of Telegram = ToTrain
way_of (Message way) = way

-- r bits may be left after a packet: in a telegram at least the 8 of packet 255, in a message at most 7 of padding or
-- at least the frame of a packet
abbrev pub may_be_left : Carrier → ℕ → Bool
may_be_left Telegram r = nat_le 8 r
may_be_left (Message way) r = nat_le r 7 || nat_le (frame_bits way) r

-- a packet of l bits leaves what may be left of the room, which is counted in bits from the packet's first bit
abbrev pub Leaves : Carrier → ℕ → ℕ → Type 0
Leaves carrier room l = (l ≤ room) × IsTrue (may_be_left carrier (room - l))

-- packet nid may have l bits, its frame included, if room bits are left, counted from its first bit: L_PACKET and its
-- row allow it, and what is left after it may be
abbrev pub LengthFits : Carrier → ℕ → ℕ → ℕ → Type 0
LengthFits carrier nid room l = (frame_bits (way_of carrier) ≤ l) × (l < 2 ^ 13) × BodyLength (way_of carrier) nid (l - frame_bits (way_of carrier)) × Leaves carrier room l

-- a packet without a frame fits if room bits are left: in a telegram packet 255, or packet 0 with packet 255 after it;
-- in a message none
abbrev pub UnframedFits : Carrier → ℕ → ℕ → Type 0
UnframedFits Telegram room nid = ((nid ≡ 255) × (8 ≤ room)) ⊎ ((nid ≡ 0) × (14 + 8 ≤ room))
UnframedFits (Message way) room nid = ⊥

-- packet nid fits with some length if room bits are left, counted from its first bit
abbrev pub NumberFits : Carrier → ℕ → ℕ → Type 0
NumberFits carrier room nid = UnframedFits carrier room nid ⊎ ((l : ℕ) × LengthFits carrier nid room l)

-- ---- How the code finds them.

-- the numbers that give b, once divided by d, are those from low to high
abbrev pub IsBlock : ℕ → ℕ → ℕ → ℕ → Type 0
IsBlock d b low high = (n : ℕ) → (n / d ≡ b) ↔ ((low ≤ n) × (n ≤ high))

-- the window holds the number m
abbrev pub Within : Window → ℕ → Type 0
Within w m = (w.low ≤ m) × (m < w.end)

-- one of the two windows holds the number m
abbrev pub InWindows : Windows → ℕ → Type 0
InWindows w m = Within w.followed m ⊎ Within w.last m

-- the windows hold the numbers of bits after a frame with which a packet of low to high bits leaves what may be left
abbrev pub AreBodies : Carrier → ℕ → ℕ → ℕ → Windows → Type 0
AreBodies carrier room low high w = (m : ℕ) → InWindows w m ↔ ((low ≤ frame_bits (way_of carrier) + m) × (frame_bits (way_of carrier) + m ≤ high) × Leaves carrier room (frame_bits (way_of carrier) + m))
