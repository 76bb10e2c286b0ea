-- Which numbers may come next, by the tables, by the bits that are left and by a packet's length; and why none of those
-- may that begin with some bits (SUBSET-026, 7.4, 7.5 and 8).
use Rattle.std.specs.Prelude.{◌≡◌, ℕ, ◌+◌, ◌-◌, ◌/◌, ◌^◌, ◌<◌, ◌≤◌, [], ◌∷◌, IsTrue, Option, None, Some}
use Rattle.etcs_vars.specs.declared.var.Var.{Var}
use Rattle.etcs_vars.specs.declared.var.Var.TheVariants.{L_MESSAGE, NID_PACKET, L_PACKET}
use Rattle.etcs_vars.specs.Vars.{width, admits}
use Rattle.etcs_vars.specs.Reading.{Reading}
use Rattle.etcs_tables.specs.Layouts.{Lengths}
use Rattle.etcs_tables.specs.Frames.{frame_bits, is_framed}
use Rattle.etcs_reader.specs.Blocks.{Continues, NoneOf}
use Rattle.etcs_rows.specs.declared.frames.Carrier.{Carrier}
use Rattle.etcs_rows.specs.declared.frames.Carrier.TheVariants.{Telegram, Message}
use Rattle.etcs_rows.specs.declared.here.Here.{Here}
use Rattle.etcs_rows.specs.declared.here.Here.TheVariants.{Any, MessageLength, PacketNumber, PacketLength, Row}
use Rattle.etcs_rows.specs.declared.cause.Cause.{Cause}
use Rattle.etcs_rows.specs.declared.cause.Cause.TheVariants.{Spare, Unfit}
use Rattle.etcs_rows.specs.Frames.{way_of, BodyLength, LengthFits, NumberFits}
use Rattle.etcs_rows.specs.Messages.{MessageLengthFits}

-- ---- What may come next.

-- the variable x may have the number n here
abbrev pub Passes : Here → Var → ℕ → Type 0
Passes Any x n = IsTrue (admits x n)
Passes (MessageLength way nid) x n = MessageLengthFits way nid n
Passes (PacketNumber c room) x n = NumberFits c room n
Passes (PacketLength c nid room) x n = LengthFits c nid room n
Passes (Row nid row len) x n = IsTrue (admits x n) × ((m : ℕ) × Lengths row (n ∷ []) m × (width x + m ≡ len))

-- the language L continues with x and a number exactly if x may have this number here
pub record Exactly (L : Reading → Type 0) (x : Var) (here : Here) : Type 0 where
  pub passes : (n : ℕ) → Continues L x n → Passes here x n
  pub continues : (n : ℕ) → Passes here x n → Continues L x n

-- x is the variable that comes here
abbrev pub IsAt : Here → Var → Type 0
IsAt Any x = Unit {0}
IsAt (MessageLength way nid) x = x ≡ L_MESSAGE
IsAt (PacketNumber c room) x = x ≡ NID_PACKET
IsAt (PacketLength c nid room) x = x ≡ L_PACKET
IsAt (Row nid row len) x = Unit {0}

-- ---- What the tables have, whatever is left.

-- packets have this number: of a telegram any, since each has a frame or is packet 0 or 255; of a message those with a
-- frame
abbrev pub HasNumber : Carrier → ℕ → Type 0
HasNumber Telegram n = Unit {0}
HasNumber (Message way) n = IsTrue (is_framed way n)

-- packet nid may have l bits, its frame included
abbrev pub HasLength : Carrier → ℕ → ℕ → Type 0
HasLength c nid l = (frame_bits (way_of c) ≤ l) × (l < 2 ^ 13) × BodyLength (way_of c) nid (l - frame_bits (way_of c))

-- the tables have the number n for x, whatever is left
abbrev pub Among : Here → Var → ℕ → Type 0
Among Any x n = IsTrue (admits x n)
Among (MessageLength way nid) x n = MessageLengthFits way nid n
Among (PacketNumber c room) x n = HasNumber c n
Among (PacketLength c nid room) x n = HasLength c nid n
Among (Row nid row len) x n = IsTrue (admits x n)

-- the number has P and begins with these bits, with rest bits more after them; or none does
abbrev pub OneOf : (ℕ → Type 0) → ℕ → ℕ → Option ℕ → Type 0
OneOf P rest bits None = NoneOf P rest bits
OneOf P rest bits (Some n) = (n / 2 ^ rest ≡ bits) × P n

-- what a cause says of the numbers of x that begin with these bits: the tables have none; or they have this one
abbrev pub Claims : Here → Var → ℕ → ℕ → Cause → Type 0
Claims here x rest bits Spare = OneOf (Among here x) rest bits None
Claims here x rest bits (Unfit n) = OneOf (Among here x) rest bits (Some n)

-- the cause, from a number that the tables have, if they have one
abbrev pub cause_by : Option ℕ → Cause
cause_by None = Spare
cause_by (Some n) = Unfit n
