-- Why a bit is refused, as numbers.
use Rattle.std.specs.Prelude.{ℕ, ◌+◌, Option, Some, None}
use Rattle.etcs_rows.specs.declared.cause.Cause.{Cause}
use Rattle.etcs_rows.specs.declared.cause.Cause.TheVariants.{Spare, Unfit}
use Rattle.etcs_rows.specs.declared.here.Here.{Here}
use Rattle.etcs_rows.specs.declared.here.Here.TheVariants.{Any, MessageLength, PacketNumber, PacketLength, Row}
use Rattle.etcs_rows.specs.declared.refusal.Refusal.{Refusal}
use Rattle.etcs_c.specs.declared.reason.EtcsReason.{EtcsReason}

-- ---- Members that need not be there.

-- the number; 0 if there is none
abbrev pub number_of : Option ℕ → ℕ
number_of (Some n) = n
number_of None = 0

-- the mark of a member that is there, else 0
abbrev pub mark_of : {A : Type 0} → ℕ → Option A → ℕ
mark_of mark (Some n) = mark
mark_of mark None = 0

-- ---- The cause.

-- its number: the tables have no such number, or none that fits
abbrev pub cause_number : Cause → ℕ
cause_number Spare = 0
cause_number (Unfit n) = 1

-- the number that the tables have; 0 if there is none
abbrev pub unfit_of : Cause → ℕ
unfit_of Spare = 0
unfit_of (Unfit n) = n

-- ---- What comes here.

-- its number
abbrev pub here_number : Here → ℕ
here_number Any = 0
here_number (MessageLength way nid) = 1
here_number (PacketNumber c room) = 2
here_number (PacketLength c nid room) = 3
here_number (Row nid place len) = 4

-- the number of the message or packet whose length or variable it is
abbrev pub nid_of : Here → Option ℕ
nid_of Any = None
nid_of (MessageLength way nid) = Some nid
nid_of (PacketNumber c room) = None
nid_of (PacketLength c nid room) = Some nid
nid_of (Row nid place len) = Some nid

-- how many bits are left, of the telegram or message from the packet's first bit on, or of the packet
abbrev pub room_of : Here → Option ℕ
room_of Any = None
room_of (MessageLength way nid) = None
room_of (PacketNumber c room) = Some room
room_of (PacketLength c nid room) = Some room
room_of (Row nid place len) = Some len

-- ---- All of it.

-- which members are there: 1 the number, 2 and 4 the nearest ones below and above, 8 how many bits are left, 16 the number of
-- the message or packet
abbrev pub marks_of : Refusal → ℕ
marks_of r = mark_of 1 r.number + (mark_of 2 r.below + mark_of 4 r.above) + (mark_of 8 (room_of r.here) + mark_of 16 (nid_of r.here))

-- a refusal's reason: its members, each 0 if it isn't there
abbrev pub reason_of : Refusal → EtcsReason
reason_of r = record {
  bits = r.bits;
  count = r.count;
  number = number_of r.number;
  below = number_of r.below;
  above = number_of r.above;
  unfit = unfit_of r.cause;
  room = number_of (room_of r.here);
  cause = cause_number r.cause;
  here = here_number r.here;
  nid = number_of (nid_of r.here);
  has = marks_of r;
}
