-- Packets that the bits of a room spell.
use Rattle.std.proofs.Common.{◌≡◌, ℕ, ◌+◌, ◌-◌, Bool, List, Option, Some, refl, subst}
use Rattle.std.specs.Prelude.{IfSome}
use Rattle.etcs_bits.specs.Bits.{part}
use Rattle.etcs_rows.specs.declared.frames.Carrier.{Carrier}
use Rattle.etcs_sequence.specs.declared.run.Run.{Run}
use Rattle.etcs_sequence.specs.declared.run.Run.TheVariants.{All}
use Rattle.etcs_sequence.specs.AtOnce.{Holds, RunAt}
use Rattle.etcs_packet_text.specs.Rooms.{RoomHas}

-- what holds of all packets that were taken
pub all_taken : (P : Run → Type 0) (o : Option Run) (run : Run) (left : ℕ) → o ≡ Some run → run ≡ All left → IfSome o P → P (All left)
all_taken P o run left is all h = subst P all (subst (λ (z : Option Run). IfSome z P) is h)

-- those of a run
pub run_has : (c : Carrier) (room at left : ℕ) (H : Holds) (xs after : List Bool) (r : RunAt c room H xs at left) → after ≡ part (at + (room - left)) left xs → RoomHas c room xs at r.packets after
run_has c room at left H xs after r is =
    record {
      left = left;
      run = record { packets = r.packets; held = refl; run = r.run; within = r.within; long = r.long; bits = r.bits };
      after_is = is;
    }
