use Rattle.std.proofs.Common.{◌≡◌, ◌-◌, ◌<◌, ◌≤◌, length}
use Rattle.etcs_bits.specs.Bits.{bits, part}
use Rattle.etcs_vars.specs.Reading.{Reading, spelled}
use Rattle.etcs_reader.specs.Rests.{Goes}
use Rattle.etcs_sequence.specs.Leaps.{Follows}
use Rattle.etcs_sequence.specs.Lefts.{left_of}
use Rattle.etcs_sequence.proofs.packets.PacketsRest.leap_packets.Given as goal

abbrev pub invariant-loop-place : goal.invariant-loop-place
invariant-loop-place g l =
    record {
      order : l.at ≤ l.place;
      within : l.place ≤ length (bits l.piece);
      same : l.place ≡ l.at → l.self ≡ l.fn.self;
      goes : l.at < l.place → Goes (left_of l.self.left.carrier l.self.left.room l.self.left.stage);
      whole : Reading;
      follows : Follows l.fn.self.left (g.S.PacketSink.holds l.fn.self.store) whole l.self.left (g.S.PacketSink.holds l.self.store);
      spelling : spelled whole ≡ part l.at (l.place - l.at) (bits l.piece);
    }

abbrev pub decreases-loop-place : goal.decreases-loop-place
decreases-loop-place g l = l.end - l.place
