use Rattle.std.proofs.Common.{◌≡◌, ◌+◌, ◌<◌}
use Rattle.std.specs.Prelude.{IsTrue}
use Rattle.etcs_bits.specs.Bits.{bits}
use Rattle.etcs_bits.specs.NextBits.{AreNext}
use Rattle.etcs_rows.specs.Frames.{may_be_left}
use Rattle.etcs_sequence.specs.AtOnce.{RunTo}
use Rattle.etcs_sequence.proofs.run.take_run.Given as goal

abbrev pub invariant-loop-store : goal.invariant-loop-store
invariant-loop-store g l = record {
  run : RunTo l.carrier l.room (g.S.PacketSink.holds l.store) (bits l.piece) l.at l.left;
  here : l.place + l.left ≡ l.at + l.room;
  word : AreNext l.word (bits l.piece) l.place;
  may : l.left < l.room → IsTrue (may_be_left l.carrier l.left);
  before : g.S.PacketSink.before l.store ≡ g.S.PacketSink.before l.fn.store;
}

abbrev pub decreases-loop-store : goal.decreases-loop-store
decreases-loop-store g l = l.left
