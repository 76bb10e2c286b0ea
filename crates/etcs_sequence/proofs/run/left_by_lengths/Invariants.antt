use Rattle.std.proofs.Common.{◌+◌, ◌-◌, ◌≤◌}
use Rattle.etcs_bits.specs.Bits.{bits}
use Rattle.etcs_bits.specs.NextBits.{AreNext}
use Rattle.etcs_sequence.proofs.run.left_by_lengths.Given as goal

abbrev pub invariant-loop-len : goal.invariant-loop-len
invariant-loop-len l = record {
  most : l.left ≤ l.room;
  word : AreNext l.word (bits l.piece) (l.at + (l.room - l.left));
}

abbrev pub decreases-loop-len : goal.decreases-loop-len
decreases-loop-len l = l.left
