use Rattle.std.proofs.Common.{◌-◌, ◌≤◌, [], take}
use Rattle.etcs_bits.specs.Bits.{bits}
use Rattle.etcs_reader.specs.Rests.{Goes}
use Rattle.etcs_reader.specs.Readers.{Passed}
use Rattle.etcs_reader.proofs.inner.pass_front.Given as goal

abbrev pub invariant-loop-at : goal.invariant-loop-at
invariant-loop-at g l =
    record {
      goes : Goes (g.R.Rest.left l.rest);
      within : l.at ≤ l.end;
      passed : Passed (λ p. g.R.Rest.follows l.fn.rest p l.rest) (take l.at (bits l.piece)) [];
    }

abbrev pub decreases-loop-at : goal.decreases-loop-at
decreases-loop-at g l = l.end - l.at
