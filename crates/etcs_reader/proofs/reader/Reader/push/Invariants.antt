use Rattle.std.proofs.Common.{◌-◌, ◌≤◌, ◌++◌, Bool, List, take}
use Rattle.etcs_bits.specs.Bits.{bits}
use Rattle.etcs_reader.specs.Readers.{Passed, IsReader, part_of}
use Rattle.etcs_reader.proofs.reader.Reader.push.Given as goal

abbrev pub invariant-loop-at : goal.invariant-loop-at
invariant-loop-at g l =
    record {
      reader : IsReader g.row.R.Denot g.R.Rest.left g.R.Rest.next l.self;
      within : l.at ≤ l.end;
      passed : (s : g.row.R.Denot) (b : List Bool) → Passed (λ p. g.R.Rest.follows s p l.fn.self.rest) (b ++ take l.fn.at (bits l.piece)) (part_of l.fn.self) → Passed (λ p. g.R.Rest.follows s p l.self.rest) (b ++ take l.at (bits l.piece)) (part_of l.self);
    }

abbrev pub decreases-loop-at : goal.decreases-loop-at
decreases-loop-at g l = l.end - l.at
