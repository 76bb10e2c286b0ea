use Rattle.std.proofs.Common.{◌≡◌, ◌-◌, ◌≤◌, ◌<◌, ◌+◌, ◌*◌, ◌/◌, ◌^◌}
use Rattle.etcs_vars.specs.Vars.{width}
use Rattle.etcs_reader.specs.Rests.{Starts}
use Rattle.etcs_reader.proofs.reader.Reader.refused.Given as goal

-- some number continues that begins with the first of the bits, and none with more of them
abbrev pub invariant-loop-end : goal.invariant-loop-end
invariant-loop-end g l =
    record {
      some : l.more < l.end;
      within : l.end ≤ l.count;
      value : l.number ≡ l.self.number * 2 ^ l.more + l.bits / 2 ^ (l.count - l.more);
      starts : Starts (g.R.Rest.left l.self.rest) l.var (width l.var - (l.self.taken + l.more)) (l.self.number * 2 ^ l.more + l.bits / 2 ^ (l.count - l.more));
      none : Starts (g.R.Rest.left l.self.rest) l.var (width l.var - (l.self.taken + l.end)) (l.self.number * 2 ^ l.end + l.bits / 2 ^ (l.count - l.end)) → ⊥;
    }

abbrev pub decreases-loop-end : goal.decreases-loop-end
decreases-loop-end g l = l.end - l.more
