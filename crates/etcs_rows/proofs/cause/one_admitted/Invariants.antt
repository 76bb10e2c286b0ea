use Rattle.std.proofs.Common.{◌≡◌, ◌-◌, ◌≤◌, ◌<◌, ◌/◌, ◌^◌}
use Rattle.std.specs.Prelude.{IsTrue}
use Rattle.etcs_vars.specs.Vars.{width, ranges, begins}
use Rattle.etcs_rows.proofs.cause.one_admitted.Given as goal

-- the first bits of an admitted one
abbrev pub invariant-loop-more : goal.invariant-loop-more
invariant-loop-more l =
    record {
      within : l.more ≤ l.rest;
      fits : l.number < 2 ^ (width l.var - l.more);
      front : l.number / 2 ^ (l.rest - l.more) ≡ l.bits;
      starts : IsTrue (begins (ranges l.var) l.more l.number);
    }

abbrev pub decreases-loop-more : goal.decreases-loop-more
decreases-loop-more l = l.more
