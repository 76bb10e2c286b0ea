use Rattle.std.proofs.Common.{◌≡◌, ℕ, ◌-◌, ◌≤◌, ◌<◌, ◌/◌, ◌^◌}
use Rattle.etcs_vars.specs.Vars.{width}
use Rattle.etcs_reader.specs.Rests.{Starts}
use Rattle.etcs_reader.specs.Blocks.{Continues}
use Rattle.etcs_reader.proofs.nearest.greatest_begun.Given as goal

-- the first bits of the greatest one
abbrev pub invariant-loop-more : goal.invariant-loop-more
invariant-loop-more g l =
    record {
      within : l.more ≤ l.rest;
      fits : l.number < 2 ^ (width l.var - l.more);
      front : l.number / 2 ^ (l.rest - l.more) ≡ l.bits;
      starts : Starts (g.R.Rest.left l.left) l.var l.more l.number;
      greatest : (n : ℕ) → n / 2 ^ l.rest ≡ l.bits → Continues (g.R.Rest.left l.left) l.var n → n / 2 ^ l.more ≤ l.number;
    }

abbrev pub decreases-loop-more : goal.decreases-loop-more
decreases-loop-more g l = l.more
