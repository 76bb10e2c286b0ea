use Rattle.std.proofs.Common.{◌≡◌, ℕ, ◌-◌, ◌≤◌, ◌<◌, ◌/◌, ◌^◌}
use Rattle.etcs_vars.specs.Vars.{width}
use Rattle.etcs_reader.specs.Blocks.{Continues}
use Rattle.etcs_reader.proofs.nearest.below.Given as goal

-- none below that begins so
abbrev pub invariant-loop-more : goal.invariant-loop-more
invariant-loop-more g l =
    record {
      from : l.rest ≤ l.more;
      within : l.more ≤ width l.var;
      block : l.block ≡ l.bits / 2 ^ (l.more - l.rest);
      none : (n : ℕ) → n / 2 ^ l.more ≡ l.block → Continues (g.R.Rest.left l.left) l.var n → n / 2 ^ l.rest < l.bits → ⊥;
    }

abbrev pub decreases-loop-more : goal.decreases-loop-more
decreases-loop-more g l = width l.var - l.more
