use Rattle.std.proofs.Common.{reverse}
use Rattle.etcs_rows.specs.Cursors.{waiting}
use Rattle.etcs_tables.specs.Layouts.{layout}
use Rattle.etcs_rows.specs.Lengths.{LengthsBy}
use Rattle.etcs_rows.specs.Sums.{Plus}
use Rattle.etcs_rows.proofs.LengthLemmas.{set_self}
use Rattle.etcs_rows.proofs.StepSums.{plus_are}
use Rattle.etcs_rows.proofs.fitting.tail_steps.Goals as goal

pub returns : goal.returns
returns c =
    let A = LengthsBy (layout c.args.items.now) c.args.before in let W = LengthsBy (waiting (reverse c.args.outer.now)) 0 in
    plus_are c.plus.result c.in_ok-steps_of.field-0 c.in_ok-all.all A W (Plus A W) c.in_ok-steps_of.ensures c.in_ok-all.ensures (set_self (Plus A W)) c.plus.ensures
