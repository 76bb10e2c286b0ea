use Rattle.std.proofs.Common.{arith, ◌*◌, ◌/◌}
use Rattle.etcs_rows.specs.Sets.{In}
use Rattle.etcs_rows.proofs.SetLemmas.{times_none}
use Rattle.etcs_rows.proofs.Doubling.{Doubling, doubling_none, doubling_odd, doubling_even, doubling_more, doubling_one}
use Rattle.etcs_rows.proofs.length_set.LengthSet.times.Goals as goal
use Rattle.etcs_rows.proofs.length_set.LengthSet.times.Goals.{then-left-eq1, else-left-eq1}

pub loop-left-init : goal.loop-left-init
loop-left-init c = doubling_none c.args.count c.args.self.now c.single-sums.result (omega arith) (times_none (In c.args.self.now) c.single-sums.result c.single-sums.ensures)

pub loop-left-preserved : goal.loop-left-preserved
loop-left-preserved c =
    let A = In c.args.self.now in let left = c.loop-left.left in let power = c.loop-left.power in
    let added : Doubling (left / 2 * 2) c.args.count A c.if-left-eq1.sums power = elim c.if-left-eq1.branch [
      | then-left-eq1 w ↦ rw w.sums-is (doubling_odd left c.args.count A c.loop-left.sums power w.plus-sums.result w.if-left-eq1.true c.loop-left.invariant w.plus-sums.ensures)
      | else-left-eq1 w ↦ rw w.sums-is (doubling_even left c.args.count A c.loop-left.sums power w.if-left-eq1.false c.loop-left.invariant)
    ] in
    doubling_more (left / 2) c.args.count A c.if-left-eq1.sums power c.plus-power.result added c.plus-power.ensures

pub returns-then-left-eq1-2 : goal.returns-then-left-eq1-2
returns-then-left-eq1-2 c = (doubling_one c.args.count (In c.args.self.now) c.loop-left.left c.loop-left.sums c.loop-left.power c.plus.result c.if-left-eq1-2.true c.loop-left.invariant c.plus.ensures).are
