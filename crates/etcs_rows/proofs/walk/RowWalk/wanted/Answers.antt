use Rattle.std.proofs.Common.{◌≡◌, sym, ap, ◌∙◌, arith, length}
use Rattle.etcs_vars.specs.Vars.{width}
use Rattle.etcs_rows.specs.Places.{first_variable}
use Rattle.etcs_rows.specs.Walks.{WalkValue}
use Rattle.etcs_rows.proofs.WalkSteps.{some_same, part_long}
use Rattle.etcs_rows.proofs.walk.RowWalk.wanted.Goals as goal

pub overflow_sub-result : goal.overflow_sub-result
overflow_sub-result c =
    let long = part_long c.self.inside.feeder.part c.unfinished.result.0 c.unfinished.result.1 c.unfinished.ensures.bits in
    omega (arith, long, c.width.ensures, c.self.invariant.inside c.in-Some.var (sym c.in-Some.ensures.next))

pub returns-in-Some-clause-next : goal.returns-in-Some-clause-next
returns-in-Some-clause-next c = λ x first.
    let v = c.self.inside.feeder in
    let here = sym c.in-Some.ensures.next in
    let same : c.in-Some.var ≡ x = some_same (c.in-Some.ensures.next ∙ ap (λ (w : WalkValue). first_variable w.left) c.self.view_is ∙ first) in
    let part : length v.part ≡ length c.args.self.now.part = ap (λ (w : WalkValue). length w.part) c.self.view_is in
    let long = part_long v.part c.unfinished.result.0 c.unfinished.result.1 c.unfinished.ensures.bits in
    omega (arith, sym part, long, c.width.ensures, ap width same, c.self.invariant.inside c.in-Some.var here)
