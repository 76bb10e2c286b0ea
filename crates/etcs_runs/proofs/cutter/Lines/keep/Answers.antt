use Rattle.std.proofs.Common.{List, ℕ, ◌++◌, refl, ap, arith}
use Rattle.etcs_runs.specs.Faults.{IfFault}
use Rattle.etcs_runs.proofs.Keeping.{few_lines, keep_refused, keeps, longer, more_line, reported, short_took, skips, then_ok}
use Rattle.etcs_runs.proofs.cutter.Lines.keep.Goals as goal

pub returns-then-before-most-clause-ok : goal.returns-then-before-most-clause-ok
returns-then-before-most-clause-ok g c given output h =
    skips h c.args.part.now c.requires.line refl (omega (arith, c.most-most.ensures.value, c.if-before-most.true))

pub overflow_add-self-then-self-most : goal.overflow_add-self-then-self-most
overflow_add-self-then-self-most g c =
    let (given, output, h, short) = c.requires.stands in
    omega (arith, few_lines h, short)

pub refuse_long-requires : goal.refuse_long-requires
refuse_long-requires g c =
    let (given, output, h, short) = c.requires.stands in
    record { took = (h.lines, output ++ c.args.page.now, short_took h (omega (arith, c.most-most.ensures.value, c.if-before-most.false)), omega (arith, few_lines h, short)) }

pub returns-then-self-most-clause-ok : goal.returns-then-self-most-clause-ok
returns-then-self-most-clause-ok g c given output h =
    let part = c.args.part.now in
    let e = c.refuse_long.ensures in
    let took = short_took h (omega (arith, c.most-most.ensures.value, c.if-before-most.false)) in
    let long = longer h part (omega (arith, c.most-most.ensures.value, c.if-self-most.true)) in
    then_ok c.refuse_long.result (reported h part c.requires.line (ap g.T.LineHandler.most e.job) refl long) (e.ok h.lines (h.part ++ part) output took (more_line h part c.requires.line) long)

pub returns-then-self-most-clause-err : goal.returns-then-self-most-clause-err
returns-then-self-most-clause-err g c more given output h =
    let part = c.args.part.now in
    let p = g.T.LineHandler.promises (g.T.LineHandler.job c.args.self.now.handler) in
    let took = short_took h (omega (arith, c.most-most.ensures.value, c.if-before-most.false)) in
    let long = longer h part (omega (arith, c.most-most.ensures.value, c.if-self-most.true)) in
    keep_refused h part (λ (z : List ℕ). IfFault c.refuse_long.result (p.Stops z (output ++ c.refuse_long.new.page))) more
    (c.refuse_long.ensures.err h.lines (h.part ++ part) more output took (more_line h part c.requires.line) long (omega (arith, h.line_is)))

pub returns-in-Ok-clause-ok : goal.returns-in-Ok-clause-ok
returns-in-Ok-clause-ok g c given output h =
    keeps h c.args.part.now c.requires.line c.in-Ok.ensures.items refl (omega (arith, c.most-most.ensures.value, c.if-self-most.false))
