use Rattle.std.proofs.Common.{ℕ, List, [], ◌∷◌, ◌++◌, sym, subst, arith, length-append}
use Rattle.std.specs.Prelude.{IfOk}
use Rattle.etcs_runs.specs.Faults.{IfFault}
use Rattle.etcs_runs.proofs.Keeping.{few_lines, short_took, whole_took}
use Rattle.etcs_runs.proofs.cutter.LinesEngine.finish.Goals as goal

pub close-requires-clause-took : goal.close-requires-clause-took
close-requires-clause-took g c =
    let (given, output, h, short) = c.requires.stands in
    let long = c.if-self-most.true in
    (h.lines ++ h.part ∷ [], output, whole_took h (omega (arith, c.most.ensures.value, long)), omega (arith, few_lines h, short, c.most.ensures.value, long, length-append h.lines (h.part ∷ [])))

pub returns-then-self-most-clause-ok : goal.returns-then-self-most-clause-ok
returns-then-self-most-clause-ok g c given output h =
    let p = g.T.LineHandler.promises (g.T.LineHandler.job c.args.self.now.handler) in
    subst (λ (z : List ℕ). IfOk c.close.result (λ tally. p.Ends z (output ++ c.close.new.page) tally)) (sym h.given_is)
    (c.close.ensures.ok h.lines h.part output (whole_took h (omega (arith, c.most.ensures.value, c.if-self-most.true))) h.is_line (omega (arith, c.most.ensures.value, c.if-self-most.true, h.n_is)))

pub returns-then-self-most-clause-err : goal.returns-then-self-most-clause-err
returns-then-self-most-clause-err g c given output h =
    let p = g.T.LineHandler.promises (g.T.LineHandler.job c.args.self.now.handler) in
    subst (λ (z : List ℕ). IfFault c.close.result (p.StopsAtEnd z (output ++ c.close.new.page))) (sym h.given_is)
    (c.close.ensures.err h.lines h.part output (whole_took h (omega (arith, c.most.ensures.value, c.if-self-most.true))) h.is_line (omega (arith, c.most.ensures.value, c.if-self-most.true, h.n_is)))

pub returns-then-self-most-clause-said : goal.returns-then-self-most-clause-said
returns-then-self-most-clause-said g c given output h =
    c.close.ensures.said (h.lines ++ h.part ∷ []) output (whole_took h (omega (arith, c.most.ensures.value, c.if-self-most.true)))

pub overflow_add-self : goal.overflow_add-self
overflow_add-self g c =
    let (given, output, h, short) = c.requires.stands in
    omega (arith, few_lines h, short)

pub handle_last-requires-clause-took : goal.handle_last-requires-clause-took
handle_last-requires-clause-took g c =
    let (given, output, h, short) = c.requires.stands in
    (h.lines, output, short_took h (omega (arith, c.most.ensures.value, c.if-self-most.false)), omega (arith, few_lines h, short))
