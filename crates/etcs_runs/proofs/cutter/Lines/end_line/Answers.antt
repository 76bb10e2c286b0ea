use Rattle.std.proofs.Common.{◌≡◌, ℕ, List, [], ◌∷◌, ◌++◌, refl, sym, ap, subst, ◌∙◌, arith, length-append}
use Rattle.std.proofs.lemmas.Result.{err_from_is_err_and}
use Rattle.etcs_runs.specs.Faults.{IfFault, IsOfEngine}
use Rattle.etcs_runs.specs.Lines.{IsLine, lines_text}
use Rattle.etcs_runs.proofs.Keeping.{few_lines, line_stops, line_taken, more_text, no_part, short_begun, short_took, then_ok, whole_took}
use Rattle.etcs_runs.proofs.cutter.Lines.end_line.Goals as goal
use Rattle.etcs_runs.proofs.cutter.Lines.end_line.Goals.{then-self-most+in_ok-give_kept, else-self-most}

pub overflow_add-self : goal.overflow_add-self
overflow_add-self g c =
    let (given, output, h, short) = c.requires.stands in
    omega (arith, few_lines h, short)

pub handle_line-requires : goal.handle_line-requires
handle_line-requires g c =
    let (given, output, h, short) = c.requires.stands in
    record { took = (h.lines, output ++ c.args.page.now, short_took h (omega (arith, c.if-self-eq0.true)), omega (arith, few_lines h, short)) }

pub returns-then-after-beyond-clause-ok : goal.returns-then-after-beyond-clause-ok
returns-then-after-beyond-clause-ok g c given output h =
    let part = c.args.part.now in
    let zero = c.if-self-eq0.true in
    let none = no_part h zero in
    let is : given ++ part ≡ lines_text h.lines ++ part = more_text h part ∙ ap (λ (z : List ℕ). lines_text h.lines ++ (z ++ part)) none in
    then_ok c.handle_line.result (line_taken h.lines part given part is (short_begun h (omega (arith, zero)) ∙ none) zero (omega (arith, h.line_is)))
    (c.handle_line.ensures.ok h.lines part output (short_took h (omega (arith, zero))) c.requires.line c.without_cr.ensures)

pub returns-then-after-beyond-clause-err : goal.returns-then-after-beyond-clause-err
returns-then-after-beyond-clause-err g c more given output h =
    let part = c.args.part.now in
    let p = g.T.LineHandler.promises (g.T.LineHandler.job c.args.self.now.handler) in
    let zero = c.if-self-eq0.true in
    let is : given ++ part ≡ lines_text h.lines ++ part = more_text h part ∙ ap (λ (z : List ℕ). lines_text h.lines ++ (z ++ part)) (no_part h zero) in
    line_stops h.lines part given part is (λ (z : List ℕ). IfFault c.handle_line.result (p.Stops z (output ++ c.handle_line.new.page))) more
    (c.handle_line.ensures.err h.lines part more output (short_took h (omega (arith, zero))) c.requires.line c.without_cr.ensures (omega (arith, h.line_is)))

pub returns-in_err-keep-clause-said : goal.returns-in_err-keep-clause-said
returns-in_err-keep-clause-said g c given output h =
    let p = err_from_is_err_and c.from_residual.result c.from_residual.ensures.1 in
    rw p.1 (c.in_err-keep.ensures.said given output h)

pub overflow_add-self-2 : goal.overflow_add-self-2
overflow_add-self-2 g c =
    let (given, output, h, short) = c.requires.stands in
    omega (arith, c.keep.ensures.line, few_lines h, short)

pub give_kept-requires-clause-took : goal.give_kept-requires-clause-took
give_kept-requires-clause-took g c =
    let (given, output, h, short) = c.requires.stands in
    let whole = c.in_ok-keep.ensures.ok given output h in
    (whole.lines, output, short_took whole (omega (arith, c.most.ensures.value, c.if-self-most.true)), omega (arith, few_lines whole, short, length-append given c.args.part.now))

pub give_kept-requires-clause-line : goal.give_kept-requires-clause-line
give_kept-requires-clause-line g c =
    let (given, output, h, short) = c.requires.stands in
    let whole = c.in_ok-keep.ensures.ok given output h in
    subst IsLine (sym (short_begun whole (omega (arith, c.most.ensures.value, c.if-self-most.true)))) whole.is_line

pub returns-in_err-give_kept-clause-err : goal.returns-in_err-give_kept-clause-err
returns-in_err-give_kept-clause-err g c more given output h =
    let p = g.T.LineHandler.promises (g.T.LineHandler.job c.keep.new.self.handler) in
    let text = output ++ c.give_kept.new.page in
    let e = c.in_err-give_kept.field-0.0 in
    let whole = c.in_ok-keep.ensures.ok given output h in
    let took = short_took whole (omega (arith, c.most.ensures.value, c.if-self-most.true)) in
    let begun = short_begun whole (omega (arith, c.most.ensures.value, c.if-self-most.true)) in
    let r = err_from_is_err_and c.from_residual-in_err-give_kept.result c.from_residual-in_err-give_kept.ensures.1 in
    let kept = subst (λ (z : List ℕ). IsOfEngine e × p.Stops (lines_text whole.lines ++ (z ++ 10 ∷ more)) text e) begun
    (c.in_err-give_kept.ensures.err whole.lines more output took (omega (arith, whole.line_is))) in
    let stops = line_stops whole.lines whole.part given c.args.part.now whole.given_is (λ (z : List ℕ). IsOfEngine e × p.Stops z text e) more kept in
    rw (r.1, r.2) (rw c.keep.ensures.job at stops)

pub returns-in_err-give_kept-clause-said : goal.returns-in_err-give_kept-clause-said
returns-in_err-give_kept-clause-said g c given output h =
    let whole = c.in_ok-keep.ensures.ok given output h in
    let took = short_took whole (omega (arith, c.most.ensures.value, c.if-self-most.true)) in
    let r = err_from_is_err_and c.from_residual-in_err-give_kept.result c.from_residual-in_err-give_kept.ensures.1 in
    rw r.1 (c.in_err-give_kept.ensures.said whole.lines output took)

pub returns-clause-ok : goal.returns-clause-ok
returns-clause-ok g c given output h =
    let part = c.args.part.now in
    let whole = c.in_ok-keep.ensures.ok given output h in
    elim c.if-self-most.branch [
      | then-self-most+in_ok-give_kept w ↦
          let took = short_took whole (omega (arith, c.most.ensures.value, w.if-self-most.true)) in
          let begun = short_begun whole (omega (arith, c.most.ensures.value, w.if-self-most.true)) in
          rw (w.self-is, w.page-is)
          (line_taken whole.lines whole.part given part whole.given_is c.clear.ensures.items refl (omega (arith, whole.line_is))
          (subst (λ (z : List ℕ). g.T.LineHandler.took w.give_kept.new.handler (whole.lines ++ z ∷ []) (output ++ w.give_kept.new.page)) begun (w.in_ok-give_kept.ensures.ok whole.lines output took)))
      | else-self-most w ↦
          rw (w.self-is, w.page-is)
          (line_taken whole.lines whole.part given part whole.given_is c.clear.ensures.items refl (omega (arith, whole.line_is)) (whole_took whole (omega (arith, c.most.ensures.value, w.if-self-most.false))))
    ]
