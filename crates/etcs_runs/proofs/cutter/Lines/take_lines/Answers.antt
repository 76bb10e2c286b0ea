use Rattle.std.proofs.Common.{◌≡◌, ℕ, ◌+◌, ◌-◌, List, [], ◌++◌, length, take, drop, refl, sym, ap, subst, ◌∙◌, arith, length-append}
use Rattle.std.proofs.lemmas.List.{append-nil, take-append-drop}
use Rattle.std.proofs.lemmas.Result.{err_from_is_err_and}
use Rattle.etcs_runs.specs.Faults.{IsOfEngine}
use Rattle.etcs_runs.specs.Lines.{lines_text}
use Rattle.etcs_runs.proofs.LineTexts.{after_taken, lines_few}
use Rattle.etcs_runs.proofs.Keeping.{few_lines, lines_taken, next_text, short_took}
use Rattle.etcs_runs.proofs.cutter.Lines.take_lines.Goals as goal

pub handle_lines-requires-clause-took : goal.handle_lines-requires-clause-took
handle_lines-requires-clause-took g c =
    let (given, output, h, short) = c.requires.stands in
    (h.lines, output ++ c.args.page.now, short_took h (omega (arith, c.if-self-gt0.false)), omega (arith, few_lines h, short))

pub returns-then-self-gt0-clause-ok : goal.returns-then-self-gt0-clause-ok
returns-then-self-gt0-clause-ok g c = ([], refl, λ given output h. rw (append-nil given) h)

pub returns-in_err-count-clause-err : goal.returns-in_err-count-clause-err
returns-in_err-count-clause-err g c given output h =
    let p = g.T.LineHandler.promises (g.T.LineHandler.job c.args.self.now.handler) in
    let piece = c.args.piece.now in
    let whole = length piece - c.args.after in
    let text = output ++ c.handle_lines.new.page in
    let e = c.in_err-count.field-0.0 in
    let zero : c.args.self.now.count ≡ 0 = omega (arith, c.if-self-gt0.false) in
    let r = err_from_is_err_and c.from_residual.result c.from_residual.ensures.1 in
    let all : given ++ piece ≡ lines_text h.lines ++ (take whole piece ++ drop whole piece) =
    next_text h zero piece ∙ ap (λ (z : List ℕ). lines_text h.lines ++ z) (sym (take-append-drop whole piece))
    in
    let stops = subst (λ (z : List ℕ). IsOfEngine e × p.Stops z text e) (sym all) (c.in_err-count.ensures.err h.lines (drop whole piece) output (short_took h (omega (arith, zero)))) in
    rw (r.1, r.2) stops

pub overflow_add-self : goal.overflow_add-self
overflow_add-self g c =
    let (given, output, h, short) = c.requires.stands in
    let t = c.in_ok-count.ensures.ok in
    omega (arith, few_lines h, short, t.count_is, lines_few t.taken, ap length t.rest_is, length-append (lines_text t.taken) t.beyond)

pub returns-clause-ok : goal.returns-clause-ok
returns-clause-ok g c =
    let t = c.in_ok-count.ensures.ok in
    let zero : c.args.self.now.count ≡ 0 = omega (arith, c.if-self-gt0.false) in (
      lines_text t.taken,
      after_taken c.args.piece.now (lines_text t.taken) t.beyond c.in_ok-count.count t.rest_is t.bytes_is,
      λ given output h. lines_taken h t.taken zero (ap (λ (n : ℕ). c.args.self.now.line + n) t.count_is) (t.took h.lines output (short_took h (omega (arith, zero)))),
    )
