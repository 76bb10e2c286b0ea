use Rattle.std.proofs.Common.{◌≡◌, ℕ, List, [], ◌∷◌, ◌++◌, replicate, sym, ap, subst, ◌∙◌, arith, append_assoc}
use Rattle.std.proofs.lemmas.List.Elements.{All-nil}
use Rattle.std.proofs.lemmas.Result.{err_from_is_err_and}
use Rattle.etcs_runs.specs.Faults.{IsOfEngine}
use Rattle.etcs_runs.specs.Lines.{lines_text}
use Rattle.etcs_runs.proofs.LineTexts.{kept_front}
use Rattle.etcs_runs.proofs.Keeping.{memory_stops, none_taken, one_taken}
use Rattle.etcs_runs.proofs.cutter.give_kept.Goals as goal

pub returns-in_err-extend_from_slice-clause-err : goal.returns-in_err-extend_from_slice-clause-err
returns-in_err-extend_from_slice-clause-err g c lines more output h at =
    let handler = c.args.handler.now in
    let p = g.T.LineHandler.promises (g.T.LineHandler.job handler) in
    let text = output ++ c.args.page.now in
    let r = err_from_is_err_and c.from_residual.result c.from_residual.ensures.1 in
    rw (r.1, r.2)
    (tt, memory_stops p (g.met.T.LineHandler.sound handler) lines (c.args.kept.now.items ++ 10 ∷ more) text (g.met.T.LineHandler.took_outputs handler lines [] text h (All-nil (λ c. c ≡ 10 → ⊥))))

pub returns-in_err-lines-clause-err : goal.returns-in_err-lines-clause-err
returns-in_err-lines-clause-err g c lines more output h at =
    let p = g.T.LineHandler.promises (g.T.LineHandler.job c.args.handler.now) in
    let raw = c.args.kept.now.items in
    let text = output ++ c.handle_lines.new.page in
    let e = c.in_err-lines.field-0.0 in
    let kept : c.extend_from_slice.new.self.items ≡ raw ++ 10 ∷ replicate 64 10 = c.in_ok-extend_from_slice.ensures.items in
    let front = kept_front raw (replicate 64 10) c.as_slice.result.now c.len-count.result (c.as_slice.ensures.value ∙ kept) (omega (arith, c.len-count.ensures)) in
    let stops = subst (λ (z : List ℕ). IsOfEngine e × p.Stops (lines_text lines ++ z) text e) (ap (λ (z : List ℕ). z ++ more) front ∙ append_assoc raw (10 ∷ []) more) (c.in_err-lines.ensures.err lines more output h) in
    let r = err_from_is_err_and c.from_residual-in_err-lines.result c.from_residual-in_err-lines.ensures.1 in
    rw (r.1, r.2) stops

pub returns-then-lines-gt0-clause-ok : goal.returns-then-lines-gt0-clause-ok
returns-then-lines-gt0-clause-ok g c lines output h =
    let raw = c.args.kept.now.items in
    let t = c.in_ok-lines.ensures.ok in
    let kept : c.extend_from_slice.new.self.items ≡ raw ++ 10 ∷ replicate 64 10 = c.in_ok-extend_from_slice.ensures.items in
    let one = one_taken raw (replicate 64 10) t.beyond t.taken c.requires.line t.are_lines (sym (c.as_slice.ensures.value ∙ kept) ∙ t.rest_is) (omega (arith, t.bytes_is, t.within, c.len-count.ensures)) (omega (arith, t.count_is, c.if-lines-gt0.true)) in
    subst (λ (z : List (List ℕ)). g.T.LineHandler.took c.handle_lines.new.self (lines ++ z) (output ++ c.handle_lines.new.page)) one (t.took lines output h)

pub handle_line-requires : goal.handle_line-requires
handle_line-requires g c =
    let (lines, output, h, few) = c.requires.took in
    let t = c.in_ok-lines.ensures.ok in
    let text = output ++ c.handle_lines.new.page in
    record { took = (lines, text, none_taken (g.T.LineHandler.took c.handle_lines.new.self) lines t.taken text (omega (arith, t.count_is, c.if-lines-gt0.false)) (t.took lines output h), few) }
