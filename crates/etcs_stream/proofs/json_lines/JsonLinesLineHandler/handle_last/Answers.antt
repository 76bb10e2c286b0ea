use Rattle.std.proofs.lemmas.Result.{err_from_is_err_and}
use Rattle.etcs_stream.specs.Stands.{JsonTook}
use Rattle.etcs_runs.proofs.Keeping.{none_output}
use Rattle.etcs_stream.proofs.JsonSteps.{line_output, json_last_stops, json_end_ends, json_end_stops}
use Rattle.etcs_stream.proofs.Saying.{says_first, says_first_if, says_same, says_then_if}
use Rattle.etcs_stream.proofs.json_lines.JsonLinesLineHandler.handle_last.Goals as goal

pub returns-in_err-handle-clause-err : goal.returns-in_err-handle-clause-err
returns-in_err-handle-clause-err c lines output h l at =
    let s = c.args.self.now in
    let text = c.args.page.now in
    let h' = none_output (JsonTook s.job s.printer lines) output text c.requires.empty h in
    let p = err_from_is_err_and c.from_residual.result c.from_residual.ensures.1 in
    rw (p.1, p.2)
    (json_last_stops s.job s.printer lines output text h' c.args.line.now c.args.number c.handle.new.page c.in_err-handle.field-0.0 l at c.in_err-handle.ensures.err)

pub returns-clause-ok : goal.returns-clause-ok
returns-clause-ok c lines output h l =
    let s = c.args.self.now in
    let text = c.args.page.now in
    let h' = none_output (JsonTook s.job s.printer lines) output text c.requires.empty h in
    json_end_ends s.job s.printer lines output text h' c.args.line.now c.handle.new.self.printer c.handle.new.page c.end.new.page c.end.result l c.in_ok-handle.ensures.ok (rw c.handle.ensures.job at c.end.ensures.ok)

pub returns-clause-err : goal.returns-clause-err
returns-clause-err c lines output h l at =
    let s = c.args.self.now in
    let text = c.args.page.now in
    let h' = none_output (JsonTook s.job s.printer lines) output text c.requires.empty h in
    json_end_stops s.job s.printer lines output text h' c.args.line.now c.handle.new.self.printer c.handle.new.page c.end.new.page c.end.result l c.in_ok-handle.ensures.ok c.end.ensures.err

pub returns-in_err-handle-clause-said : goal.returns-in_err-handle-clause-said
returns-in_err-handle-clause-said c lines output h =
    let s = c.args.self.now in
    let p = err_from_is_err_and c.from_residual.result c.from_residual.ensures.1 in
    rw (p.1, c.handle.ensures.job) (says_first s.job.command s.printer c.handle.new.self.printer h.items output c.args.page.now _ c.requires.empty h.text c.in_err-handle.ensures.said)

pub returns-clause-said : goal.returns-clause-said
returns-clause-said c lines output h =
    let s = c.args.self.now in
    let n = c.handle.new.self.printer in
    let command = s.job.command in
    let text = c.args.page.now in
    let took = line_output s.job c.args.line.now s.printer n text c.handle.new.page c.in_ok-handle.ensures.ok in
    let said = says_same _ command n c.handle.new.page c.end.new.page c.end.result c.end.ensures.err in
    rw c.handle.ensures.job (says_first_if command s.printer n h.items output text _ c.end.result c.requires.empty h.text
    (says_then_if command s.printer n n took.items text took.added _ _ took.text took.text_is c.end.result said))
