use Rattle.std.proofs.Common.{◌++◌, length}
use Rattle.std.proofs.lemmas.Result.{err_from_is_err_and}
use Rattle.etcs_runs.specs.Lines.{lines_text}
use Rattle.etcs_stream.specs.Stands.{HexStands}
use Rattle.etcs_runs.proofs.Keeping.{none_output}
use Rattle.etcs_stream.proofs.HexSteps.{hex_last_stops, hex_finish_ends, hex_finish_stops}
use Rattle.etcs_stream.proofs.HexTakes.{kept_after}
use Rattle.etcs_stream.proofs.Saying.{says_first, says_first_if, says_same, says_then_if}
use Rattle.etcs_stream.proofs.hex_lines.HexLinesLineHandler.handle_last.Goals as goal

pub handle-requires-clause-waits : goal.handle-requires-clause-waits
handle-requires-clause-waits c = c.requires.took.2.waits

pub handle-requires-clause-reported : goal.handle-requires-clause-reported
handle-requires-clause-reported c = c.requires.took.2.items.few

pub returns-in_err-handle-clause-err : goal.returns-in_err-handle-clause-err
returns-in_err-handle-clause-err c lines output h l m =
    let i = c.args.self.now.items in
    let line = c.args.line.now in
    let given = lines_text lines ++ line in
    let h' = none_output (HexStands i.job i.reader i.printer line (length lines) given) output c.args.page.now c.requires.empty (kept_after i.job i.reader i.printer lines line output h l) in
    let p = err_from_is_err_and c.from_residual.result c.from_residual.ensures.1 in
    rw (p.1, p.2)
    (hex_last_stops i.job i.reader i.printer line (length lines) given output c.args.page.now h' c.handle.new.page c.in_err-handle.field-0.0 (rw m at c.in_err-handle.ensures.err))

pub returns-clause-ok : goal.returns-clause-ok
returns-clause-ok c lines output h l =
    let i = c.args.self.now.items in
    let i' = c.handle.new.self.items in
    let line = c.args.line.now in
    let given = lines_text lines ++ line in
    let h' = none_output (HexStands i.job i.reader i.printer line (length lines) given) output c.args.page.now c.requires.empty (kept_after i.job i.reader i.printer lines line output h l) in
    let e = c.in_ok-handle.ensures in
    let f = c.finish.ensures in
    hex_finish_ends i.job i.reader i.printer line (length lines) given output c.args.page.now h' i'.reader i'.printer c.handle.new.page e.good e.waits e.reported e.room e.ok c.finish.new.page c.finish.result f.whole (rw e.job at f.ok)

pub returns-clause-err : goal.returns-clause-err
returns-clause-err c lines output h l m =
    let i = c.args.self.now.items in
    let i' = c.handle.new.self.items in
    let line = c.args.line.now in
    let given = lines_text lines ++ line in
    let h' = none_output (HexStands i.job i.reader i.printer line (length lines) given) output c.args.page.now c.requires.empty (kept_after i.job i.reader i.printer lines line output h l) in
    let e = c.in_ok-handle.ensures in
    hex_finish_stops i.job i.reader i.printer line (length lines) given output c.args.page.now h' i'.reader i'.printer c.handle.new.page e.good e.waits e.reported e.room e.ok c.finish.new.page c.finish.result c.finish.ensures.err

pub returns-in_err-handle-clause-said : goal.returns-in_err-handle-clause-said
returns-in_err-handle-clause-said c lines output h =
    let i = c.args.self.now.items in
    let p = err_from_is_err_and c.from_residual.result c.from_residual.ensures.1 in
    rw (p.1, c.handle.ensures.job) (says_first i.job.command i.printer c.handle.new.self.items.printer h.items.items output c.args.page.now _ c.requires.empty h.items.text c.in_err-handle.ensures.said)

pub returns-clause-said : goal.returns-clause-said
returns-clause-said c lines output h =
    let i = c.args.self.now.items in
    let i' = c.handle.new.self.items in
    let command = i.job.command in
    let took = c.in_ok-handle.ensures.ok in
    let text = c.args.page.now in
    let said = says_same _ command i'.printer c.handle.new.page c.finish.new.page c.finish.result c.finish.ensures.err in
    rw c.handle.ensures.job (says_first_if command i.printer i'.printer h.items.items output text _ c.finish.result c.requires.empty h.items.text
    (says_then_if command i.printer i'.printer i'.printer took.reported text took.added _ _ took.added_is took.text_is c.finish.result said))
