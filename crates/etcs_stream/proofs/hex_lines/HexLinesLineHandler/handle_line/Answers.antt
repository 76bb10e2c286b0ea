use Rattle.etcs_stream.proofs.HexTakes.{took_more, took_stops}
use Rattle.etcs_stream.proofs.Saying.{says_all_if}
use Rattle.etcs_stream.proofs.hex_lines.HexLinesLineHandler.handle_line.Goals as goal

pub handle-requires-clause-waits : goal.handle-requires-clause-waits
handle-requires-clause-waits c = c.requires.took.2.waits

pub handle-requires-clause-reported : goal.handle-requires-clause-reported
handle-requires-clause-reported c = c.requires.took.2.items.few

pub returns-clause-ok : goal.returns-clause-ok
returns-clause-ok c lines raw output h l e =
    let i = c.args.self.now.items in
    let i' = c.handle.new.self.items in
    let k = c.handle.ensures in
    rw k.job (took_more i.job i.reader i.printer lines output c.args.page.now h raw i'.reader i'.printer c.handle.new.page c.args.line.now c.handle.result e k.good k.waits k.reported k.room k.ok)

pub returns-clause-err : goal.returns-clause-err
returns-clause-err c lines raw more output h l e m =
    let i = c.args.self.now.items in
    took_stops i.job i.reader i.printer lines output c.args.page.now h raw more c.handle.new.page c.args.line.now c.args.number c.handle.result l e m c.handle.ensures.err

pub returns-clause-said : goal.returns-clause-said
returns-clause-said c lines output h =
    let i = c.args.self.now.items in
    let k = c.handle.ensures in
    rw k.job (says_all_if i.job.command i.printer c.handle.new.self.items.printer h.items.items output c.args.page.now _ c.handle.result h.items.text k.said)
