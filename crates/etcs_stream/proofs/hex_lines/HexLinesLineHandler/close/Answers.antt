use Rattle.etcs_stream.specs.laws.StandLaws.{hex_short}
use Rattle.etcs_stream.proofs.Saying.{says_first_if, says_same}
use Rattle.etcs_stream.proofs.hex_lines.HexLinesLineHandler.close.Goals as goal

pub finish-requires : goal.finish-requires
finish-requires c = record { waits = c.requires.took.2.waits; reported = c.requires.took.2.items.few }

pub returns-clause-ok : goal.returns-clause-ok
returns-clause-ok c lines last output h l long =
    let i = c.args.self.now.items in
    absurd (hex_short i.job i.reader i.printer lines last output h long)

pub returns-clause-err : goal.returns-clause-err
returns-clause-err c lines last output h l long =
    let i = c.args.self.now.items in
    absurd (hex_short i.job i.reader i.printer lines last output h long)

pub returns-clause-said : goal.returns-clause-said
returns-clause-said c lines output h =
    let i = c.args.self.now.items in
    let text = c.args.page.now in
    says_first_if i.job.command i.printer i.printer h.items.items output text _ c.finish.result c.requires.empty h.items.text (says_same _ i.job.command i.printer text _ c.finish.result c.finish.ensures.err)
