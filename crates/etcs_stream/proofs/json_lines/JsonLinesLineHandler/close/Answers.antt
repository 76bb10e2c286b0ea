use Rattle.etcs_stream.specs.laws.StandLaws.{json_short}
use Rattle.etcs_stream.proofs.Saying.{says_first_if, says_same}
use Rattle.etcs_stream.proofs.json_lines.JsonLinesLineHandler.close.Goals as goal

pub returns-clause-ok : goal.returns-clause-ok
returns-clause-ok c lines last output h l long =
    let s = c.args.self.now in
    absurd (json_short s.job s.printer lines last output h long)

pub returns-clause-err : goal.returns-clause-err
returns-clause-err c lines last output h l long =
    let s = c.args.self.now in
    absurd (json_short s.job s.printer lines last output h long)

pub returns-clause-said : goal.returns-clause-said
returns-clause-said c lines output h =
    let s = c.args.self.now in
    let text = c.args.page.now in
    says_first_if s.job.command s.printer s.printer h.items output text _ c.end.result c.requires.empty h.text (says_same _ s.job.command s.printer text _ c.end.result c.end.ensures.err)
