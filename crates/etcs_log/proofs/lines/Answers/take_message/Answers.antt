use Rattle.std.proofs.Common.{◌∙◌, false, refl, sym}
use Rattle.etcs_log.specs.Candidates.{asks_message, message_way}
use Rattle.etcs_log.proofs.Answering.{tried_asked}
use Rattle.etcs_log.proofs.lines.Answers.take_message.Goals as goal

pub returns-clause-ok : goal.returns-clause-ok
returns-clause-ok c =
    let s = c.args.self.now in
    let bytes = c.args.bytes.now in
    let t = c.take_item in
    tried_asked t.result (asks_message s.job.kinds bytes) (message_way s.job.kinds bytes) _ false c.args.run.now.text.now bytes bytes s.job s.line s.seen t.new.self.seen c.args.text.now.items t.new.text.items (sym c.asks_message.ensures ∙ c.if-not-asks_message.false) c.message_way.ensures refl t.ensures.ok
