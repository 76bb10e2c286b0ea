use Rattle.etcs_log.proofs.Answering.{held_telegram}
use Rattle.etcs_log.proofs.lines.Answers.hold.Goals as goal

pub returns-in-Ok-clause-ok : goal.returns-in-Ok-clause-ok
returns-in-Ok-clause-ok c = held_telegram c.in-Telegram.telegram c.args.entry c.args.self.now.seen.groups c.add.new.self c.in-Telegram.is c.in-Ok.ensures.adds
