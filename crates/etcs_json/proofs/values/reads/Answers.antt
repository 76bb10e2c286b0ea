use Rattle.etcs_json.proofs.values.reads.Goals as goal

pub returns-in-Telegram : goal.returns-in-Telegram
returns-in-Telegram c = rw c.in-Telegram.is (_, c.reads.ensures)

pub returns-in-Message : goal.returns-in-Message
returns-in-Message c = rw c.in-Message.is (_, c.reads-in-Message.ensures)

pub returns-in-Train : goal.returns-in-Train
returns-in-Train c = rw c.in-Train.is (_, c.reads-in-Train.ensures)
