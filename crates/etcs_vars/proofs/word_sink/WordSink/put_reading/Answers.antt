use Rattle.etcs_vars.specs.Reading.{spelled}
use Rattle.etcs_vars.specs.WordSinks.{and_bits}
use Rattle.etcs_vars.specs.laws.WordSinks.{spelled_both}
use Rattle.etcs_vars.proofs.Sends.{sent_rest}
use Rattle.etcs_vars.proofs.word_sink.WordSink.put_reading.Goals as goal

pub returns-then-done-sent : goal.returns-then-done-sent
returns-then-done-sent c = sent_rest (λ s r. and_bits s (spelled r)) spelled_both c.args.self.now c.put_front-done.new.self c.put_rest.new.self c.args.sent.now c.put_front-done.result c.put_front-done.ensures.sent c.put_rest.ensures
