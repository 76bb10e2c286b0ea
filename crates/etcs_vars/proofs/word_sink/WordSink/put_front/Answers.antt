use Rattle.std.proofs.Common.{◌∙◌, ap}
use Rattle.etcs_vars.specs.WordSinks.{and_bits}
use Rattle.etcs_vars.proofs.WordSinks.{joins_some}
use Rattle.etcs_vars.proofs.word_sink.WordSink.put_front.Goals as goal

pub put-requires-clause-some : goal.put-requires-clause-some
put-requires-clause-some c =
    let f = c.joined-front.result in
    joins_some c.args.sent.now f.count f.width f.number c.joined-front.ensures

pub returns-clause-sent : goal.returns-clause-sent
returns-clause-sent c = c.put.ensures ∙ ap (and_bits c.args.self.now) c.joined-front.ensures.bits_are
