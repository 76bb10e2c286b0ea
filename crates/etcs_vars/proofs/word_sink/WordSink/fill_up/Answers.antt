use Rattle.std.proofs.Common.{arith}
use Rattle.etcs_vars.proofs.WordSinks.{none_put}
use Rattle.etcs_vars.proofs.word_sink.WordSink.fill_up.Goals as goal

pub returns-else-width-gt0 : goal.returns-else-width-gt0
returns-else-width-gt0 c = none_put c.args.self.now _ c.args.number (omega (arith, c.len.ensures, c.if-width-gt0.false))
