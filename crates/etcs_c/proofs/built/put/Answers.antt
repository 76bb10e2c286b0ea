use Rattle.std.proofs.Common.{arith}
use Rattle.etcs_vars.proofs.WordSinks.{none_put}
use Rattle.etcs_c.proofs.built.put.Goals as goal

pub returns-else-field-gt0 : goal.returns-else-field-gt0
returns-else-field-gt0 c = none_put c.args.sink.now c.args.field.now.width c.args.field.now.number (omega (arith, c.if-field-gt0.false))
