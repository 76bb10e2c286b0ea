use Rattle.std.proofs.Common.{[], sym}
use Rattle.etcs_vars.specs.declared.var.Var.TheVariants.{NID_PACKET}
use Rattle.etcs_vars.proofs.Sent.{length-sent}
use Rattle.etcs_sequence.proofs.run.closing_bits.Goals as goal

pub returns-in-Telegram : goal.returns-in-Telegram
returns-in-Telegram c = rw c.in-Telegram.is (sym (length-sent NID_PACKET 255 []))
