use Rattle.std.proofs.Common.{sym}
use Rattle.etcs_vars.proofs.KeptBytes.{byte_bits}
use Rattle.etcs_vars.proofs.kept.of_byte.Goals as goal

pub returns : goal.returns
returns c = sym (byte_bits c.args.var c.args.byte)
