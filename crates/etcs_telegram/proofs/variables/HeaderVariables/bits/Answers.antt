use Rattle.std.proofs.Common.{sym}
use Rattle.etcs_telegram.proofs.HeaderLemmas.{header_length}
use Rattle.etcs_telegram.proofs.variables.HeaderVariables.bits.Goals as goal

pub returns-clause-bits : goal.returns-clause-bits
returns-clause-bits c = sym (header_length c.args.self.now)
