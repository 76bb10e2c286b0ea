use Rattle.etcs_telegram.proofs.RestSteps.{var_header}
use Rattle.etcs_telegram.proofs.RestHolds.{phase_is}
use Rattle.etcs_telegram.proofs.rest.TelegramRestRest.var.Goals as goal

pub returns-in-Header : goal.returns-in-Header
returns-in-Header g c = rw c.header_var.ensures (var_header c.args.self.now c.in-Header.at (phase_is c.self.view_is c.in-Header.is))
