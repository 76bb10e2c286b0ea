use Rattle.etcs_messages.proofs.RestHolds.{number_follows}
use Rattle.etcs_messages.proofs.rest.MessageRest.pass_number.Goals as goal

pub returns : goal.returns
returns g c = let v = c.self.view_is in rw (← v) (number_follows _ _ c.args.number _ (rw (← v) at c.requires.phase) (rw (← v) at c.requires.goes))
