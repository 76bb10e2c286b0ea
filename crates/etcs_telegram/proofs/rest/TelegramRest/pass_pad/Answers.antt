use Rattle.etcs_telegram.proofs.RestHolds.{pad_follows}
use Rattle.etcs_telegram.proofs.rest.TelegramRest.pass_pad.Goals as goal

pub returns : goal.returns
returns g c = let v = c.self.view_is in rw (← v) (pad_follows _ _ _ _ c.args.left (rw (← v) at c.requires.phase) c.beyond_pad-self-inside.ensures)
