use Rattle.etcs_telegram.proofs.RestHolds.{header_follows}
use Rattle.etcs_telegram.proofs.rest.TelegramRest.pass_header.Goals as goal

pub returns : goal.returns
returns g c =
    let v = c.self.view_is in
    λ x next goes.
    rw (← v) (header_follows _ _ _ _ _ c.args.at x c.args.number (rw (← v) at c.requires.phase) c.after_header-self-inside.ensures c.push.ensures.items (rw (← v) at next) (rw (← v) at goes))
