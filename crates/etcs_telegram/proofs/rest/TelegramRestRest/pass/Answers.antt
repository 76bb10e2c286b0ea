use Rattle.etcs_telegram.proofs.RestSteps.{fill_bit, pad_bit}
use Rattle.etcs_telegram.proofs.RestHolds.{phase_is}
use Rattle.etcs_telegram.proofs.rest.TelegramRestRest.pass.Goals as goal

pub pass_fill-requires-clause-small : goal.pass_fill-requires-clause-small
pass_fill-requires-clause-small g c = (fill_bit c.args.self.now c.args.var c.args.number c.in-Fill.left c.requires.next c.requires.goes (phase_is c.self.view_is c.in-Fill.is)).1

pub returns-in-Pad-clause-ok : goal.returns-in-Pad-clause-ok
returns-in-Pad-clause-ok g c = rw (pad_bit c.args.self.now c.args.var c.args.number c.in-Pad.left c.requires.next c.requires.goes (phase_is c.self.view_is c.in-Pad.is)) c.pass_pad.ensures
