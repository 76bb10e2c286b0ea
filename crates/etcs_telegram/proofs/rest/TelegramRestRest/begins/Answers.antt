use Rattle.std.proofs.Common.{refl}
use Rattle.etcs_telegram.proofs.RestSteps.{begins_header, begins_packets, begins_fill}
use Rattle.etcs_telegram.proofs.RestHolds.{phase_is}
use Rattle.etcs_telegram.proofs.rest.TelegramRestRest.begins.Goals as goal

pub returns-in-Header : goal.returns-in-Header
returns-in-Header g c =
    let phase = phase_is c.self.view_is c.in-Header.is in
    rw (c.begins.ensures, c.ranges-in-Header.ensures) (begins_header c.args.self.now c.args.var c.args.rest c.args.number c.requires.next c.in-Header.field-0 phase c.requires.rest c.requires.fits c.requires.goes)

pub returns-in-Packets : goal.returns-in-Packets
returns-in-Packets g c =
    let two = rw (← c.self.view_is) at (begins_packets c.args.self.now c.args.var c.args.rest c.args.number c.requires.next (phase_is c.self.view_is c.in-Packets.is)) in
    rw (← c.self.view_is) (λ t. two.0 (c.begins-in-Packets.ensures.0 t), λ t. c.begins-in-Packets.ensures.1 (two.1 t))

pub returns-in-Fill : goal.returns-in-Fill
returns-in-Fill g c =
    let phase = phase_is c.self.view_is c.in-Fill.is in
    (λ _. begins_fill c.args.self.now c.args.var c.args.rest c.args.number c.requires.next c.in-Fill.field-0 phase c.requires.rest c.requires.fits, λ _. refl)
