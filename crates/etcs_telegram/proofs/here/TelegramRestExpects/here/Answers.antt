use Rattle.etcs_telegram.proofs.RestHolds.{phase_is}
use Rattle.etcs_telegram.proofs.Exact.{header_exact, packets_next, packets_exact, fill_exact, pad_exact}
use Rattle.etcs_telegram.proofs.here.TelegramRestExpects.here.Goals as goal

pub returns-in-Header-clause-exactly : goal.returns-in-Header-clause-exactly
returns-in-Header-clause-exactly g c x next goes = header_exact c.args.self.now x next c.in-Header.field-0 (phase_is c.self.view_is c.in-Header.is) goes

pub returns-in-Packets-clause-at : goal.returns-in-Packets-clause-at
returns-in-Packets-clause-at g c x next =
    let first = packets_next c.args.self.now x next (phase_is c.self.view_is c.in-Packets.is) in
    c.here.ensures.at x (rw (← c.self.view_is) at first)

pub returns-in-Packets-clause-exactly : goal.returns-in-Packets-clause-exactly
returns-in-Packets-clause-exactly g c x next goes =
    let s = c.args.self.now in
    let phase = phase_is c.self.view_is c.in-Packets.is in
    let first = packets_next s x next phase in
    packets_exact s x next phase c.here.result goes (rw (← c.self.view_is) (c.here.ensures.exactly x (rw (← c.self.view_is) at first)))

pub returns-in-Fill-clause-exactly : goal.returns-in-Fill-clause-exactly
returns-in-Fill-clause-exactly g c x next goes = fill_exact c.args.self.now x next c.in-Fill.field-0 (phase_is c.self.view_is c.in-Fill.is)

pub returns-in-Pad-clause-exactly : goal.returns-in-Pad-clause-exactly
returns-in-Pad-clause-exactly g c x next goes = pad_exact c.args.self.now x next c.in-Pad.field-0 (phase_is c.self.view_is c.in-Pad.is)

pub returns-in-Whole-clause-exactly : goal.returns-in-Whole-clause-exactly
returns-in-Whole-clause-exactly g c x next goes = absurd (let e = rw (phase_is c.self.view_is c.in-Whole.is) at next in cc)
