use Rattle.etcs_messages.proofs.RestHolds.{phase_is}
use Rattle.etcs_messages.proofs.Exact.{number_exact, length_next, length_exact, front_exact, packets_next, packets_exact, padding_exact, data_exact}
use Rattle.etcs_messages.proofs.here.MessageRestExpects.here.Goals as goal

pub returns-in-Number-clause-exactly : goal.returns-in-Number-clause-exactly
returns-in-Number-clause-exactly g c x next goes = number_exact c.args.self.now x next (phase_is c.self.view_is c.in-Number.is)

pub returns-in-Length-clause-at : goal.returns-in-Length-clause-at
returns-in-Length-clause-at g c x next = length_next c.args.self.now x next (phase_is c.self.view_is c.in-Length.is)

pub returns-in-Length-clause-exactly : goal.returns-in-Length-clause-exactly
returns-in-Length-clause-exactly g c x next goes =
    let all = length_exact c.args.self.now x next (phase_is c.self.view_is c.in-Length.is) in
    rw (c.WAY.ensures, ← c.self.view_is) (rw (← c.self.view_is) at all)

pub returns-in-Front-clause-exactly : goal.returns-in-Front-clause-exactly
returns-in-Front-clause-exactly g c x next goes = front_exact c.args.self.now x next c.in-Front.field-0 (phase_is c.self.view_is c.in-Front.is) goes

pub returns-in-Packets-clause-at : goal.returns-in-Packets-clause-at
returns-in-Packets-clause-at g c x next =
    let first = packets_next c.args.self.now x next (phase_is c.self.view_is c.in-Packets.is) in
    c.here.ensures.at x (rw (← c.self.view_is) at first)

pub returns-in-Packets-clause-exactly : goal.returns-in-Packets-clause-exactly
returns-in-Packets-clause-exactly g c x next goes =
    let s = c.args.self.now in
    let phase = phase_is c.self.view_is c.in-Packets.is in
    let first = packets_next s x next phase in
    packets_exact s x next phase c.here.result goes (rw (← c.self.view_is) (c.here.ensures.exactly x (rw (← c.self.view_is) at first)))

pub returns-in-Padding-clause-exactly : goal.returns-in-Padding-clause-exactly
returns-in-Padding-clause-exactly g c x next goes = padding_exact c.args.self.now x next c.in-Padding.field-0 (phase_is c.self.view_is c.in-Padding.is)

pub returns-in-Data-clause-exactly : goal.returns-in-Data-clause-exactly
returns-in-Data-clause-exactly g c x next goes = data_exact c.args.self.now x next c.in-Data.field-0 (phase_is c.self.view_is c.in-Data.is)

pub returns-in-Whole-clause-exactly : goal.returns-in-Whole-clause-exactly
returns-in-Whole-clause-exactly g c x next goes = absurd (let e = rw (phase_is c.self.view_is c.in-Whole.is) at next in cc)
