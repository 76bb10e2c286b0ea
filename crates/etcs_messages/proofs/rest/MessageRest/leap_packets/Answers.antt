use Rattle.std.proofs.Common.{◌≡◌, false, ap, ◌∙◌, sym}
use Rattle.etcs_sequence.specs.Lefts.{is_closed}
use Rattle.etcs_sequence.specs.declared.packets.PacketsRest.{PacketsRest}
use Rattle.etcs_messages.specs.Lefts.{after_packets}
use Rattle.etcs_messages.proofs.RestStands.{packets_parts, packets_stands}
use Rattle.etcs_bits.specs.Bits.{bits, part}
use Rattle.etcs_sequence.proofs.Leaps.{on_err, steps, leaps_on}
use Rattle.etcs_messages.specs.declared.phase.Phase.TheVariants.{Packets}
use Rattle.etcs_messages.proofs.RestSteps.{packets_all, packets_viable}
use Rattle.etcs_messages.proofs.RestHolds.{state, same_state, packets_follow}
use Rattle.etcs_messages.proofs.rest.MessageRest.leap_packets.Goals as goal

pub invariant_of-self-inside-2 : goal.invariant_of-self-inside-2
invariant_of-self-inside-2 g c =
    let i = c.self.inside in
    let l' = c.leap.new.self.left in
    let holds = g.S.PacketSink.holds in
    let s = state g.H.Packet.AnyPacket.WAY i.nid i.phase i.front.items i.packets.left i.padding i.packets.store i.stands in
    let by = steps i.packets.left l' (holds i.packets.store) (holds c.leap.new.self.store) (bits c.args.piece.now) c.args.at c.in_ok-leapt.leapt (λ none. let same = c.in_ok-leapt.ensures.none none in (ap (λ (p : PacketsRest _ _). p.left) same, ap (λ (p : PacketsRest _ _). holds p.store) same)) c.in_ok-leapt.ensures.some in
    (packets_stands s c.after_packets-self-inside.result l' by.0 (rw (← c.self.view_is) at c.requires.phase) c.after_packets-self-inside.ensures by.1.0, (c.self.inside.way_is, tt))

pub returns-clause-some : goal.returns-clause-some
returns-clause-some g c =
    let i = c.self.inside in
    let v = c.self.view_is in
    let s = state g.H.Packet.AnyPacket.WAY i.nid i.phase i.front.items i.packets.left i.padding i.packets.store i.stands in
    let l' = c.leap.new.self.left in
    let e = c.after_packets-self-inside.ensures in
    let holds = g.S.PacketSink.holds in
    let phase : i.phase ≡ Packets = rw (← v) at c.requires.phase in
    rw (← v)
    (leaps_on i.packets.left l' (holds i.packets.store) (holds c.leap.new.self.store) (bits c.args.piece.now) c.args.at c.in_ok-leapt.leapt (λ goes. rw e (packets_all g.H.Packet.AnyPacket.WAY i.nid l' goes))
    (λ p goes steps. packets_follow holds s _ _ _ _ p phase e goes steps) c.in_ok-leapt.ensures.some)

pub returns-clause-none : goal.returns-clause-none
returns-clause-none g c =
    let i = c.self.inside in
    let v = c.self.view_is in
    let phase : i.phase ≡ Packets = rw (← v) at c.requires.phase in
    let is_open : is_closed i.packets.left.stage ≡ false = rw (← v) at (packets_parts c.args.self.now c.requires.phase).1 in
    λ none.
    let e : c.leap.new.self ≡ i.packets = c.in_ok-leapt.ensures.none none in
    let f : c.after_packets-self-inside.result ≡ i.phase = c.after_packets-self-inside.ensures ∙ ap (λ (p : PacketsRest _ _). after_packets p.left) e ∙ rw is_open (sym phase) in
    rw (← v) (same_state g.H.Packet.AnyPacket.WAY i.nid i.front.items i.padding _ _ _ _ _ _ _ _ f (ap (λ (p : PacketsRest _ _). p.left) e) (ap (λ (p : PacketsRest _ _). p.store) e))

pub returns-in_err-leapt-clause-viable : goal.returns-in_err-leapt-clause-viable
returns-in_err-leapt-clause-viable g c =
    let i = c.self.inside in
    let v = c.self.view_is in
    let phase : i.phase ≡ Packets = rw (← v) at c.requires.phase in
    on_err c.from_residual.result (rw (← v) (rw phase (packets_viable g.H.Packet.AnyPacket.WAY i.nid i.packets.left (part c.args.at 1 (bits c.args.piece.now)) c.in_err-leapt.ensures.viable)))
