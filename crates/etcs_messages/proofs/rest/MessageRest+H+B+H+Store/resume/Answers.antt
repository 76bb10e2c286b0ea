use Rattle.std.proofs.Common.{◌≡◌, ◌-◌, Some}
use Rattle.etcs_rows.specs.declared.frames.Carrier.TheVariants.{Message}
use Rattle.etcs_sequence.proofs.Leaps.{leaps_on}
use Rattle.etcs_messages.specs.declared.phase.Phase.TheVariants.{Packets}
use Rattle.etcs_messages.proofs.RestStands.{packets_parts, packets_stands}
use Rattle.etcs_messages.proofs.RestSteps.{packets_all}
use Rattle.etcs_messages.proofs.RestHolds.{state, packets_follow}
use Rattle.etcs_messages.proofs.rest.MessageRest+H+B+H+Store.resume.Goals as goal

pub resume-requires-clause-run : goal.resume-requires-clause-run
resume-requires-clause-run g c =
    let v = c.self.view_is in
    let carrier : c.self.inside.packets.left.carrier ≡ Message g.H.Packet.AnyPacket.WAY = rw (← v) at (packets_parts c.args.self.now c.requires.phase).0 in
    let (xs, at, run) = c.requires.run in
    ∣ (xs, (at, rw carrier (rw (← v) at run))) ∣₁

pub invariant_of-self-inside : goal.invariant_of-self-inside
invariant_of-self-inside g c =
    let i = c.self.inside in
    let v = c.self.view_is in
    let s = state g.H.Packet.AnyPacket.WAY i.nid i.phase i.front.items i.packets.left i.padding i.packets.store i.stands in
    let carrier : i.packets.left.carrier ≡ Message g.H.Packet.AnyPacket.WAY = rw (← v) at (packets_parts c.args.self.now c.requires.phase).0 in
    let (xs, at, run) = c.requires.run in
    let leap = c.resume.ensures xs at (rw carrier (rw (← v) at run)) in
    (packets_stands s c.after_packets-self-inside.result c.resume.new.self.left leap.whole (rw (← v) at c.requires.phase) c.after_packets-self-inside.ensures leap.follows.0, (c.self.inside.way_is, tt))

pub returns : goal.returns
returns g c =
    let i = c.self.inside in
    let v = c.self.view_is in
    let s = state g.H.Packet.AnyPacket.WAY i.nid i.phase i.front.items i.packets.left i.padding i.packets.store i.stands in
    let l' = c.resume.new.self.left in
    let e = c.after_packets-self-inside.ensures in
    let holds = g.H.Store.PacketSink.holds in
    let phase : i.phase ≡ Packets = rw (← v) at c.requires.phase in
    let carrier : i.packets.left.carrier ≡ Message g.H.Packet.AnyPacket.WAY = rw (← v) at (packets_parts c.args.self.now c.requires.phase).0 in
    λ xs at run. rw (← v)
    (leaps_on i.packets.left l' (holds i.packets.store) (holds c.resume.new.self.store) xs at (Some (i.packets.left.room - c.args.left)) (λ goes. rw e (packets_all g.H.Packet.AnyPacket.WAY i.nid l' goes))
    (λ p goes steps. packets_follow holds s _ _ _ _ p phase e goes steps) (c.resume.ensures xs at (rw carrier (rw (← v) at run))))
