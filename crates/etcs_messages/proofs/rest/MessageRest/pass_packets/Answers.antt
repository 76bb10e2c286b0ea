use Rattle.std.proofs.Common.{◌≡◌, [], ◌∷◌}
use Rattle.etcs_sequence.specs.Lefts.{left_of}
use Rattle.etcs_reader.specs.Rests.{Starts}
use Rattle.etcs_sequence.proofs.FilledLaws.{moved_left}
use Rattle.etcs_messages.specs.declared.phase.Phase.TheVariants.{Packets}
use Rattle.etcs_messages.proofs.Begins.{begins_packets}
use Rattle.etcs_messages.proofs.RestStands.{packets_stands}
use Rattle.etcs_messages.proofs.RestHolds.{state, packets_follow}
use Rattle.etcs_messages.proofs.rest.MessageRest.pass_packets.Goals as goal

pub pass-requires-clause-goes : goal.pass-requires-clause-goes
pass-requires-clause-goes g c = rw (← c.self.view_is) at ((begins_packets c.args.self.now c.args.var 0 c.args.number c.requires.next c.requires.phase).1 c.requires.goes)

pub invariant_of-self-inside-2 : goal.invariant_of-self-inside-2
invariant_of-self-inside-2 g c =
    let i = c.self.inside in
    let s = state g.H.Packet.AnyPacket.WAY i.nid i.phase i.front.items i.packets.left i.padding i.packets.store i.stands in
    (packets_stands s c.after_packets-self-inside.result c.pass.new.self.left ((c.args.var, c.args.number) ∷ []) (rw (← c.self.view_is) at c.requires.phase) c.after_packets-self-inside.ensures c.in_ok-pass.ensures.ok.0, (c.self.inside.way_is, tt))

pub returns-clause-ok : goal.returns-clause-ok
returns-clause-ok g c =
    let i = c.self.inside in
    let v = c.self.view_is in
    let s = state g.H.Packet.AnyPacket.WAY i.nid i.phase i.front.items i.packets.left i.padding i.packets.store i.stands in
    let l' = c.pass.new.self.left in
    let phase : i.phase ≡ Packets = rw (← v) at c.requires.phase in
    let goes : Starts (left_of i.packets.left.carrier i.packets.left.room i.packets.left.stage) c.args.var 0 c.args.number = (begins_packets s c.args.var 0 c.args.number (rw (← v) at c.requires.next) phase).1 (rw (← v) at c.requires.goes) in
    let steps = c.in_ok-pass.ensures.ok in
    rw (← v) (packets_follow g.S.PacketSink.holds s _ _ _ _ ((c.args.var, c.args.number) ∷ []) phase c.after_packets-self-inside.ensures (moved_left i.packets.left l' c.args.var c.args.number goes steps.0) steps)
