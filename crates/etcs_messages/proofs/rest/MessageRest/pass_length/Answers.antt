use Rattle.std.proofs.Common.{◌≡◌, ◌-◌, ◌*◌, length, ap, subst, ◌∙◌, arith}
use Rattle.std.proofs.Math.Logic.{∥∥₁_map}
use Rattle.etcs_vars.proofs.Languages.{Same}
use Rattle.etcs_rows.specs.declared.frames.Carrier.TheVariants.{Message}
use Rattle.etcs_sequence.specs.Contents.{PacketsIn}
use Rattle.etcs_sequence.specs.Lefts.{left_of, ahead}
use Rattle.etcs_messages.specs.declared.phase.Phase.TheVariants as phase
use Rattle.etcs_messages.specs.Lefts.{front_row, front_bits, some_row, DataFits}
use Rattle.etcs_messages.proofs.Fronts.{front_short, front_there, no_front}
use Rattle.etcs_messages.proofs.RestStands.{begin_parts, begun_message, begun_stands}
use Rattle.etcs_messages.proofs.RestHolds.{state, typed_follows, kept_follows, begun_fits}
use Rattle.etcs_messages.proofs.rest.MessageRest.pass_length.Goals as goal

pub invariant_of-self-inside : goal.invariant_of-self-inside
invariant_of-self-inside g c =
    let i = c.self.inside in
    let l' = c.start.new.self.left in
    let s = state g.H.Packet.AnyPacket.WAY i.nid i.phase i.front.items i.packets.left i.padding i.packets.store i.stands in
    let (vs, found, wide) = front_there front_bits (front_row g.H.Packet.AnyPacket.WAY i.nid) c.in-Some.front (rw c.WAY-way.ensures at c.in-Some.ensures) in
    let room = c.args.number * 8 - c.in-Some.front in
    (begun_stands g.H.Packet.AnyPacket.WAY i.nid (length i.front.items) vs l' (ap some_row found) (front_short g.H.Packet.AnyPacket.WAY i.nid vs found).0 (begin_parts s (rw (← c.self.view_is) at c.requires.phase)).0 (begun_message g.H.Packet.AnyPacket.WAY l' room (rw c.WAY-way.ensures at c.start.ensures.carrier) c.start.ensures.ahead (rw c.WAY-way.ensures at c.start.ensures.left)), (c.self.inside.way_is, tt))

pub invariant_of-self-in-None : goal.invariant_of-self-in-None
invariant_of-self-in-None g c =
    let i = c.self.inside in
    let v = c.self.view_is in
    let s = state g.H.Packet.AnyPacket.WAY i.nid i.phase i.front.items i.packets.left i.padding i.packets.store i.stands in
    let holds = g.S.PacketSink.holds i.packets.store in
    let found = no_front front_bits (front_row g.H.Packet.AnyPacket.WAY i.nid) (rw c.WAY-way.ensures at c.in-None.ensures) in
    let bits : 8 * c.args.number - 18 ≡ c.args.number * 8 - 18 = omega arith in
    ∥∥₁_map c.self.invariant (λ h. subst (λ n. DataFits (phase.Data n) holds) bits (begun_fits s holds c.args.number (rw (← v) at c.requires.phase) found (rw (← v) at c.requires.goes) h))

pub returns-in-None : goal.returns-in-None
returns-in-None g c =
    let i = c.self.inside in
    let v = c.self.view_is in
    let found = no_front front_bits (front_row g.H.Packet.AnyPacket.WAY i.nid) (rw c.WAY-way.ensures at c.in-None.ensures) in
    rw (← v) (kept_follows _ _ c.args.number _ _ (rw (← v) at c.requires.phase) found (rw (← v) at c.requires.goes) (omega arith))

pub returns-in-Some : goal.returns-in-Some
returns-in-Some g c =
    let i = c.self.inside in
    let v = c.self.view_is in
    let l' = c.start.new.self.left in
    let len = c.args.number in
    let (vs, found, wide) = front_there front_bits (front_row g.H.Packet.AnyPacket.WAY i.nid) c.in-Some.front (rw c.WAY-way.ensures at c.in-Some.ensures) in
    let room : len * 8 - c.in-Some.front ≡ 8 * len - front_bits vs = omega (arith, wide) in
    let bits : ahead l'.carrier l'.room l'.stage ≡ 8 * len - front_bits vs = subst (λ n. ahead l'.carrier l'.room l'.stage ≡ n) room c.start.ensures.ahead in
    let left : Same (left_of l'.carrier l'.room l'.stage) (PacketsIn (Message g.H.Packet.AnyPacket.WAY) (8 * len - front_bits vs)) = subst (λ n. Same (left_of l'.carrier l'.room l'.stage) (PacketsIn (Message g.H.Packet.AnyPacket.WAY) n)) room (rw c.WAY-way.ensures at c.start.ensures.left) in
    rw (← v) (typed_follows _ _ _ _ _ len vs (rw (← v) at c.requires.phase) found (rw (← v) at c.requires.goes) bits left c.start.ensures.held)

pub start-requires-clause-way : goal.start-requires-clause-way
start-requires-clause-way g c = c.WAY-way.ensures ∙ c.self.inside.way_is
