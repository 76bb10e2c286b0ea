use Rattle.std.proofs.Common.{◌≡◌, [], ◌-◌, ap, ◌∙◌, length}
use Rattle.std.proofs.Math.Logic.{∥∥₁_map}
use Rattle.etcs_messages.specs.Lefts.{after_data}
use Rattle.etcs_messages.proofs.RestSteps.{data_goes}
use Rattle.etcs_messages.proofs.RestHolds.{state, data_follows, data_room, fits_after}
use Rattle.etcs_messages.proofs.rest.MessageRest.keep.Goals as goal

pub bits-requires : goal.bits-requires
bits-requires g c =
    let i = c.self.inside in
    ∥∥₁_map c.self.invariant (data_room i.phase c.args.left (length c.args.slice.now) (g.S.PacketSink.holds i.packets.store) (rw (← c.self.view_is) at c.requires.phase) c.requires.within)

pub invariant_of-self-2 : goal.invariant_of-self-2
invariant_of-self-2 g c =
    let i = c.self.inside in
    let holds = g.S.PacketSink.holds in
    let to : c.after_bits-self-inside.result ≡ after_data (c.args.left - length c.args.slice.now) = c.after_bits-self-inside.ensures ∙ ap (λ n. after_data (c.args.left - n)) c.len.ensures in
    ∥∥₁_map c.self.invariant (fits_after i.phase c.after_bits-self-inside.result c.args.left (holds i.packets.store) (holds c.bits.new.self) c.args.slice.now (rw (← c.self.view_is) at c.requires.phase) to c.requires.within (λ vs k h. c.in_ok-bits.ensures.ok vs [] k h))

pub returns : goal.returns
returns g c =
    let i = c.self.inside in
    let v = c.self.view_is in
    let s = state g.H.Packet.AnyPacket.WAY i.nid i.phase i.front.items i.packets.left i.padding i.packets.store i.stands in
    let n = length c.args.slice.now in
    let to : c.after_bits-self-inside.result ≡ after_data (c.args.left - n) = c.after_bits-self-inside.ensures ∙ ap (λ n. after_data (c.args.left - n)) c.len.ensures in
    record {
      ok = rw (← v) (data_follows g.S.PacketSink.holds s _ _ _ c.args.left c.args.slice.now (rw (← v) at c.requires.phase) to c.requires.within (λ vs k h. c.in_ok-bits.ensures.ok vs [] k h));
      goes = rw to (data_goes g.H.Packet.AnyPacket.WAY i.nid (c.args.left - n) i.packets.left);
      err = tt;
    }
