use Rattle.std.proofs.Common.{◌≡◌, [], ap, ◌∙◌, length}
use Rattle.std.proofs.Math.Logic.{∥∥₁_map}
use Rattle.etcs_telegram.specs.Phases.{after_fill}
use Rattle.etcs_telegram.proofs.RestSteps.{fill_goes}
use Rattle.etcs_telegram.proofs.RestHolds.{state, fill_follows, fill_room, fits_after}
use Rattle.etcs_telegram.proofs.rest.TelegramRest.fill.Goals as goal

pub bits-requires : goal.bits-requires
bits-requires g c =
    let i = c.self.inside in
    ∥∥₁_map c.self.invariant (fill_room i.phase c.args.left (length c.args.slice.now) (g.S.PacketSink.holds i.packets.store) (rw (← c.self.view_is) at c.requires.phase) c.requires.within)

pub invariant_of-self-2 : goal.invariant_of-self-2
invariant_of-self-2 g c =
    let i = c.self.inside in
    let holds = g.S.PacketSink.holds in
    let to : c.after_fill-self-inside.result ≡ after_fill i.size c.args.left (length c.args.slice.now) = c.after_fill-self-inside.ensures ∙ ap (after_fill i.size c.args.left) c.len.ensures in
    ∥∥₁_map c.self.invariant (fits_after i.size i.phase c.after_fill-self-inside.result c.args.left (holds i.packets.store) (holds c.bits.new.self) c.args.slice.now (rw (← c.self.view_is) at c.requires.phase) to c.requires.within (λ vs k h. c.in_ok-bits.ensures.ok vs [] k h))

pub returns : goal.returns
returns g c =
    let i = c.self.inside in
    let v = c.self.view_is in
    let s = state i.size i.phase i.header.items i.packets.left i.packets.store i.stands in
    let n = length c.args.slice.now in
    let to : c.after_fill-self-inside.result ≡ after_fill i.size c.args.left n = c.after_fill-self-inside.ensures ∙ ap (after_fill i.size c.args.left) c.len.ensures in
    record {
      ok = rw (← v) (fill_follows g.S.PacketSink.holds s _ _ _ c.args.left c.args.slice.now (rw (← v) at c.requires.phase) to c.requires.within (λ vs k h. c.in_ok-bits.ensures.ok vs [] k h));
      goes = rw to (fill_goes i.size c.args.left n i.packets.left c.requires.within);
      err = tt;
    }
