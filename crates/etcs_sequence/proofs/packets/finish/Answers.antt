use Rattle.std.proofs.Common.{sym, subst}
use Rattle.std.proofs.Math.Logic.{∥∥₁_elim, ∥∥₁_map}
use Rattle.std.proofs.lemmas.Result.{on_ok_weaker}
use Rattle.etcs_sequence.specs.declared.stage.Event.{Event}
use Rattle.etcs_sequence.specs.Lefts.{Finishes}
use Rattle.etcs_sequence.proofs.PacketLemmas.{true_prop, finish_marker, finish_typed, finish_kept, marker_admitted, typed_held, kept_held}
use Rattle.etcs_sequence.proofs.packets.finish.Goals as goal

pub typed-requires : goal.typed-requires
typed-requires g c = ∥∥₁_map c.requires (λ (d, s, vs, f, k, h, to, held, after). (vs, (f, typed_held g.S.PacketSink.WAY (g.S.PacketSink.holds c.args.store.now) d s vs f k h c.in-Typed.nid c.in-Typed.dir to held (rw c.in-Typed.is at after))))

pub kept-requires : goal.kept-requires
kept-requires g c = ∥∥₁_map c.requires (λ (d, s, vs, f, k, h, to, held, after). (vs, (k, kept_held g.S.PacketSink.WAY (g.S.PacketSink.holds c.args.store.now) d s vs f k h c.in-Kept.nid c.in-Kept.dir to held (rw c.in-Kept.is at after))))

pub returns-in-Marker-clause-ok : goal.returns-in-Marker-clause-ok
returns-in-Marker-clause-ok g c =
    let H = g.S.PacketSink.holds c.args.store.now in
    let H' = g.S.PacketSink.holds c.marker.new.self in
    let admitted = ∥∥₁_elim c.requires (true_prop _) (λ (d, s, vs, f, k, h, to, held, after). marker_admitted g.S.PacketSink.WAY d s f k h c.in-Marker.number to (rw c.in-Marker.is at after)) in
    on_ok_weaker c.marker.result (λ ok. subst (λ (e : Event). Finishes g.S.PacketSink.WAY H H' e) (sym c.in-Marker.is) (finish_marker g.S.PacketSink.WAY H H' c.in-Marker.number (ok admitted))) c.marker.ensures.ok

pub returns-in-Typed-clause-ok : goal.returns-in-Typed-clause-ok
returns-in-Typed-clause-ok g c =
    let H = g.S.PacketSink.holds c.args.store.now in
    let H' = g.S.PacketSink.holds c.typed.new.self in
    on_ok_weaker c.typed.result (λ ok. subst (λ (e : Event). Finishes g.S.PacketSink.WAY H H' e) (sym c.in-Typed.is) (finish_typed g.S.PacketSink.WAY H H' c.in-Typed.nid c.in-Typed.dir ok)) c.typed.ensures.ok

pub returns-in-Kept-clause-ok : goal.returns-in-Kept-clause-ok
returns-in-Kept-clause-ok g c =
    let H = g.S.PacketSink.holds c.args.store.now in
    let H' = g.S.PacketSink.holds c.kept.new.self in
    on_ok_weaker c.kept.result (λ ok. subst (λ (e : Event). Finishes g.S.PacketSink.WAY H H' e) (sym c.in-Kept.is) (finish_kept g.S.PacketSink.WAY H H' c.in-Kept.nid c.in-Kept.dir ok)) c.kept.ensures.ok
