use Rattle.std.proofs.Common.{[], ◌∷◌, ◌++◌, sym, ap, ◌∙◌}
use Rattle.std.proofs.Math.Logic.{∥∥₁_elim, ∥∥₁_map}
use Rattle.etcs_rows.specs.Frames.{way_of}
use Rattle.etcs_sequence.proofs.PacketLemmas.{true_prop, open_next, kept_room, grows_kept, grows_whole, number_taken, event_held, more_held}
use Rattle.etcs_sequence.proofs.packets.PacketsRestRest.pass.Goals as goal

pub absorb-requires : goal.absorb-requires
absorb-requires g c =
    let s = c.args.self.now.left in
    λ bit. ∥∥₁_map c.args.self.now.held (λ held. let (q, (vs, f, k, h, all, carried, here, eq)) = held (open_next s.stage c.args.var c.requires.next) in (vs, (f, (k, (all, kept_room s.carrier s.stage f k h (sym c.keeps-keep.ensures ∙ bit) here)))))

pub returns-in-Err-clause-err : goal.returns-in-Err-clause-err
returns-in-Err-clause-err g c =
    let e = c.in-Err.ensures.err in
    (e.0, grows_kept c.args.self.now.left.stage (λ none. e.1 (c.keeps-keep.ensures ∙ none)))

pub finish-requires : goal.finish-requires
finish-requires g c =
    let s = c.args.self.now.left in
    let by = number_taken s.carrier s.stage c.pass-event.new.self.stage c.args.var c.args.number c.pass-event.result (g.S.PacketSink.holds c.args.self.now.store) (g.S.PacketSink.holds c.absorb.new.store) c.keeps-keep.result c.keeps-keep.ensures c.in-Ok.ensures.ok c.pass-event.ensures.here in
    ∥∥₁_map c.args.self.now.held (λ old. let w = old (open_next s.stage c.args.var c.requires.next) in event_held g.S.PacketSink.WAY c.args.self.now.way (by w.0 w.1))

pub invariant_of-self-in-Ok-finish : goal.invariant_of-self-in-Ok-finish
invariant_of-self-in-Ok-finish g c =
    let s = c.args.self.now.left in
    let same = c.pass-event.ensures.moved.same in
    let by = number_taken s.carrier s.stage c.pass-event.new.self.stage c.args.var c.args.number c.pass-event.result (g.S.PacketSink.holds c.args.self.now.store) (g.S.PacketSink.holds c.absorb.new.store) c.keeps-keep.result c.keeps-keep.ensures c.in-Ok.ensures.ok c.pass-event.ensures.here in
    record { way = ap way_of same ∙ c.args.self.now.way; held = ∥∥₁_map c.args.self.now.held (λ old closed. let w = old (open_next s.stage c.args.var c.requires.next) in (w.0 ++ (c.args.var, c.args.number) ∷ [], more_held g.S.PacketSink.WAY c.args.self.now.way (g.S.PacketSink.holds c.finish.new.store) c.pass-event.new.self.carrier same c.in-Ok-finish.ensures.ok (by w.0 w.1))) }

pub returns-clause-ok : goal.returns-clause-ok
returns-clause-ok g c =
    let s = c.args.self.now.left in
    let moved = c.pass-event.ensures.moved in
    let by = number_taken s.carrier s.stage c.pass-event.new.self.stage c.args.var c.args.number c.pass-event.result (g.S.PacketSink.holds c.args.self.now.store) (g.S.PacketSink.holds c.absorb.new.store) c.keeps-keep.result c.keeps-keep.ensures c.in-Ok.ensures.ok c.pass-event.ensures.here in
    (moved, λ q h. more_held g.S.PacketSink.WAY c.args.self.now.way (g.S.PacketSink.holds c.finish.new.store) c.pass-event.new.self.carrier moved.same c.in-Ok-finish.ensures.ok (by q h))

pub returns-in-Err-finish-clause-err : goal.returns-in-Err-finish-clause-err
returns-in-Err-finish-clause-err g c =
    let s = c.args.self.now.left in
    let e = c.in-Err-finish.ensures.err in
    (e.0, ∥∥₁_elim c.args.self.now.held (true_prop _) (λ held. let (q, (vs, f, k, h, all, carried, here, eq)) = held (open_next s.stage c.args.var c.requires.next) in grows_whole s.carrier s.stage c.pass-event.new.self.stage c.args.var c.args.number c.pass-event.result f k h c.requires.next c.pass-event.ensures.here here e.1))
