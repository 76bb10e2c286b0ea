use Rattle.std.proofs.Common.{◌≡◌, ◌++◌, refl, sym, ap, subst, ◌∙◌, arith}
use Rattle.std.proofs.Math.Logic.{∥∥₁_map, ∥∥₁_prop}
use Rattle.etcs_bits.specs.Bits.{bits}
use Rattle.etcs_rows.specs.Frames.{way_of}
use Rattle.etcs_sequence.proofs.PacketLemmas.{event_held, more_held}
use Rattle.etcs_sequence.proofs.Leaps.{ways_alike}
use Rattle.etcs_sequence.proofs.LeapLemmas.{same_row, row_goes, run_taken, run_viable, run_goes}
use Rattle.etcs_sequence.specs.declared.packets.PacketsRest.{PacketsRest, held-type}
use Rattle.etcs_sequence.proofs.packets.PacketsRest.leap_entries.Goals as goal

pub take_entries-requires-clause-goes : goal.take_entries-requires-clause-goes
take_entries-requires-clause-goes g c =
    let s = c.args.self.now.left in
    let row = c.in-Row.row in
    row_goes s.carrier s.room s.stage c.args.nid c.args.dir row (same_row s.stage c.in-Row.field-0 c.in-Row.field-1 c.args.nid c.args.dir row c.in-Row.is c.requires.row) c.requires.goes

pub returns-in-Err-clause-viable : goal.returns-in-Err-clause-viable
returns-in-Err-clause-viable g c =
    let s = c.args.self.now.left in
    let row = c.in-Row.row in
    let stage = same_row s.stage c.in-Row.field-0 c.in-Row.field-1 c.args.nid c.args.dir row c.in-Row.is c.requires.row in
    let b = c.in-Err.ensures.begun in
    run_viable s.carrier s.room s.stage c.args.nid c.args.dir row b.left b.bits b.run.run stage c.requires.goes b.goes b.run.follows.read (bits c.args.piece.now) c.args.at b.count b.some b.run.spelling

pub finish-requires : goal.finish-requires
finish-requires g c =
    let s = c.args.self.now.left in
    let stage = same_row s.stage c.in-Row.field-0 c.in-Row.field-1 c.args.nid c.args.dir c.in-Row.row c.in-Row.is c.requires.row in
    let t = c.in-Ok.ensures.taken in
    let e = c.pass_to-event in
    let by = run_taken s.carrier s.stage e.new.self.stage t.run.run t.numbers e.result (g.S.PacketSink.holds c.args.self.now.store) (g.S.PacketSink.holds c.take_entries.new.store) t.run.numbers_are t.held (e.ensures.here c.in-Row.row t.run.run stage t.run.follows) in
    ∥∥₁_map c.args.self.now.held (λ old. let w = old (rw stage refl) in event_held g.S.PacketSink.WAY c.args.self.now.way (by w.0 w.1))

pub invariant_of-self-in-Ok-finish : goal.invariant_of-self-in-Ok-finish
invariant_of-self-in-Ok-finish g c =
    let s = c.args.self.now.left in
    let stage = same_row s.stage c.in-Row.field-0 c.in-Row.field-1 c.args.nid c.args.dir c.in-Row.row c.in-Row.is c.requires.row in
    let t = c.in-Ok.ensures.taken in
    let e = c.pass_to-event in
    let by = run_taken s.carrier s.stage e.new.self.stage t.run.run t.numbers e.result (g.S.PacketSink.holds c.args.self.now.store) (g.S.PacketSink.holds c.take_entries.new.store) t.run.numbers_are t.held (e.ensures.here c.in-Row.row t.run.run stage t.run.follows) in
    let same = (e.ensures.moved c.in-Row.row t.run.run stage t.run.follows).same in
    record { way = ap way_of same ∙ c.args.self.now.way; held = ∥∥₁_map c.args.self.now.held (λ old closed. let w = old (rw stage refl) in (w.0 ++ t.run.run, more_held g.S.PacketSink.WAY c.args.self.now.way (g.S.PacketSink.holds c.finish.new.store) e.new.self.carrier same c.in-Ok-finish.ensures.ok (by w.0 w.1))) }

pub invariant_of-self-in-Err-finish-clause-way : goal.invariant_of-self-in-Err-finish-clause-way
invariant_of-self-in-Err-finish-clause-way g c =
    let s = c.args.self.now.left in
    let row = c.in-Row.row in
    let t = c.in-Ok.ensures.taken in
    let moved = c.pass_to-event.ensures.moved row t.run.run (same_row s.stage c.in-Row.field-0 c.in-Row.field-1 c.args.nid c.args.dir row c.in-Row.is c.requires.row) t.run.follows in
    ap way_of (c.close-in-Err-finish.ensures.carrier ∙ moved.same) ∙ c.args.self.now.way

pub returns-clause-some : goal.returns-clause-some
returns-clause-some g c =
    let s = c.args.self.now.left in
    let stage = same_row s.stage c.in-Row.field-0 c.in-Row.field-1 c.args.nid c.args.dir c.in-Row.row c.in-Row.is c.requires.row in
    let t = c.in-Ok.ensures.taken in
    let e = c.pass_to-event in
    let by = run_taken s.carrier s.stage e.new.self.stage t.run.run t.numbers e.result (g.S.PacketSink.holds c.args.self.now.store) (g.S.PacketSink.holds c.take_entries.new.store) t.run.numbers_are t.held (e.ensures.here c.in-Row.row t.run.run stage t.run.follows) in
    let moved = e.ensures.moved c.in-Row.row t.run.run stage t.run.follows in
    record {
      some = omega (arith, c.if-taken-eq0.false);
      inside = t.run.inside;
      goes = run_goes s.carrier s.room s.stage c.args.nid c.args.dir c.in-Row.row c.in-Ok.value.1.place c.in-Ok.value.1.len t.run.run stage c.requires.goes t.goes t.run.follows.read _ moved.residual;
      whole = t.run.run;
      follows = (moved, λ q h. more_held g.S.PacketSink.WAY c.args.self.now.way (g.S.PacketSink.holds c.finish.new.store) e.new.self.carrier moved.same c.in-Ok-finish.ensures.ok (by q h));
      bits = t.run.spelling;
    }

pub returns-in-Err-finish-clause-viable : goal.returns-in-Err-finish-clause-viable
returns-in-Err-finish-clause-viable g c =
    let s = c.args.self.now.left in
    let row = c.in-Row.row in
    let stage = same_row s.stage c.in-Row.field-0 c.in-Row.field-1 c.args.nid c.args.dir row c.in-Row.is c.requires.row in
    let t = c.in-Ok.ensures.taken in
    run_viable s.carrier s.room s.stage c.args.nid c.args.dir row c.in-Ok.value.1.place c.in-Ok.value.1.len t.run.run stage c.requires.goes t.goes t.run.follows.read (bits c.args.piece.now) c.args.at c.in-Ok.value.0 (omega (arith, c.if-taken-eq0.false)) t.run.spelling

pub invariant_of-self-then-taken-eq0 : goal.invariant_of-self-then-taken-eq0
invariant_of-self-then-taken-eq0 g c =
    let e = c.in-Ok.ensures.none c.if-taken-eq0.true in
    record { way = c.args.self.now.way; held = rw e c.args.self.now.held }

pub returns-then-taken-eq0-clause-none : goal.returns-then-taken-eq0-clause-none
returns-then-taken-eq0-clause-none g c =
    let r = c.args.self.now in
    let e = c.in-Ok.ensures.none c.if-taken-eq0.true in
    λ none. subst (λ (store : g.row.S.Denot). (w : way_of r.left.carrier ≡ g.S.PacketSink.WAY) (h : held-type g.row.S.Denot g.S.PacketSink r.left store r.tried w) → ◌≡◌ {A = PacketsRest g.row.S.Denot g.S.PacketSink} (record { left = r.left; store = store; tried = r.tried; way = w; held = h }) r) (sym e) (λ w h i. record { left = r.left; store = r.store; tried = r.tried; way = ways_alike (way_of r.left.carrier) g.S.PacketSink.WAY w r.way i; held = ∥∥₁_prop h r.held i }) _ _
