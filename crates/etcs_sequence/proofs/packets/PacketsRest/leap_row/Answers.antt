use Rattle.std.proofs.Common.{◌++◌, refl, sym, ap, ◌∙◌}
use Rattle.std.proofs.Math.Logic.{∥∥₁_map}
use Rattle.etcs_bits.specs.Bits.{bits}
use Rattle.etcs_rows.specs.Frames.{way_of}
use Rattle.etcs_sequence.proofs.PacketLemmas.{event_held, more_held}
use Rattle.etcs_sequence.proofs.LeapLemmas.{same_row, run_taken, run_viable, run_goes}
use Rattle.etcs_sequence.proofs.packets.PacketsRest.leap_row.Goals as goal

pub returns-in-Err-clause-viable : goal.returns-in-Err-clause-viable
returns-in-Err-clause-viable g c =
    let s = c.args.self.now.left in
    let row = c.in-Row.row in
    let stage = same_row s.stage c.in-Row.field-0 c.in-Row.field-1 c.args.nid c.args.dir row c.in-Row.is c.requires.row in
    let run = c.in-Some.ensures.run in
    run_viable s.carrier s.room s.stage c.args.nid c.args.dir row c.in-Some.run'.rest.place c.in-Some.run'.rest.len run.run stage c.requires.goes c.in-Some.ensures.goes run.follows.read (bits c.args.piece.now) c.args.at c.in-Some.run'.bits c.in-Some.ensures.some run.spelling

pub finish-requires : goal.finish-requires
finish-requires g c =
    let s = c.args.self.now.left in
    let stage = same_row s.stage c.in-Row.field-0 c.in-Row.field-1 c.args.nid c.args.dir c.in-Row.row c.in-Row.is c.requires.row in
    let run = c.in-Some.ensures.run in
    let e = c.pass_to-event in
    let by = run_taken s.carrier s.stage e.new.self.stage run.run c.as_slice.result.now e.result (g.S.PacketSink.holds c.args.self.now.store) (g.S.PacketSink.holds c.absorb_numbers.new.store) (run.numbers_are ∙ sym c.as_slice.ensures.value) c.in-Ok.ensures.ok (e.ensures.here c.in-Row.row run.run stage run.follows) in
    ∥∥₁_map c.args.self.now.held (λ old. let w = old (rw stage refl) in event_held g.S.PacketSink.WAY c.args.self.now.way (by w.0 w.1))

pub invariant_of-self-2 : goal.invariant_of-self-2
invariant_of-self-2 g c =
    let s = c.args.self.now.left in
    let stage = same_row s.stage c.in-Row.field-0 c.in-Row.field-1 c.args.nid c.args.dir c.in-Row.row c.in-Row.is c.requires.row in
    let run = c.in-Some.ensures.run in
    let e = c.pass_to-event in
    let by = run_taken s.carrier s.stage e.new.self.stage run.run c.as_slice.result.now e.result (g.S.PacketSink.holds c.args.self.now.store) (g.S.PacketSink.holds c.absorb_numbers.new.store) (run.numbers_are ∙ sym c.as_slice.ensures.value) c.in-Ok.ensures.ok (e.ensures.here c.in-Row.row run.run stage run.follows) in
    let same = (e.ensures.moved c.in-Row.row run.run stage run.follows).same in
    record { way = ap way_of same ∙ c.args.self.now.way; held = ∥∥₁_map c.args.self.now.held (λ old closed. let w = old (rw stage refl) in (w.0 ++ run.run, more_held g.S.PacketSink.WAY c.args.self.now.way (g.S.PacketSink.holds c.finish.new.store) e.new.self.carrier same c.in-Ok-finish.ensures.ok (by w.0 w.1))) }

pub invariant_of-self-in-Err-finish-clause-way : goal.invariant_of-self-in-Err-finish-clause-way
invariant_of-self-in-Err-finish-clause-way g c =
    let s = c.args.self.now.left in
    let row = c.in-Row.row in
    let run = c.in-Some.ensures.run in
    let moved = c.pass_to-event.ensures.moved row run.run (same_row s.stage c.in-Row.field-0 c.in-Row.field-1 c.args.nid c.args.dir row c.in-Row.is c.requires.row) run.follows in
    ap way_of (c.close-in-Err-finish.ensures.carrier ∙ moved.same) ∙ c.args.self.now.way

pub returns-clause-some : goal.returns-clause-some
returns-clause-some g c =
    let s = c.args.self.now.left in
    let stage = same_row s.stage c.in-Row.field-0 c.in-Row.field-1 c.args.nid c.args.dir c.in-Row.row c.in-Row.is c.requires.row in
    let run = c.in-Some.ensures.run in
    let e = c.pass_to-event in
    let by = run_taken s.carrier s.stage e.new.self.stage run.run c.as_slice.result.now e.result (g.S.PacketSink.holds c.args.self.now.store) (g.S.PacketSink.holds c.absorb_numbers.new.store) (run.numbers_are ∙ sym c.as_slice.ensures.value) c.in-Ok.ensures.ok (e.ensures.here c.in-Row.row run.run stage run.follows) in
    let moved = e.ensures.moved c.in-Row.row run.run stage run.follows in
    record {
      some = c.in-Some.ensures.some;
      inside = run.inside;
      goes = run_goes s.carrier s.room s.stage c.args.nid c.args.dir c.in-Row.row c.in-Some.run'.rest.place c.in-Some.run'.rest.len run.run stage c.requires.goes c.in-Some.ensures.goes run.follows.read _ moved.residual;
      whole = run.run;
      follows = (moved, λ q h. more_held g.S.PacketSink.WAY c.args.self.now.way (g.S.PacketSink.holds c.finish.new.store) e.new.self.carrier moved.same c.in-Ok-finish.ensures.ok (by q h));
      bits = run.spelling;
    }

pub returns-in-Err-finish-clause-viable : goal.returns-in-Err-finish-clause-viable
returns-in-Err-finish-clause-viable g c =
    let s = c.args.self.now.left in
    let row = c.in-Row.row in
    let stage = same_row s.stage c.in-Row.field-0 c.in-Row.field-1 c.args.nid c.args.dir row c.in-Row.is c.requires.row in
    let run = c.in-Some.ensures.run in
    run_viable s.carrier s.room s.stage c.args.nid c.args.dir row c.in-Some.run'.rest.place c.in-Some.run'.rest.len run.run stage c.requires.goes c.in-Some.ensures.goes run.follows.read (bits c.args.piece.now) c.args.at c.in-Some.run'.bits c.in-Some.ensures.some run.spelling
