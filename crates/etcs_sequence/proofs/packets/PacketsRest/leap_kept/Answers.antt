use Rattle.std.proofs.Common.{◌++◌, length, refl, sym, ap, ◌∙◌, arith}
use Rattle.std.proofs.Math.Logic.{∥∥₁_map}
use Rattle.etcs_bits.specs.Bits.{bits, part}
use Rattle.etcs_bits.proofs.Lists.{length-part}
use Rattle.etcs_vars.specs.declared.var.Var.TheVariants.{OTHER_DATA}
use Rattle.etcs_vars.specs.Reading.{kept}
use Rattle.etcs_rows.specs.Frames.{way_of}
use Rattle.etcs_sequence.proofs.Wholes.{spelled_kept}
use Rattle.etcs_sequence.proofs.PacketLemmas.{taken, event_held, more_held}
use Rattle.etcs_sequence.proofs.LeapLemmas.{kept_some, kept_fits, kept_viable, kept_goes}
use Rattle.etcs_sequence.proofs.packets.PacketsRest.leap_kept.Goals as goal

pub bits-requires : goal.bits-requires
bits-requires g c =
    let s = c.args.self.now.left in
    let t = c.run_at-run.result in
    ∥∥₁_map c.args.self.now.held (λ old. let (q, (vs, f, k, h, held, all, here, eq)) = old (rw c.requires.stage refl) in (vs, (f, (k, (held, kept_fits s.carrier s.stage c.args.nid c.args.dir c.args.left (length t) f k h c.requires.stage c.run_at-run.ensures.within here)))))

pub returns-in-Err-clause-viable : goal.returns-in-Err-clause-viable
returns-in-Err-clause-viable g c =
    let s = c.args.self.now.left in
    let xs = bits c.args.piece.now in
    let one = length-part c.args.at 1 xs (omega (arith, c.requires.inside)) in
    let some = kept_some s.carrier s.room s.stage c.args.nid c.args.dir c.args.left c.requires.stage s.stands in
    kept_viable s.carrier s.room s.stage c.args.nid c.args.dir c.args.left c.requires.stage c.requires.goes (part c.args.at 1 xs) (omega (arith, one, some))

pub pass_bits-event-requires-clause-some : goal.pass_bits-event-requires-clause-some
pass_bits-event-requires-clause-some g c =
    let s = c.args.self.now.left in
    let some = c.run_at-run.ensures.some (kept_some s.carrier s.room s.stage c.args.nid c.args.dir c.args.left c.requires.stage s.stands) in
    omega (arith, some, c.len-count.ensures)

pub finish-requires : goal.finish-requires
finish-requires g c =
    let s = c.args.self.now.left in
    let t = c.run_at-run.result in
    let e = c.pass_bits-event in
    let size = sym c.len-count.ensures in
    let by = taken s.carrier s.stage e.new.self.stage (λ f. f) (λ k. k ++ t) (kept OTHER_DATA t) e.result (g.S.PacketSink.holds c.args.self.now.store) (g.S.PacketSink.holds c.bits.new.self) c.in-Ok.ensures.ok (e.ensures.here t size) in
    ∥∥₁_map c.args.self.now.held (λ old. let w = old (rw c.requires.stage refl) in event_held g.S.PacketSink.WAY c.args.self.now.way (by w.0 w.1))

pub invariant_of-self-in-Ok-finish : goal.invariant_of-self-in-Ok-finish
invariant_of-self-in-Ok-finish g c =
    let s = c.args.self.now.left in
    let t = c.run_at-run.result in
    let e = c.pass_bits-event in
    let size = sym c.len-count.ensures in
    let by = taken s.carrier s.stage e.new.self.stage (λ f. f) (λ k. k ++ t) (kept OTHER_DATA t) e.result (g.S.PacketSink.holds c.args.self.now.store) (g.S.PacketSink.holds c.bits.new.self) c.in-Ok.ensures.ok (e.ensures.here t size) in
    let same = (e.ensures.moved t size).same in
    record { way = ap way_of same ∙ c.args.self.now.way; held = ∥∥₁_map c.args.self.now.held (λ old closed. let w = old (rw c.requires.stage refl) in (w.0 ++ kept OTHER_DATA t, more_held g.S.PacketSink.WAY c.args.self.now.way (g.S.PacketSink.holds c.finish.new.store) e.new.self.carrier same c.in-Ok-finish.ensures.ok (by w.0 w.1))) }

pub invariant_of-self-in-Err-finish-clause-way : goal.invariant_of-self-in-Err-finish-clause-way
invariant_of-self-in-Err-finish-clause-way g c = ap way_of (c.close-in-Err-finish.ensures.carrier ∙ (c.pass_bits-event.ensures.moved c.run_at-run.result (sym c.len-count.ensures)).same) ∙ c.args.self.now.way

pub returns-clause-some : goal.returns-clause-some
returns-clause-some g c =
    let s = c.args.self.now.left in
    let t = c.run_at-run.result in
    let e = c.pass_bits-event in
    let size = sym c.len-count.ensures in
    let by = taken s.carrier s.stage e.new.self.stage (λ f. f) (λ k. k ++ t) (kept OTHER_DATA t) e.result (g.S.PacketSink.holds c.args.self.now.store) (g.S.PacketSink.holds c.bits.new.self) c.in-Ok.ensures.ok (e.ensures.here t size) in
    let moved = e.ensures.moved t size in
    let some = kept_some s.carrier s.room s.stage c.args.nid c.args.dir c.args.left c.requires.stage s.stands in
    record {
      some = omega (arith, c.run_at-run.ensures.some some, c.len-count.ensures);
      inside = omega (arith, c.run_at-run.ensures.inside, c.len-count.ensures);
      goes = kept_goes s.carrier s.room s.stage c.args.nid c.args.dir c.args.left c.requires.stage c.requires.goes t _ c.run_at-run.ensures.within moved.residual;
      whole = kept OTHER_DATA t;
      follows = (moved, λ q h. more_held g.S.PacketSink.WAY c.args.self.now.way (g.S.PacketSink.holds c.finish.new.store) e.new.self.carrier moved.same c.in-Ok-finish.ensures.ok (by q h));
      bits = spelled_kept t ∙ c.run_at-run.ensures.bits ∙ ap (λ n. part c.args.at n (bits c.args.piece.now)) size;
    }

pub returns-in-Err-finish-clause-viable : goal.returns-in-Err-finish-clause-viable
returns-in-Err-finish-clause-viable g c =
    let s = c.args.self.now.left in
    let xs = bits c.args.piece.now in
    let one = length-part c.args.at 1 xs (omega (arith, c.requires.inside)) in
    let some = kept_some s.carrier s.room s.stage c.args.nid c.args.dir c.args.left c.requires.stage s.stands in
    kept_viable s.carrier s.room s.stage c.args.nid c.args.dir c.args.left c.requires.stage c.requires.goes (part c.args.at 1 xs) (omega (arith, one, some))
