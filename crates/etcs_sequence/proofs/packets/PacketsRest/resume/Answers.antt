use Rattle.std.proofs.Common.{◌≡◌, ◌-◌, ap, ◌∙◌, arith}
use Rattle.std.proofs.Math.Bridge.{le_prop}
use Rattle.std.proofs.Math.Logic.{∥∥₁_elim, ∥∥₁_map}
use Rattle.etcs_rows.specs.Frames.{way_of}
use Rattle.etcs_sequence.proofs.Fits.{run_some}
use Rattle.etcs_sequence.proofs.Resuming.{variables, run_long, run_inside, run_after, run_held, run_follows}
use Rattle.etcs_sequence.proofs.packets.PacketsRest.resume.Goals as goal

pub overflow_sub-taken : goal.overflow_sub-taken
overflow_sub-taken g c = ∥∥₁_elim c.requires.run le_prop (λ (xs, (at, (run, some, may))). omega (arith, some))

pub invariant_of-self : goal.invariant_of-self
invariant_of-self g c =
    let s = c.args.self.now.left in
    let H = g.S.PacketSink.holds c.args.store in
    record {
      way = ap way_of c.skip.ensures.carrier ∙ c.args.self.now.way;
      held = ∥∥₁_map c.requires.run (λ (xs, (at, (run, some, may))) closed. (variables s.carrier s.room H xs at c.args.left run, run_held s.carrier s.room H xs at c.args.left run c.skip.new.self.carrier c.skip.new.self.stage c.skip.ensures.carrier c.skip.ensures.here));
    }

pub returns : goal.returns
returns g c xs at (run, some, may) =
    let s = c.args.self.now.left in
    let t = c.skip.new.self in
    let left = c.args.left in
    let H = g.S.PacketSink.holds c.args.self.now.store in
    let H' = g.S.PacketSink.holds c.args.store in
    let moved = c.skip.ensures.moved (variables s.carrier s.room H' xs at left run) (run_after s.carrier s.room H' xs at left run, run_long s.carrier s.room H' xs at left run) in
    let held = run_follows s.carrier s.room H' xs at left run H s.stage t.stage t.carrier c.requires.stage c.requires.none c.skip.ensures.carrier c.skip.ensures.here in
    let small = s.small in
    let same : s.room - (s.room - left) ≡ left = omega (arith, some) in
    let more = run_some s.carrier (s.room - (s.room - left)) (omega (arith, small)) (rw same may) in
    record {
      some = omega (arith, some);
      inside = run_inside s.carrier s.room H' xs at left run some;
      goes = (more.0, (c.skip.ensures.room more.0).1 more.1);
      whole = variables s.carrier s.room H' xs at left run;
      follows = (moved, held);
      bits = run.bits;
    }
