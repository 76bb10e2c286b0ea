use Rattle.std.proofs.Common.{◌≡◌, ◌++◌, ◌-◌, refl, sym, ap, subst, ◌∙◌, arith}
use Rattle.std.specs.Prelude.{IsTrue}
use Rattle.std.proofs.Math.Logic.{∥∥₁_map, ∥∥₁_prop}
use Rattle.etcs_bits.specs.Bits.{part, bits}
use Rattle.etcs_bits.proofs.Lists.{length-part}
use Rattle.etcs_bits.proofs.Positions.{length-bits}
use Rattle.etcs_packets.specs.PacketReadings.{reading_to}
use Rattle.etcs_packets.specs.laws.PacketReadings.{bits_are}
use Rattle.etcs_rows.specs.Frames.{way_of}
use Rattle.etcs_sequence.proofs.Carried.{after_whole}
use Rattle.etcs_rows.specs.Frames.{may_be_left}
use Rattle.etcs_sequence.proofs.Fits.{run_some}
use Rattle.etcs_sequence.specs.AtOnce.{WholeAt}
use Rattle.etcs_sequence.proofs.Leaps.{ways_alike}
use Rattle.etcs_sequence.proofs.LeapLemmas.{leapt_held, packet_viable}
use Rattle.etcs_sequence.specs.declared.packets.PacketsRest.{PacketsRest, held-type}
use Rattle.etcs_sequence.proofs.packets.PacketsRest.leap_packet.Goals as goal

pub overflow_mul-count : goal.overflow_mul-count
overflow_mul-count g c = omega (arith, c.requires.small, length-bits c.args.piece.now)

pub overflow_sub-count : goal.overflow_sub-count
overflow_sub-count g c = omega (arith, c.requires.inside, length-bits c.args.piece.now)

pub take_framed-requires-clause-inside : goal.take_framed-requires-clause-inside
take_framed-requires-clause-inside g c = omega (arith, c.requires.inside, length-bits c.args.piece.now)

pub invariant_of-self-2 : goal.invariant_of-self-2
invariant_of-self-2 g c =
    let s = c.args.self.now.left in
    let xs = bits c.args.piece.now in
    let H = g.S.PacketSink.holds c.args.self.now.store in
    let H' = g.S.PacketSink.holds c.take_framed.new.store in
    let w : WholeAt s.carrier H H' xs c.args.at c.in-Some.len = rw c.in-Some.is at c.in-Ok.ensures.whole in
    let held = leapt_held s.carrier c.skip.new.self.carrier H H' xs c.args.at c.in-Some.len s.stage c.skip.new.self.stage w c.requires.stage c.skip.ensures.carrier c.skip.ensures.here in
    record { way = ap way_of c.skip.ensures.carrier ∙ c.args.self.now.way; held = ∥∥₁_map c.args.self.now.held (λ old closed. let h = old (rw c.requires.stage refl) in (h.0 ++ reading_to (way_of s.carrier) w.packet, held h.0 h.1)) }

pub invariant_of-self-in_default : goal.invariant_of-self-in_default
invariant_of-self-in_default g c =
    let e = (rw c.in_default.is at c.in-Ok.ensures.none) refl in
    record { way = c.args.self.now.way; held = rw e c.args.self.now.held }

pub returns-clause-some : goal.returns-clause-some
returns-clause-some g c =
    let s = c.args.self.now.left in
    let xs = bits c.args.piece.now in
    let n = c.in-Some.len in
    let H = g.S.PacketSink.holds c.args.self.now.store in
    let H' = g.S.PacketSink.holds c.take_framed.new.store in
    let within = rw c.in-Some.is at c.in-Ok.ensures.within in
    let left : IsTrue (may_be_left s.carrier (s.room - n)) = rw c.in-Some.is at c.in-Ok.ensures.left in
    let w : WholeAt s.carrier H H' xs c.args.at n = rw c.in-Some.is at c.in-Ok.ensures.whole in
    let moved = c.skip.ensures.moved (reading_to (way_of s.carrier) w.packet) (after_whole s.carrier s.room H H' xs c.args.at n w within.1, bits_are (way_of s.carrier) w.packet ∙ w.long) in
    let held = leapt_held s.carrier c.skip.new.self.carrier H H' xs c.args.at n s.stage c.skip.new.self.stage w c.requires.stage c.skip.ensures.carrier c.skip.ensures.here in
    let small = s.small in
    let some = run_some s.carrier (s.room - n) (omega (arith, small)) left in
    record {
      some = within.0;
      inside = omega (arith, within.2, c.requires.inside, length-bits c.args.piece.now);
      goes = (some.0, (c.skip.ensures.room some.0).1 some.1);
      whole = reading_to (way_of s.carrier) w.packet;
      follows = (moved, held);
      bits = w.bits;
    }

pub returns-in_default-clause-none : goal.returns-in_default-clause-none
returns-in_default-clause-none g c =
    let r = c.args.self.now in
    let e = (rw c.in_default.is at c.in-Ok.ensures.none) refl in
    λ none. subst (λ (store : g.row.S.Denot). (w : way_of r.left.carrier ≡ g.S.PacketSink.WAY) (h : held-type g.row.S.Denot g.S.PacketSink r.left store r.tried w) → ◌≡◌ {A = PacketsRest g.row.S.Denot g.S.PacketSink} (record { left = r.left; store = store; tried = r.tried; way = w; held = h }) r) (sym e) (λ w h i. record { left = r.left; store = r.store; tried = r.tried; way = ways_alike (way_of r.left.carrier) g.S.PacketSink.WAY w r.way i; held = ∥∥₁_prop h r.held i }) _ _

pub returns-in-Err-clause-viable : goal.returns-in-Err-clause-viable
returns-in-Err-clause-viable g c =
    let s = c.args.self.now.left in
    let xs = bits c.args.piece.now in
    let v = c.in-Err.ensures.viable in
    rw c.requires.stage (packet_viable s.carrier s.room v.0 (part c.args.at 1 xs) (length-part c.args.at 1 xs (omega (arith, c.requires.inside))) v.1 v.2 s.small v.3)
