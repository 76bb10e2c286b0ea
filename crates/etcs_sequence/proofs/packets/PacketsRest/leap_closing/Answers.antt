use Rattle.std.proofs.Common.{◌≡◌, ℕ, ◌++◌, ◌∷◌, [], refl, ap, subst, ◌∙◌, arith}
use Rattle.std.proofs.Math.Logic.{∥∥₁_map}
use Rattle.etcs_bits.specs.Bits.{num, part, bits}
use Rattle.etcs_bits.proofs.Positions.{length-bits}
use Rattle.etcs_vars.specs.declared.var.Var.TheVariants.{NID_PACKET}
use Rattle.etcs_rows.specs.Frames.{way_of}
use Rattle.etcs_sequence.proofs.LeapLemmas.{closing_goes, closing_held, closing_bits}
use Rattle.etcs_sequence.proofs.packets.PacketsRest.leap_closing.Goals as goal

pub overflow_mul-piece : goal.overflow_mul-piece
overflow_mul-piece g c = omega (arith, c.requires.small, length-bits c.args.piece.now)

pub overflow_sub-piece : goal.overflow_sub-piece
overflow_sub-piece g c = omega (arith, c.requires.inside, length-bits c.args.piece.now)

pub number_at-requires-clause-inside : goal.number_at-requires-clause-inside
number_at-requires-clause-inside g c = omega (arith, c.requires.inside, length-bits c.args.piece.now)

pub pass_number-requires-clause-goes : goal.pass_number-requires-clause-goes
pass_number-requires-clause-goes g c = rw c.from-number.ensures (c.may_close.ensures c.if-not-may_close.false)

pub invariant_of-self : goal.invariant_of-self
invariant_of-self g c =
    let s = c.args.self.now.left in
    let t = c.pass_number.new.self in
    let n = c.from-number.result in
    let H = g.S.PacketSink.holds c.args.self.now.store in
    let held = closing_held s.carrier t.carrier s.stage t.stage n H c.requires.stage c.pass_number.ensures.moved.same c.pass_number.ensures.here in
    record { way = ap way_of c.pass_number.ensures.moved.same ∙ c.args.self.now.way; held = ∥∥₁_map c.args.self.now.held (λ old closed. let h = old (rw c.requires.stage refl) in (h.0 ++ (NID_PACKET, n) ∷ [], held h.0 h.1)) }

pub returns-clause-some : goal.returns-clause-some
returns-clause-some g c =
    let s = c.args.self.now.left in
    let t = c.pass_number.new.self in
    let n = c.from-number.result in
    let xs = bits c.args.piece.now in
    let H = g.S.PacketSink.holds c.args.self.now.store in
    let moved = c.pass_number.ensures.moved in
    let held = closing_held s.carrier t.carrier s.stage t.stage n H c.requires.stage moved.same c.pass_number.ensures.here in
    let is : c.number_at.result ≡ n = omega arith in
    record {
      some = omega arith;
      inside = omega (arith, c.requires.inside, length-bits c.args.piece.now);
      goes = closing_goes s.carrier t.carrier s.room t.room n s.stage t.stage (rw c.from-number.ensures (c.may_close.ensures c.if-not-may_close.false)) moved;
      whole = (NID_PACKET, n) ∷ [];
      follows = (moved, held);
      bits = closing_bits n (part c.args.at 8 xs) (subst (λ (k : ℕ). num 8 k ≡ part c.args.at 8 xs) is c.number_at.ensures.bits);
    }
