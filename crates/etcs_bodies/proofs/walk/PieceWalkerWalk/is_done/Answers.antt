use Rattle.std.proofs.Common.{◌*◌, ap, sym, ◌∙◌, nat_le, length, arith}
use Rattle.etcs_bits.proofs.Positions.{length-bits}
use Rattle.etcs_bodies.proofs.walk.PieceWalkerWalk.is_done.Goals as goal

pub overflow_mul-result : goal.overflow_mul-result
overflow_mul-result c = omega (arith, c.self.invariant, length-bits c.self.inside.piece.now)

pub returns : goal.returns
returns c = ap (λ n. nat_le n c.self.inside.place) (sym (length-bits c.self.inside.piece.now)) ∙ ap (λ w. nat_le (length w.bits) w.place) c.self.view_is
