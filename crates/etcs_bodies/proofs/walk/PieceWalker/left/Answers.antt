use Rattle.std.proofs.Common.{◌*◌, ◌-◌, ap, sym, ◌∙◌, length, drop, arith}
use Rattle.std.proofs.lemmas.List.{length-drop}
use Rattle.etcs_bits.specs.Bits.{bits}
use Rattle.etcs_bits.proofs.Positions.{length-bits}
use Rattle.etcs_bodies.proofs.walk.PieceWalker.left.Goals as goal

pub overflow_mul-self-inside : goal.overflow_mul-self-inside
overflow_mul-self-inside c = omega (arith, c.self.invariant, length-bits c.self.inside.piece.now)

pub returns : goal.returns
returns c = c.saturating_sub.ensures ∙ ap (λ n. n - c.self.inside.place) (sym (length-bits c.self.inside.piece.now)) ∙ sym (length-drop c.self.inside.place (bits c.self.inside.piece.now)) ∙ ap (λ w. length (drop w.place w.bits)) c.self.view_is
