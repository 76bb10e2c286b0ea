use Rattle.std.proofs.Common.{sym, ap, eqb}
use Rattle.etcs_bits.proofs.Owned.{length-owned}
use Rattle.etcs_bits.proofs.many.Many.is_empty.Goals as goal

pub returns : goal.returns
returns c = ap (λ k. eqb k 0) (sym (length-owned c.self.inside.bytes.items c.args.self.now c.self.inside.len c.self.view_is c.self.invariant.0))
