use Rattle.std.proofs.Common.{sym, ap, eqb}
use Rattle.etcs_bits.proofs.Inline.{length-kept}
use Rattle.etcs_bits.proofs.few.Few.is_empty.Goals as goal

pub returns : goal.returns
returns c = ap (λ k. eqb k 0) (sym (length-kept c.self.inside.bytes c.args.self.now c.self.inside.len c.self.view_is c.self.invariant c.self.told))
