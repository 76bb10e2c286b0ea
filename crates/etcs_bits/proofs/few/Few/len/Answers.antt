use Rattle.std.proofs.Common.{sym, ◌∙◌}
use Rattle.etcs_bits.proofs.Inline.{length-kept}
use Rattle.etcs_bits.proofs.few.Few.len.Goals as goal

pub returns-clause-is : goal.returns-clause-is
returns-clause-is c = c.from.ensures ∙ sym (length-kept c.self.inside.bytes c.args.self.now c.self.inside.len c.self.view_is c.self.invariant c.self.told)
