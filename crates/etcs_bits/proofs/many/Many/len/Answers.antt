use Rattle.std.proofs.Common.{sym}
use Rattle.etcs_bits.proofs.Owned.{length-owned}
use Rattle.etcs_bits.proofs.many.Many.len.Goals as goal

pub returns : goal.returns
returns c = sym (length-owned c.self.inside.bytes.items c.args.self.now c.self.inside.len c.self.view_is c.self.invariant.0)
