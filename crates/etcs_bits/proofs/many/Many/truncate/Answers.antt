use Rattle.std.proofs.Common.{◌≤◌, take, ap, ◌∙◌, arith}
use Rattle.etcs_bits.proofs.Owned.{length-owned, cut}
use Rattle.etcs_bits.proofs.many.Many.truncate.Goals as goal

pub invariant_of-self : goal.invariant_of-self
invariant_of-self c =
    let v = c.self.inside.bytes in
    let below : c.args.len ≤ c.self.inside.len = omega (arith, length-owned v.items c.args.self.now c.self.inside.len c.self.view_is c.self.invariant.0) in
    (cut v.items c.truncate.new.self.items c.self.inside.len c.args.len c.div_ceil.result c.self.invariant below (omega arith) (omega arith) c.truncate.ensures.items).0

pub returns : goal.returns
returns c =
    let v = c.self.inside.bytes in
    let below : c.args.len ≤ c.self.inside.len = omega (arith, length-owned v.items c.args.self.now c.self.inside.len c.self.view_is c.self.invariant.0) in
    (cut v.items c.truncate.new.self.items c.self.inside.len c.args.len c.div_ceil.result c.self.invariant below (omega arith) (omega arith) c.truncate.ensures.items).1
    ∙ ap (take c.args.len) c.self.view_is
