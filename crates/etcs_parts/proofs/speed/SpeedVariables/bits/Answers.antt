use Rattle.std.proofs.Common.{arith}
use Rattle.etcs_parts.specs.laws.Speeds.{few_entries}
use Rattle.etcs_parts.proofs.speed.SpeedVariables.bits.Goals as goal

pub returns-clause-small : goal.returns-clause-small
returns-clause-small c =
    let few = few_entries c.self.inside c.self.invariant in
    rw c.as_slice.ensures (omega arith)

pub overflow_mul-result : goal.overflow_mul-result
overflow_mul-result c =
    let few = few_entries c.self.inside c.self.invariant in
    rw c.as_slice.ensures (omega arith)

pub overflow_add-result : goal.overflow_add-result
overflow_add-result c =
    let few = few_entries c.self.inside c.self.invariant in
    rw c.as_slice.ensures (omega arith)
