use Rattle.std.proofs.Common.{arith}
use Rattle.etcs_parts.specs.laws.Authorities.{authority_bits, authority_small, few_sections}
use Rattle.etcs_parts.proofs.authority.AuthorityVariables.bits.Goals as goal

pub bits_of_all-requires : goal.bits_of_all-requires
bits_of_all-requires c =
    let few = few_sections c.self.inside c.self.invariant in
    rw c.as_slice.ensures (omega arith)

pub returns-clause-small : goal.returns-clause-small
returns-clause-small c =
    let p = c.self.inside in
    let whole = authority_bits p c.bits_of_all.result c.bits.result c.group_bits.result (rw c.as_slice.ensures at c.bits_of_all.ensures.bits) c.bits.ensures.bits (rw (← c.self.view_is) at c.group_bits.ensures.bits) in
    let most = authority_small p c.self.invariant in
    omega arith
