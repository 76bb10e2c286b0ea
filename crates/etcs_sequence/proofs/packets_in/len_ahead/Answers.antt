use Rattle.std.proofs.Common.{◌∙◌, arith}
use Rattle.etcs_sequence.proofs.Splits.{least_ahead, said_ahead}
use Rattle.etcs_sequence.proofs.packets_in.len_ahead.Goals as goal

pub number_in-requires-clause-inside : goal.number_in-requires-clause-inside
number_in-requires-clause-inside c = omega (arith, least_ahead c.args.rest.now c.requires)

pub returns-then-number_in-eq0-clause-inside : goal.returns-then-number_in-eq0-clause-inside
returns-then-number_in-eq0-clause-inside c = omega (arith, least_ahead c.args.rest.now c.requires)

pub number_in-requires-2-clause-inside : goal.number_in-requires-2-clause-inside
number_in-requires-2-clause-inside c = omega (arith, c.head_bits.ensures, (said_ahead c.args.rest.now c.requires (λ e. c.if-number_in-eq0.false (c.number_in.ensures.value ∙ e))).0)

pub returns-clause-inside : goal.returns-clause-inside
returns-clause-inside c =
    let said = said_ahead c.args.rest.now c.requires (λ e. c.if-number_in-eq0.false (c.number_in.ensures.value ∙ e)) in
    omega (arith, said.1, rw c.head_bits.ensures at c.number_in-2.ensures.value)
