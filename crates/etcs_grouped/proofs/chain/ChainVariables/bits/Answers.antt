use Rattle.std.proofs.Common.{ap, ◌∙◌, length, arith}
use Rattle.etcs_vars.specs.Reading.{spelled}
use Rattle.etcs_grouped.specs.Chains.{chain_value, chain_reading}
use Rattle.etcs_grouped.proofs.Chains.{chain_length}
use Rattle.etcs_grouped.specs.laws.Chains.{chain_short}
use Rattle.etcs_grouped.proofs.chain.ChainVariables.bits.Goals as goal

pub returns-clause-bits : goal.returns-clause-bits
returns-clause-bits g c =
    let i = c.self.inside in
    chain_length g.E.Variables.reading_of (chain_value i.dir i.q_scale i.entries.0 i.entries.1) c.bits.result c.bits.ensures.bits
    ∙ ap (λ p. length (spelled (chain_reading g.E.Variables.reading_of p))) c.self.view_is

pub returns-clause-small : goal.returns-clause-small
returns-clause-small g c =
    let i = c.self.inside in
    let p = chain_value i.dir i.q_scale i.entries.0 i.entries.1 in
    let whole = chain_length g.E.Variables.reading_of p c.bits.result c.bits.ensures.bits in
    let short = chain_short g.E.Part.is_part g.E.Variables.reading_of g.E.Entry.MOST g.met.E.Entry.most p c.self.invariant in
    omega arith
