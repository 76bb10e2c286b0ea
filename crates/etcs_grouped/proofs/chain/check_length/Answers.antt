use Rattle.etcs_grouped.specs.Chains.{chain_value}
use Rattle.etcs_grouped.specs.laws.Chains.{short_enough, not_short}
use Rattle.etcs_grouped.proofs.chain.check_length.Goals as goal

pub returns-then-bits-gt-ROW_LIMIT-clause-fault : goal.returns-then-bits-gt-ROW_LIMIT-clause-fault
returns-then-bits-gt-ROW_LIMIT-clause-fault g c =
    let a = c.args in
    not_short g.E.Entry.MOST g.E.Variables.reading_of (chain_value a.dir a.q_scale a.entries.now.0 a.entries.now.1) (rw (← c.MOST.ensures) c.if-MOST-le255.false) c.bits.result c.bits.ensures.bits c.if-bits-gt-ROW_LIMIT.true

pub returns-clause-ok : goal.returns-clause-ok
returns-clause-ok g c =
    let a = c.args in
    short_enough g.E.Entry.MOST g.E.Variables.reading_of (chain_value a.dir a.q_scale a.entries.now.0 a.entries.now.1) (rw (← c.MOST.ensures) c.if-MOST-le255.false) c.bits.result c.bits.ensures.bits c.if-bits-gt-ROW_LIMIT.false
