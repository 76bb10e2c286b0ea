use Rattle.std.proofs.Common.{arith, get_or}
use Rattle.etcs_vars.specs.declared.var.Var.TheVariants.{Q_UPDOWN}
use Rattle.etcs_vars.proofs.Prefixes.{width-le}
use Rattle.etcs_text.proofs.ItemLengths.{one_more}
use Rattle.etcs_blank.proofs.pairs.bits_of.Goals as goal

pub overflow_add-bits : goal.overflow_add-bits
overflow_add-bits c = omega (arith, c.loop-pair.invariant.1, c.width-bits.ensures, width-le (get_or c.args.pairs.now c.loop-pair.pair-index (Q_UPDOWN, 0)).0)

pub loop-pair-preserved : goal.loop-pair-preserved
loop-pair-preserved c =
    let more = one_more c.args.pairs.now c.loop-pair.pair-index (Q_UPDOWN, 0) c.loop-pair-test.true in
    (omega (arith, c.loop-pair.invariant.0, c.width-bits.ensures, more.0), c.if-bits-gt-MOST_BITS.false)

pub returns-then-bits-gt-MOST_BITS : goal.returns-then-bits-gt-MOST_BITS
returns-then-bits-gt-MOST_BITS c =
    let more = one_more c.args.pairs.now c.loop-pair.pair-index (Q_UPDOWN, 0) c.loop-pair-test.true in
    omega (arith, c.loop-pair.invariant.0, c.width-bits.ensures, more.0, more.1, c.if-bits-gt-MOST_BITS.true)
