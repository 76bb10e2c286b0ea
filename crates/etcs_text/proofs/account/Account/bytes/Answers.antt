use Rattle.std.proofs.Common.{arith}
use Rattle.etcs_vars.specs.declared.var.Var.TheVariants.{Q_UPDOWN}
use Rattle.etcs_text.proofs.ItemLengths.{one_more}
use Rattle.etcs_text.proofs.account.Account.bytes.Goals as goal

pub loop-field-preserved : goal.loop-field-preserved
loop-field-preserved c small =
    let more = one_more c.as_slice-field-items.result.now c.loop-field.field-index (Q_UPDOWN, 0) c.loop-field-test.true in
    omega (arith, small, c.loop-field.invariant small, c.width.ensures, c.saturating_add-bits.ensures, more.0, more.1)
