use Rattle.std.proofs.Common.{◌∙◌, refl, sym}
use Rattle.std.proofs.lemmas.Bool.Decides.{not_from_Decides}
use Rattle.etcs_log.proofs.Another.{count_none, count_one, count_unasked}
use Rattle.etcs_log.proofs.Answering.{no_fit}
use Rattle.etcs_log.proofs.others.find.Goals as goal

pub returns-then-not-asked : goal.returns-then-not-asked
returns-then-not-asked c is_last text = count_unasked c.args.asked c.args.kind is_last text c.args.bytes.now c.if-not-asked.true

pub returns-then-not-may_have : goal.returns-then-not-may_have
returns-then-not-may_have c is_last text = count_none c.args.asked c.args.kind is_last text c.args.bytes.now (no_fit c.args.kind c.args.bytes.now (sym c.may_have.ensures ∙ c.if-not-may_have.true))

pub returns-then-not-branch : goal.returns-then-not-branch
returns-then-not-branch c is_last text =
    let b = c.in_ok-is_item in
    count_none c.args.asked c.args.kind is_last text c.args.bytes.now (λ e is. not_from_Decides b.field-0 b.ensures c.if-not-branch.true (e, is))

pub returns : goal.returns
returns c is_last text = count_one c.args.asked c.args.kind is_last text c.args.bytes.now c.of.result c.if-not-asked.false (c.in_ok-is_item.ensures.0 c.if-not-branch.false) c.of.ensures
