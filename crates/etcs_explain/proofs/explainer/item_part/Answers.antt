use Rattle.std.proofs.Common.{◌<◌, ◌^◌, ◌*◌, ℕ, length, refl, ap, arith, inl, inr}
use Rattle.etcs_vars.specs.Reading.{spelled}
use Rattle.etcs_runs.specs.declared.fault.RunFault.TheVariants.{Truncated}
use Rattle.etcs_text.proofs.ItemLengths.{item_length, whole_item}
use Rattle.etcs_explain.proofs.explainer.item_part.Goals as goal

pub returns-in-Whole-clause-part : goal.returns-in-Whole-clause-part
returns-in-Whole-clause-part c =
    let a = rw c.in-Whole.is at c.requires.account in
    let p = c.args.account.now.fields.items in
    let small : length (spelled p) < 2 ^ 62 = omega (arith, (item_length c.args.kind a.0.0 p a.0.1).1) in
    let w = whole_item c.args.kind p c.args.bytes.now c.bytes.result a (c.bytes.ensures small) in
    (w.0, w.1, (w.2, w.3))

pub returns-in-Open-clause-part : goal.returns-in-Open-clause-part
returns-in-Open-clause-part c =
    let a = rw c.in-Open.is at c.requires.account in
    (refl, inr (ap (λ (z : ℕ). Truncated c.args.item (8 * z)) c.min.ensures, a.1.viable, a.1.open_end))

pub returns-in-Refused-clause-part : goal.returns-in-Refused-clause-part
returns-in-Refused-clause-part c =
    let a = rw c.in-Refused.is at c.requires.account in
    rw c.in-Refused.is (refl, inl (_, _, refl, a.1))
