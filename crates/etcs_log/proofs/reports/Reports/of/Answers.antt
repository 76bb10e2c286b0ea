use Rattle.std.proofs.Common.{◌≡◌, ◌∙◌, Ok, ℕ, List, Result, ap, arith, length, refl, subst, sym}
use Rattle.etcs_runs.specs.Answers.{Says}
use Rattle.etcs_runs.specs.Digits.{text_digits}
use Rattle.etcs_runs.specs.declared.digits.NoBytes.{NoBytes}
use Rattle.etcs_log.proofs.Answering.{slice_is}
use Rattle.etcs_log.proofs.Reporting.{of_bytes, slice_some}
use Rattle.etcs_log.proofs.reports.Reports.of.Goals as goal

pub returns-in-Ok : goal.returns-in-Ok
returns-in-Ok c =
    let buffer = c.args.buffer.now in
    let text = c.args.last.now.text.now in
    let n = c.in-Ok.count in
    let says = subst (λ (z : Result ℕ NoBytes). Says (text_digits text) z buffer) c.in-Ok.is c.requires in
    let e = c.of_bytes.ensures in
    let same = slice_is buffer _ _ n refl refl in
    of_bytes c.args.kinds text _ c.of_bytes.result (says.2 ∙ ap Ok (sym same)) (slice_some buffer _ n says.0 says.1 same) (rw c.front.ensures.value at e.named) (rw c.front.ensures.value at e.text) e.asked e.note e.other

pub returns-in-Err : goal.returns-in-Err
returns-in-Err c =
    let buffer = c.args.buffer.now in
    let text = c.args.last.now.text.now in
    let says = subst (λ (z : Result ℕ NoBytes). Says (text_digits text) z buffer) c.in-Err.is c.requires in
    c.of_none.ensures c.args.kinds buffer says
