use Rattle.std.proofs.Common.{Err, subst}
use Rattle.etcs_runs.specs.Answers.{Says}
use Rattle.etcs_runs.specs.Digits.{text_digits}
use Rattle.etcs_runs.specs.declared.digits.NoBytes.{NoBytes}
use Rattle.etcs_log.proofs.Reporting.{no_digits, of_empty, of_odd}
use Rattle.etcs_log.proofs.reports.Reports.of_none.Goals as goal

pub returns-in-OddDigits : goal.returns-in-OddDigits
returns-in-OddDigits c kinds buffer says =
    let text = c.args.last.now.text.now in
    let e = c.of_odd.ensures in
    let front = c.front.ensures.value in
    of_odd kinds text buffer c.in-OddDigits.count c.of_odd.result (subst (λ (z : NoBytes). Says (text_digits text) (Err z) buffer) c.in-OddDigits.is says) (rw front at e.named) (rw front at e.text) e.asked e.note e.other

pub returns-in-NoDigits : goal.returns-in-NoDigits
returns-in-NoDigits c kinds buffer says =
    let text = c.args.last.now.text.now in
    let e = c.of_empty.ensures in
    let front = c.front-in-NoDigits.ensures.value in
    of_empty kinds text c.of_empty.result (no_digits (text_digits text) buffer c.args.why c.in-NoDigits.is says) (rw front at e.named) e.text e.asked e.note e.other
