use Rattle.std.proofs.Common.{◌≡◌, ◌∙◌, Ok, ℕ, List, Result, ap, refl, subst, sym}
use Rattle.etcs_runs.specs.Answers.{Says}
use Rattle.etcs_runs.specs.Digits.{text_digits}
use Rattle.etcs_runs.specs.declared.digits.NoBytes.{NoBytes}
use Rattle.etcs_log.proofs.Answering.{slice_is}
use Rattle.etcs_log.proofs.Reporting.{reports_more, seen_none}
use Rattle.etcs_log.proofs.reports.Reports.see_run.Goals as goal

pub returns-in-Ok : goal.returns-in-Ok
returns-in-Ok c last texts h =
    let buffer = c.args.buffer.now in
    let text = c.args.run.now.text.now in
    let says = subst (λ (z : Result ℕ NoBytes). Says (text_digits text) z buffer) c.in-Ok.is c.requires in
    reports_more c.args.kinds last texts text _ c.args.self.now c.see.new.self (says.2 ∙ ap Ok (sym (slice_is buffer _ _ c.in-Ok.count refl refl))) c.see.ensures h

pub returns-in-Err : goal.returns-in-Err
returns-in-Err c last texts h =
    let buffer = c.args.buffer.now in
    let text = c.args.run.now.text.now in
    let says = subst (λ (z : Result ℕ NoBytes). Says (text_digits text) z buffer) c.in-Err.is c.requires in
    seen_none c.args.kinds last texts text buffer _ c.args.self.now says h
