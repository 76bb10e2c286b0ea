use Rattle.std.proofs.Common.{◌≡◌, ◌∙◌, Ok, ℕ, List, Result, ap, refl, subst, sym}
use Rattle.std.specs.Prelude.{IfOk}
use Rattle.hex.specs.declared.error.FromHexError.{FromHexError}
use Rattle.etcs_runs.specs.Answers.{Says}
use Rattle.etcs_runs.specs.Digits.{text_digits}
use Rattle.etcs_runs.specs.declared.digits.NoBytes.{NoBytes}
use Rattle.etcs_log.specs.Candidates.{digit_candidates}
use Rattle.etcs_log.specs.Reports.{IsCountOf}
use Rattle.etcs_log.proofs.Answering.{none_said, slice_is}
use Rattle.etcs_log.proofs.others.item_of.Goals as goal

pub returns-in-Ok : goal.returns-in-Ok
returns-in-Ok c =
    let buffer = c.args.buffer.now in
    let text = c.args.run.now.text.now in
    let says = subst (λ (z : Result ℕ NoBytes). Says (text_digits text) z buffer) c.in-Ok.is c.requires in
    let is = says.2 ∙ ap Ok (sym (slice_is buffer _ _ c.in-Ok.count refl refl)) in
    subst (λ (z : Result (List ℕ) FromHexError). IfOk c.item_in.result (IsCountOf (digit_candidates c.args.kinds text z))) (sym is) (c.item_in.ensures text)

pub returns-in-Err : goal.returns-in-Err
returns-in-Err c =
    let buffer = c.args.buffer.now in
    let text = c.args.run.now.text.now in
    let says = subst (λ (z : Result ℕ NoBytes). Says (text_digits text) z buffer) c.in-Err.is c.requires in
    none_said c.args.kinds text buffer _ says
