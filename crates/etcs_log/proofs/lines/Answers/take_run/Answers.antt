use Rattle.std.proofs.Common.{◌≡◌, ◌∙◌, Err, Ok, ℕ, List, Result, arith, refl, subst}
use Rattle.etcs_runs.specs.Answers.{Says}
use Rattle.etcs_runs.specs.Digits.{text_digits}
use Rattle.etcs_runs.specs.declared.digits.NoBytes.{NoBytes}
use Rattle.etcs_log.proofs.Answering.{none_said, slice_is, tried_said}
use Rattle.etcs_log.proofs.lines.Answers.take_run.Goals as goal

pub returns-in-Ok-clause-ok : goal.returns-in-Ok-clause-ok
returns-in-Ok-clause-ok c =
    let s = c.args.self.now in
    let buffer = c.args.buffer.now in
    let text = c.args.run.now.text.now in
    let n = c.in-Ok.count in
    let t = c.take_bytes in
    let says = subst (λ (z : Result ℕ NoBytes). Says (text_digits text) z buffer) c.in-Ok.is c.requires.bytes in
    tried_said t.result text buffer _ n s.job s.line s.seen t.new.self.seen c.args.text.now.items t.new.text.items says (slice_is buffer _ _ n refl refl) t.ensures.ok

pub returns-in-Err-clause-ok : goal.returns-in-Err-clause-ok
returns-in-Err-clause-ok c =
    let s = c.args.self.now in
    let buffer = c.args.buffer.now in
    let text = c.args.run.now.text.now in
    let says = subst (λ (z : Result ℕ NoBytes). Says (text_digits text) z buffer) c.in-Err.is c.requires.bytes in
    (none_said s.job.kinds text buffer _ says, refl, refl)
