use Rattle.std.proofs.Common.{◌≡◌, ◌+◌, ◌++◌, arith, refl}
use Rattle.std.proofs.lemmas.List.Elements.{All-append}
use Rattle.std.proofs.lemmas.Result.{err_from_is_err_and}
use Rattle.etcs_runs.specs.Lines.{strip_cr}
use Rattle.etcs_log.specs.declared.notes.Note.TheVariants.{TooLong}
use Rattle.etcs_log.specs.Logs.{bad}
use Rattle.etcs_log.proofs.Counting.{answered_on, long_more, took_few, took_front, took_more}
use Rattle.etcs_log.proofs.log.LogLinesLineHandler.refuse_long.Goals as goal

pub overflow_add-self : goal.overflow_add-self
overflow_add-self c =
    let s = c.args.self.now.answers in
    omega (arith, (took_few s.job s.line s.seen c.requires.took).0)

pub refuse-requires : goal.refuse-requires
refuse-requires c =
    let s = c.args.self.now.answers in
    record { few = (took_few s.job s.line s.seen c.requires.took).1 }

pub returns-clause-ok : goal.returns-clause-ok
returns-clause-ok c lines part output h l long rest k =
    let s = c.args.self.now.answers in
    let n = c.refuse.new.self in
    let raw = part ++ rest in
    let noted = rw c.clear.ensures.items at c.in_ok-refuse.ensures.ok in
    let answered = answered_on s.job (s.line + 1) (strip_cr raw) s.seen n.seen c.refuse.new.text.items c.args.page.now c.pass_on.new.page (bad TooLong, long_more s.job part rest long, noted) c.in_ok-pass_on.ensures.ok in
    rw c.pass_on.ensures.answers (took_more s.job n.job s.line n.line s.seen n.seen lines raw (strip_cr raw) output c.args.page.now c.pass_on.new.page h (All-append (λ c. c ≡ 10 → ⊥) part rest l k) refl c.refuse.ensures.job c.refuse.ensures.line answered)

pub returns-in_err-refuse-clause-err : goal.returns-in_err-refuse-clause-err
returns-in_err-refuse-clause-err c lines part more output h l long m =
    let s = c.args.self.now.answers in
    let r = err_from_is_err_and c.from_residual.result c.from_residual.ensures.1 in
    rw (r.1, r.2) (tt, (refl, took_front s.job s.line s.seen lines (part ++ more) output c.args.page.now c.args.page.now h refl))

pub returns-in_err-pass_on-clause-err : goal.returns-in_err-pass_on-clause-err
returns-in_err-pass_on-clause-err c lines part more output h l long m =
    let s = c.args.self.now.answers in
    let r = err_from_is_err_and c.from_residual-in_err-pass_on.result c.from_residual-in_err-pass_on.ensures.1 in
    rw (r.1, r.2) (tt, (refl, took_front s.job s.line s.seen lines (part ++ more) output c.args.page.now c.pass_on.new.page h c.in_err-pass_on.ensures.err))
