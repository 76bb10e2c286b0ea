use Rattle.std.proofs.Common.{◌+◌, refl}
use Rattle.std.proofs.lemmas.Option.{IfSome_then}
use Rattle.std.proofs.lemmas.Result.{IfOk-weaker}
use Rattle.etcs_text.specs.Encodings.{check_line}
use Rattle.etcs_text.specs.Entries.{entry_text}
use Rattle.etcs_stream.proofs.printer.write_seen.Goals as goal

pub returns-in-Check-clause-some : goal.returns-in-Check-clause-some
returns-in-Check-clause-some c = λ s is.
    rw c.in-Check.is (IfOk-weaker c.check_seen.result _ _ (λ o h. IfSome_then o h (λ n (within, e, out, page). (within, e, out, check_line e (s.count + 1), (refl, refl), rw is at page))) c.check_seen.ensures.some)

pub returns-in-Convert-clause-some : goal.returns-in-Convert-clause-some
returns-in-Convert-clause-some c = λ s is. rw c.in-Convert.is (c.convert_seen.ensures.some s)

pub returns-in-Show-clause-some : goal.returns-in-Show-clause-some
returns-in-Show-clause-some c = λ s is.
    rw c.in-Show.is (IfOk-weaker c.show_seen.result _ _ (λ o h. IfSome_then o h (λ n (within, e, out, page). (within, e, out, entry_text e (s.count + 1), (refl, refl), rw is at page))) c.show_seen.ensures.some)
