use Rattle.std.proofs.Common.{Some}
use Rattle.etcs_rows.specs.Progressions.{InProgression, TimesWithin, AtMost}
use Rattle.etcs_rows.specs.Sums.{Plus}
use Rattle.etcs_rows.specs.Totals.{InTotal}
use Rattle.etcs_rows.proofs.FitLemmas.{answer_same}
use Rattle.etcs_rows.proofs.TotalLemmas.{total_parts, total_free}
use Rattle.etcs_rows.proofs.total.Total.holds.Goals as goal

pub returns-in-None : goal.returns-in-None
returns-in-None c =
    let all = total_free c.args.self c.in-None.is c.args.number in
    (λ h. all.0 (c.near.ensures.0 h), λ x. c.near.ensures.1 (all.1 x))

pub returns-in-Some : goal.returns-in-Some
returns-in-Some c =
    let t = c.args.self in let times = c.in-Some.times in
    answer_same c.any_times.result (Plus (InProgression t.steps) (Plus (TimesWithin times.group times.first times.last) (AtMost t.slack)) c.args.number) (InTotal t c.args.number)
    (total_parts t (Some times) c.in-Some.is c.args.number) c.any_times.ensures
