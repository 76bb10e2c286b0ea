use Rattle.std.proofs.Common.{◌≡◌, arith}
use Rattle.etcs_rows.specs.Progressions.{InProgression, TimesWithin}
use Rattle.etcs_rows.specs.Sums.{Plus}
use Rattle.etcs_rows.specs.Totals.{InTotal}
use Rattle.etcs_rows.proofs.NearLemmas.{some_near}
use Rattle.etcs_rows.proofs.TotalLemmas.{total_alone, total_group}
use Rattle.etcs_rows.proofs.total.Total.around.Goals as goal

pub returns-in-None : goal.returns-in-None
returns-in-None c =
    let t = c.args.self in let none : t.slack ≡ 0 = omega arith in
    some_near (InProgression t.steps) (InTotal t) c.args.number c.around.result (total_alone t c.in-None.is none) c.around.ensures

pub returns-in-Some : goal.returns-in-Some
returns-in-Some c =
    let t = c.args.self in let g = c.in-Some.times in let none : t.slack ≡ 0 = omega arith in
    some_near (Plus (InProgression t.steps) (TimesWithin g.group g.first g.last)) (InTotal t) c.args.number c.times_around.result (total_group t g c.in-Some.is none) c.times_around.ensures
