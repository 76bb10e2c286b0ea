use Rattle.etcs_tables.specs.Layouts.{layout}
use Rattle.etcs_rows.specs.Lengths.{GroupsWithin}
use Rattle.etcs_rows.specs.Progressions.{InProgression, TimesWithin}
use Rattle.etcs_rows.proofs.LengthLemmas.{set_along}
use Rattle.etcs_rows.proofs.fitting.groups_within.Goals as goal

pub returns-in-Some-times_steps : goal.returns-in-Some-times_steps
returns-in-Some-times_steps c =
    let group = c.in-Some in
    set_along (InProgression c.in-Some-times_steps.all) (TimesWithin group.group group.first group.last) (GroupsWithin c.args.var (layout c.args.rest.now) c.args.low c.args.high) c.in-Some-times_steps.ensures group.ensures.all
