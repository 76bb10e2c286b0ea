use Rattle.std.proofs.Common.{sym, ap, ◌∙◌}
use Rattle.etcs_tables.specs.Layouts.{Layout}
use Rattle.etcs_rows.specs.Lengths.{beyond}
use Rattle.etcs_rows.proofs.head.+after_groups.Goals as goal

pub returns-in-When-clause-beyond : goal.returns-in-When-clause-beyond
returns-in-When-clause-beyond t c = c.after_groups.ensures.beyond ∙ sym (ap (λ (x : Layout). beyond x) c.in-When.ensures.0)

pub returns-in-Many-clause-beyond : goal.returns-in-Many-clause-beyond
returns-in-Many-clause-beyond t c = c.after_groups-in-Many.ensures.beyond ∙ sym (ap (λ (x : Layout). beyond x) c.in-Many.ensures.0)
