use Rattle.std.proofs.Common.{refl, sym, ◌-◌, arith}
use Rattle.etcs_tables.specs.Layouts.{layout}
use Rattle.etcs_rows.proofs.CursorLemmas.{enter_counted}
use Rattle.etcs_rows.proofs.place.Cursor.enter_counted.Goals as goal

pub returns-then-self-gt0-clause-same : goal.returns-then-self-gt0-clause-same
returns-then-self-gt0-clause-same c =
    sym (enter_counted c.args.self.now c.push.new.self.items (layout c.args.group.now) (layout c.args.rest.now) (record { group = c.args.group; times = c.args.self.now.before - 1; items = c.args.rest; before = c.args.self.now.before; steps = c.steps_again-steps.result; tail = c.tail_steps-tail.result })
    c.requires.here (omega arith) c.push.ensures.items refl refl refl)
