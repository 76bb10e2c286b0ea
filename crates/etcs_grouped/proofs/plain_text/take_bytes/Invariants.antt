use Rattle.std.proofs.Common.{◌≡◌, ◌-◌, length, All}
use Rattle.etcs_vars.specs.declared.var.Var.TheVariants.{X_TEXT}
use Rattle.etcs_bodies.specs.Taking.{next_number, times_from}
use Rattle.etcs_bodies.specs.Repeats.{beyond}
use Rattle.etcs_bodies.specs.Formats.{number, Is}
use Rattle.etcs_grouped.proofs.plain_text.take_bytes.Given as goal

abbrev pub invariant-loop : goal.invariant-loop
invariant-loop g l =
    let left = g.L.NextNumber.left in
    (times_from (next_number X_TEXT) l.count (left l.fn.numbers) ≡ beyond l.bytes.items (times_from (next_number X_TEXT) (l.count - l.counter) (left l.numbers)))
    × (length l.bytes.items ≡ l.counter) × All (Is (number X_TEXT)) l.bytes.items
