use Rattle.std.proofs.Common.{◌≡◌, ◌-◌, length, All}
use Rattle.etcs_bodies.specs.Taking.{times_from}
use Rattle.etcs_bodies.specs.Repeats.{beyond}
use Rattle.etcs_bodies.proofs.part.take_all.Given as goal

abbrev pub invariant-loop : goal.invariant-loop
invariant-loop g l =
    let left = g.L.NextNumber.left in
    (times_from g.P.Part.read_from l.count (left l.fn.numbers) ≡ beyond l.parts.items (times_from g.P.Part.read_from (l.count - l.counter) (left l.numbers)))
    × (length l.parts.items ≡ l.counter) × All g.P.Part.is_part l.parts.items
