use Rattle.std.proofs.Common.{◌≡◌, ℕ, List, flat_map}
use Rattle.etcs_vars.specs.declared.var.Var.TheVariants.{X_TEXT}
use Rattle.etcs_bodies.specs.Formats.{number, Is, reading}
use Rattle.etcs_bodies.specs.Repeats.{Stand}
use Rattle.etcs_grouped.proofs.plain_text.pass_bytes.Given as goal

abbrev pub invariant-loop : goal.invariant-loop
invariant-loop g l =
    let left = g.L.NextNumber.left in
    (bytes : List ℕ) × Stand (Is (number X_TEXT)) (reading (number X_TEXT)) l.counter (left l.fn.numbers) bytes (left l.numbers) × (l.out ≡ g.S.VarSink.with l.fn.out (flat_map (reading (number X_TEXT)) bytes))
