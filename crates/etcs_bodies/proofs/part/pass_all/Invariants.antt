use Rattle.std.proofs.Common.{◌≡◌, List, flat_map}
use Rattle.etcs_bodies.specs.Repeats.{Stand}
use Rattle.etcs_bodies.proofs.part.pass_all.Given as goal

abbrev pub invariant-loop : goal.invariant-loop
invariant-loop g l =
    let left = g.L.NextNumber.left in
    let reading = g.P.Variables.reading_of in
    (ps : List g.row.P.Denot) × Stand g.P.Part.is_part reading l.counter (left l.fn.numbers) ps (left l.numbers) × (l.out ≡ g.S.VarSink.with l.fn.out (flat_map reading ps))
