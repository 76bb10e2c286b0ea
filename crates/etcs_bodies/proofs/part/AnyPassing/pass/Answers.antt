use Rattle.etcs_bodies.specs.laws.Passing.{passed_value}
use Rattle.etcs_bodies.proofs.part.AnyPassing.pass.Goals as goal

pub returns-clause-passed : goal.returns-clause-passed
returns-clause-passed g c =
    let left = g.L.NextNumber.left in
    let s = g.met.S.VarSink in
    λ yes. passed_value g.S.VarSink.with s.with_both g.met.P.Part.codes (left c.args.numbers.now) (left c.read.new.numbers) c.args.out.now c.send.new.out c.in-Some.part c.in-Some.ensures.from c.in_ok-send.ensures.ok
