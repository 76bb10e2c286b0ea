use Rattle.etcs_bodies.specs.laws.Passing.{stand_more}
use Rattle.etcs_bodies.proofs.part.pass_all.Goals as goal

pub loop-preserved : goal.loop-preserved
loop-preserved g c =
    let l = c.loop in
    let left = g.L.NextNumber.left in
    let s = g.met.S.VarSink in
    stand_more g.S.VarSink.with s.with_both g.P.Part.is_part g.P.Variables.reading_of l.counter (left c.args.numbers.now) (left l.numbers) (left c.pass.new.numbers) c.args.out.now l.out c.pass.new.out l.invariant.0 l.invariant.1 l.invariant.2 (c.in_ok-pass.ensures.passed c.if-not-branch.false)
