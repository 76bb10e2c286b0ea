use Rattle.std.proofs.lemmas.Result.{IfOk-weaker}
use Rattle.etcs_bodies.specs.laws.Passing.{passed_list}
use Rattle.etcs_bodies.proofs.part.pass_list.Goals as goal

pub returns-clause-passed : goal.returns-clause-passed
returns-clause-passed g c =
    let left = g.L.NextNumber.left in
    let s = g.met.S.VarSink in
    IfOk-weaker c.pass_all.result _ _ (λ b h yes.
    let all = h yes in
    passed_list g.S.VarSink.with s.with_both g.P.Part.is_part g.P.Variables.reading_of c.args.count c.in-Some.many (left c.args.numbers.now) (left c.next.new.self) (left c.pass_all.new.numbers) c.args.out.now c.send.new.self c.pass_all.new.out all.0 c.in-Some.ensures.next c.in_ok-send.ensures.ok all.1 all.2) c.pass_all.ensures.passed
