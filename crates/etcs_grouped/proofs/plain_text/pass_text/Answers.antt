use Rattle.std.proofs.lemmas.Result.{IfOk-weaker}
use Rattle.etcs_vars.specs.declared.var.Var.TheVariants.{L_TEXT, X_TEXT}
use Rattle.etcs_bodies.specs.Formats.{number, Is, reading}
use Rattle.etcs_bodies.specs.laws.Passing.{passed_list}
use Rattle.etcs_grouped.proofs.plain_text.pass_text.Goals as goal

pub returns-clause-passed : goal.returns-clause-passed
returns-clause-passed g c =
    let left = g.L.NextNumber.left in
    let s = g.met.S.VarSink in
    IfOk-weaker c.pass_bytes.result _ _ (λ b h yes.
    let all = h yes in
    passed_list g.S.VarSink.with s.with_both (Is (number X_TEXT)) (reading (number X_TEXT)) L_TEXT c.in-Some.count (left c.args.numbers.now) (left c.next.new.self) (left c.pass_bytes.new.numbers) c.args.out.now c.send.new.self c.pass_bytes.new.out all.0 c.in-Some.ensures.next c.in_ok-send.ensures.ok all.1 all.2) c.pass_bytes.ensures.passed
