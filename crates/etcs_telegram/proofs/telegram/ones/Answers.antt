use Rattle.std.proofs.Common.{◌≤◌, ◌∙◌, arith}
use Rattle.etcs_telegram.proofs.Ones.{ones_fit, ones_more}
use Rattle.etcs_telegram.proofs.telegram.ones.Goals as goal

pub push_number-requires-clause-fits : goal.push_number-requires-clause-fits
push_number-requires-clause-fits c = let small : c.min-width.result ≤ 64 = omega arith in ones_fit c.min-width.result small

pub loop-left-preserved : goal.loop-left-preserved
loop-left-preserved c =
    let small : c.min-width.result ≤ 64 = omega arith in
    let low : c.min-width.result ≤ c.loop-left.left = omega arith in (
      c.in_ok-push_number.ensures.ok ∙ ones_more c.args.len c.loop-left.left c.min-width.result c.loop-left.bits small low c.loop-left.invariant.1 c.loop-left.invariant.0,
      omega arith,
    )
