use Rattle.std.proofs.Common.{◌≡◌, ◌+◌, ◌-◌, suc, ◌∙◌, ap, arith}
use Rattle.etcs_runs.specs.Cuts.{parts_at}
use Rattle.etcs_runs.specs.Digits.{before_words}
use Rattle.etcs_runs.proofs.Fronts.{before_last-take}
use Rattle.etcs_runs.proofs.front.before_words.Goals as goal

pub loop-preserved : goal.loop-preserved
loop-preserved c =
    let at = parts_at c.args.cut in
    let rest = c.loop.rest.now in
    let left = c.args.count - (c.loop.counter + 1) in
    let more : c.args.count - c.loop.counter ≡ suc left = omega (arith, c.loop-test.true) in
    let e = c.end_of_word-end.ensures in
    let s = c.start_of_word.ensures in
    c.loop.invariant
    ∙ ap (λ n. before_words at n rest) more
    ∙ ap (before_words at left) (before_last-take at rest c.end_of_word-end.result c.start_of_word.result e.end s.word s.within s.before)
