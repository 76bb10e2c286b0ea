use Rattle.std.proofs.Common.{◌≡◌, ◌+◌, ◌-◌, ◌∙◌, length, length-append, take, sym, ap, arith}
use Rattle.etcs_runs.specs.Cuts.{parts_at}
use Rattle.etcs_runs.specs.Digits.{bare, last_first, without_end}
use Rattle.etcs_runs.specs.LineRuns.{before_last_digits}
use Rattle.etcs_runs.proofs.Befores.{inside_of_word, no_digits_left}
use Rattle.etcs_runs.proofs.Runs.{last_first-last}
use Rattle.etcs_runs.proofs.front.before_last_digits.Goals as goal

pub returns : goal.returns
returns c =
    let rest = c.loop-left.rest.now in
    let at = parts_at c.args.cut in
    sym (c.loop-left.invariant ∙ no_digits_left at (last_first at rest) c.loop-left.left rest c.loop-left-test.false)

pub returns-then-size-left : goal.returns-then-size-left
returns-then-size-left c =
    let at = parts_at c.args.cut in
    let rest = c.loop-left.rest.now in
    let left = c.loop-left.left in
    let before = c.in-Some.before.now in
    let word = c.in-Some.word.now in
    let place : length before + length word - left ≡ length (without_end at rest) - left = ap (λ n. n - left) (sym (ap length c.in-Some.ensures.word.0 ∙ length-append before word)) in
    ap (λ n. take n rest) place
    ∙ sym (c.loop-left.invariant
    ∙ ap (λ z. before_last_digits at z left rest) (last_first-last at rest before word c.in-Some.ensures.some)
    ∙ inside_of_word at (bare word) (last_first at before) left rest (omega (arith, c.loop-left-test.true)) (omega (arith, c.if-size-left.true, ap length c.bare-size.ensures.value)))
