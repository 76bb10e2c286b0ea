use Rattle.std.proofs.Common.{drop, arith}
use Rattle.etcs_json_trees.proofs.DecimalTexts.{begins_digit, end_there, in_word}
use Rattle.etcs_json_trees.proofs.written.pair_numbers.decimal_number.Goals as goal

pub returns-then-first-gt9-clause-none : goal.returns-then-first-gt9-clause-none
returns-then-first-gt9-clause-none c = λ large n s small e.
    begins_digit n (drop c.args.at c.args.text.now) _ (in_word n c.args.width c.requires.width small) (c.digit_at-first.ensures.none c.if-first-gt9.true) e

pub returns-then-text-place-clause-none : goal.returns-then-text-place-clause-none
returns-then-text-place-clause-none c = λ large n s small e.
    (let m = c.more_digits-number in
    let most = c.most_digits in
    let same = end_there m.result.0 n c.args.at m.result.1 most.result c.args.width c.args.end c.args.text.now s (omega arith) c.requires.at m.ensures.place most.ensures.few most.ensures.some m.ensures.small most.ensures.most small large m.ensures.text m.ensures.stops e in
    omega (arith, c.if-text-place.true, same))
