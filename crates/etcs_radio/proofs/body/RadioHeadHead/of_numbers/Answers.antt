use Rattle.std.proofs.Common.{rules, arith}
use Rattle.etcs_radio.proofs.Numbers.{head_numbers}
use Rattle.etcs_radio.proofs.body.RadioHeadHead.of_numbers.Goals as goal

pub bounds-numbers-0 : goal.bounds-numbers-0
bounds-numbers-0 c = let h = head_numbers c.args.numbers.now c.requires in omega (arith, h.three)

pub overflow_cast-result : goal.overflow_cast-result
overflow_cast-result c = let h = head_numbers c.args.numbers.now c.requires in let k = h.time in search rules

pub bounds-numbers-1 : goal.bounds-numbers-1
bounds-numbers-1 c = let h = head_numbers c.args.numbers.now c.requires in omega (arith, h.three)

pub bounds-numbers-2 : goal.bounds-numbers-2
bounds-numbers-2 c = let h = head_numbers c.args.numbers.now c.requires in omega (arith, h.three)

pub overflow_cast-result-2 : goal.overflow_cast-result-2
overflow_cast-result-2 c = let h = head_numbers c.args.numbers.now c.requires in let k = h.group in search rules
