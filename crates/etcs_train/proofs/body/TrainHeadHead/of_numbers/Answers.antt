use Rattle.std.proofs.Common.{rules, arith, List, ℕ, subst}
use Rattle.etcs_tables.specs.declared.row.Way.TheVariants.{ToTrack}
use Rattle.etcs_messages.specs.Kinds.{IsHeadNumbers}
use Rattle.etcs_train.specs.laws.Heads.{HeadNumbers, head_read}
use Rattle.etcs_train.proofs.body.TrainHeadHead.of_numbers.Goals as goal

head_numbers : (f : List ℕ) → IsHeadNumbers ToTrack f → HeadNumbers f
head_numbers f (r, reads, nums) = subst HeadNumbers nums (head_read r reads).fine

pub bounds-numbers-0 : goal.bounds-numbers-0
bounds-numbers-0 c = let h = head_numbers c.args.numbers.now c.requires in omega (arith, h.two)

pub overflow_cast-result : goal.overflow_cast-result
overflow_cast-result c = let h = head_numbers c.args.numbers.now c.requires in let k = h.time in search rules

pub bounds-numbers-1 : goal.bounds-numbers-1
bounds-numbers-1 c = let h = head_numbers c.args.numbers.now c.requires in omega (arith, h.two)

pub overflow_cast-result-2 : goal.overflow_cast-result-2
overflow_cast-result-2 c = let h = head_numbers c.args.numbers.now c.requires in let k = h.engine in search rules
