use Rattle.std.proofs.Common.{rules, ◌^◌, ◌<◌, sym, ◌∙◌, arith}
use Rattle.std.specs.Prelude.{slice_index_or}
use Rattle.etcs_train.specs.laws.Bodies.{time_numbers, status_numbers}
use Rattle.etcs_train.proofs.body.TrainBodyOwn.of_numbers.Goals as goal

pub bounds-numbers-0 : goal.bounds-numbers-0
bounds-numbers-0 c = let h = time_numbers c.args.nid c.args.numbers.now (sym c.is_train_time.ensures ∙ c.if-is_train_time.true) c.requires in omega (arith, h.count)

pub overflow_cast-result : goal.overflow_cast-result
overflow_cast-result c =
    let h = time_numbers c.args.nid c.args.numbers.now (sym c.is_train_time.ensures ∙ c.if-is_train_time.true) c.requires in
    let k : slice_index_or c.args.numbers.now 0 0 < 2 ^ 32 = h.below in
    search rules

pub bounds-numbers-0-then-nid-eq157 : goal.bounds-numbers-0-then-nid-eq157
bounds-numbers-0-then-nid-eq157 c = let h = status_numbers c.args.nid c.args.numbers.now c.if-nid-eq157.true c.requires in omega (arith, h.count)

pub overflow_cast-result-then-nid-eq157 : goal.overflow_cast-result-then-nid-eq157
overflow_cast-result-then-nid-eq157 c =
    let h = status_numbers c.args.nid c.args.numbers.now c.if-nid-eq157.true c.requires in
    let k : slice_index_or c.args.numbers.now 0 0 < 2 ^ 8 = omega (arith, h.below) in
    search rules
