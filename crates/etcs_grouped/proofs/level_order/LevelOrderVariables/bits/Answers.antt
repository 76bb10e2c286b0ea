use Rattle.std.proofs.Common.{arith}
use Rattle.etcs_grouped.specs.LevelOrders.{level_order_value}
use Rattle.etcs_grouped.specs.laws.LevelOrders.{level_order_length, level_order_most}
use Rattle.etcs_grouped.proofs.level_order.LevelOrderVariables.bits.Goals as goal

pub returns-clause-small : goal.returns-clause-small
returns-clause-small c =
    let i = c.self.inside in
    let p = level_order_value i.dir i.q_scale i.d_leveltr i.levels.0 i.levels.1 in
    omega (arith, level_order_length p c.bits.result c.bits.ensures.bits, level_order_most p c.self.invariant)
