use Rattle.etcs_group.proofs.AnyOrders.{any_order}
use Rattle.etcs_group.proofs.laws.any_order.Goals as goal

pub returns : goal.returns
returns c = any_order
