use Rattle.etcs_sequence.proofs.Feeding.{fed_more, fed_done}
use Rattle.etcs_sequence.proofs.item.fed.Goals as goal

pub returns-in-Some : goal.returns-in-Some
returns-in-Some g c =
    let v = c.args.feeder.now in
    rw c.in-Ok.is (fed_more g.R.Rest.left g.R.Rest.next v c.in-Ok.taken c.var.result c.var.ensures.next c.in-Some.field-0 c.in-Some.is c.var.ensures.holds)

pub returns-in-None : goal.returns-in-None
returns-in-None g c =
    let v = c.args.feeder.now in
    rw c.in-Ok.is (fed_done g.R.Rest.left g.R.Rest.next v c.in-Ok.taken c.var.result c.var.ensures.next c.in-None.is c.var.ensures.ended)
