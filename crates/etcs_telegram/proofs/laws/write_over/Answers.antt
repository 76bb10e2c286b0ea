use Rattle.etcs_telegram.proofs.RoundTrips.{writes_over}
use Rattle.etcs_telegram.proofs.laws.write_over.Goals as goal

pub returns-clause-writes : goal.returns-clause-writes
returns-clause-writes c = writes_over c.args.telegram.now c.args.out.now c.encode_into.new.out c.in-Ok.field-0 c.encode_into.auto.out c.requires c.in-Ok.ensures.ok

pub returns-clause-bytes : goal.returns-clause-bytes
returns-clause-bytes c = λ i. (c.type_inv.out i).fits
