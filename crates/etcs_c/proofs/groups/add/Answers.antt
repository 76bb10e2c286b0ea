use Rattle.std.proofs.Common.{inl, inr}
use Rattle.etcs_bits.specs.Bits.{bits}
use Rattle.etcs_c.proofs.Holding.{none_fails}
use Rattle.etcs_c.proofs.groups.add.Goals as goal

pub returns-in-Err : goal.returns-in-Err
returns-in-Err c =
    let says = c.in-Err.ensures in
    inr (none_fails c.in-Some.kind (bits c.args.telegram.now.bytes) c.in-Err.status c.item_of.new.answer says, inr (inl (c.in-Some.kind, c.in-Some.ensures.some.0, c.in-Some.ensures.some.1, says)))
