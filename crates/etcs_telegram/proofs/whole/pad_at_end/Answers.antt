use Rattle.std.proofs.Common.{arith}
use Rattle.etcs_telegram.proofs.WholeTelegram.{container_inside}
use Rattle.etcs_telegram.proofs.whole.pad_at_end.Goals as goal

pub number_at-requires-clause-inside : goal.number_at-requires-clause-inside
number_at-requires-clause-inside c =
    let long = rw c.in-Short.is at (container_inside c.args.size c.args.piece.now c.requires) in
    omega (arith, long)

pub number_at-requires-in-Long-clause-inside : goal.number_at-requires-in-Long-clause-inside
number_at-requires-in-Long-clause-inside c =
    let long = rw c.in-Long.is at (container_inside c.args.size c.args.piece.now c.requires) in
    omega (arith, long)
