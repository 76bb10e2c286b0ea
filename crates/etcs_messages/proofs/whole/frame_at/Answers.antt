use Rattle.std.proofs.Common.{arith}
use Rattle.etcs_bits.proofs.Positions.{length-bits}
use Rattle.etcs_messages.proofs.whole.frame_at.Goals as goal

pub number_at-nid-requires-clause-inside : goal.number_at-nid-requires-clause-inside
number_at-nid-requires-clause-inside c = omega (arith, length-bits c.args.piece.now, c.if-piece-lt3.false)

pub number_at-bytes-requires-clause-inside : goal.number_at-bytes-requires-clause-inside
number_at-bytes-requires-clause-inside c = omega (arith, length-bits c.args.piece.now, c.if-piece-lt3.false)

pub returns-clause-inside : goal.returns-clause-inside
returns-clause-inside c = omega (arith, length-bits c.args.piece.now, c.if-bytes-piece.false)
