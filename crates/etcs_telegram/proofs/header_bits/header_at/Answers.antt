use Rattle.std.proofs.Common.{◌+◌, arith}
use Rattle.etcs_bits.specs.Bits.{bits}
use Rattle.etcs_bits.proofs.Positions.{length-bits}
use Rattle.etcs_tables.specs.Headers.{header_row}
use Rattle.etcs_telegram.proofs.FrontSteps.{front_in}
use Rattle.etcs_telegram.proofs.header_bits.header_at.Goals as goal

pub overflow_mul-piece : goal.overflow_mul-piece
overflow_mul-piece c = omega (arith, c.requires.small, length-bits c.args.piece.now)

pub overflow_sub-piece : goal.overflow_sub-piece
overflow_sub-piece c = omega (arith, c.requires.inside, length-bits c.args.piece.now)

pub number_at-requires-clause-inside : goal.number_at-requires-clause-inside
number_at-requires-clause-inside c = omega (arith, c.requires.inside, length-bits c.args.piece.now)

pub overflow_add-result : goal.overflow_add-result
overflow_add-result c = omega (arith, c.requires.inside, c.requires.small, length-bits c.args.piece.now)

pub returns : goal.returns
returns c = rw c.from.ensures.0 (front_in header_row (bits c.args.piece.now) c.args.at c.in_ok-numbers.numbers c.number_at.result (c.args.at + 50) (omega arith) (omega (arith, c.requires.inside, length-bits c.args.piece.now)) c.in_ok-numbers.ensures c.number_at.ensures.bits)
