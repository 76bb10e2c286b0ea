use Rattle.std.proofs.Common.{◌+◌, ◌-◌, ◌*◌, arith}
use Rattle.etcs_bits.specs.Bits.{num}
use Rattle.etcs_bits.proofs.Positions.{length-bits}
use Rattle.etcs_bits.proofs.Steps.{rest_inside, replaced-rest, written_none}
use Rattle.etcs_bits.proofs.poker.write.Goals as goal

pub slice_bounds-write_by_bytes-count : goal.slice_bounds-write_by_bytes-count
slice_bounds-write_by_bytes-count c = omega (arith, length-bits c.args.bytes.now)

pub slice_bounds-write_by_bytes-start : goal.slice_bounds-write_by_bytes-start
slice_bounds-write_by_bytes-start c = omega (arith, length-bits c.args.bytes.now)

pub write_by_bytes-requires-clause-inside : goal.write_by_bytes-requires-clause-inside
write_by_bytes-requires-clause-inside c = rest_inside c.args.bytes.now c.args.at (8 * c.args.at + c.args.offset) c.args.offset c.args.width (omega arith) c.requires.inside

pub overflow_mul-at : goal.overflow_mul-at
overflow_mul-at c = omega (arith, c.min-first.ensures, length-bits c.args.bytes.now)

pub overflow_add-at : goal.overflow_add-at
overflow_add-at c = omega (arith, c.min-first.ensures, length-bits c.args.bytes.now)

pub write_in_word-requires-clause-inside : goal.write_in_word-requires-clause-inside
write_in_word-requires-clause-inside c = omega (arith, c.min-first.ensures, length-bits c.args.bytes.now)

pub write_in_byte-requires-clause-byte : goal.write_in_byte-requires-clause-byte
write_in_byte-requires-clause-byte c = omega (arith, length-bits c.args.bytes.now)

pub returns-then-bytes-lt8 : goal.returns-then-bytes-lt8
returns-then-bytes-lt8 c = replaced-rest c.args.bytes.now c.write_by_bytes.new.bytes c.args.at (8 * c.args.at + c.args.offset) c.args.offset (num c.args.width c.args.value) (omega (arith, length-bits c.args.bytes.now)) (omega arith) c.write_by_bytes.ensures

pub returns-else-bytes-lt8 : goal.returns-else-bytes-lt8
returns-else-bytes-lt8 c = replaced-rest c.args.bytes.now c.write_in_word.new.bytes c.min-first.result (8 * c.args.at + c.args.offset) (8 * (c.args.at - c.min-first.result) + c.args.offset) (num c.args.width c.args.value) (omega (arith, c.min-first.ensures, length-bits c.args.bytes.now)) (omega (arith, c.min-first.ensures, length-bits c.args.bytes.now)) c.write_in_word.ensures

pub returns-else-width-gt0 : goal.returns-else-width-gt0
returns-else-width-gt0 c = written_none c.args.bytes.now (8 * c.args.at + c.args.offset) c.args.width c.args.value (omega arith)
