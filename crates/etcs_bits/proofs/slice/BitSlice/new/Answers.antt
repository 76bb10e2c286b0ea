use Rattle.std.proofs.Common.{◌/◌, ◌%◌, arith}
use Rattle.etcs_bits.specs.Bits.{bits}
use Rattle.etcs_bits.proofs.Positions.{length-bits}
use Rattle.etcs_bits.proofs.Steps.{rest_inside, part-rest}
use Rattle.etcs_bits.proofs.Views.{part_past, part_inside}
use Rattle.etcs_bits.proofs.slice.BitSlice.new.Goals as goal

pub returns-then-start-len : goal.returns-then-start-len
returns-then-start-len c = part_past c.args.start c.args.len (bits c.args.bytes.now) (omega (arith, length-bits c.args.bytes.now))

pub invariant_of-result : goal.invariant_of-result
invariant_of-result c = (omega arith, rest_inside c.args.bytes.now (c.args.start / 8) c.args.start (c.args.start % 8) c.args.len (omega arith) (omega (arith, length-bits c.args.bytes.now)))

pub returns : goal.returns
returns c =
    let bytes = c.args.bytes.now in
    part_inside c.args.start c.args.len (bits bytes) _ (omega (arith, length-bits bytes)) (part-rest bytes (c.args.start / 8) c.args.start (c.args.start % 8) c.args.len (omega arith))
