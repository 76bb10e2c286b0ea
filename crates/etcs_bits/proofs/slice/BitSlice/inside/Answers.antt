use Rattle.std.proofs.Common.{◌+◌, ◌/◌, ◌%◌, ◌≤◌, length, arith}
use Rattle.etcs_bits.specs.Bits.{bits}
use Rattle.etcs_bits.proofs.Positions.{length-bits}
use Rattle.etcs_bits.proofs.Steps.{rest_inside, part-rest}
use Rattle.etcs_bits.proofs.slice.BitSlice.inside.Goals as goal

pub slice_bounds-result-count : goal.slice_bounds-result-count
slice_bounds-result-count c =
    let within : c.args.start + c.args.len ≤ length (bits c.args.bytes.now) = c.requires in
    omega (arith, within, length-bits c.args.bytes.now)

pub slice_bounds-result-start : goal.slice_bounds-result-start
slice_bounds-result-start c =
    let within : c.args.start + c.args.len ≤ length (bits c.args.bytes.now) = c.requires in
    omega (arith, within, length-bits c.args.bytes.now)

pub invariant_of-result : goal.invariant_of-result
invariant_of-result c = (omega arith, rest_inside c.args.bytes.now (c.args.start / 8) c.args.start (c.args.start % 8) c.args.len (omega arith) c.requires)

pub returns : goal.returns
returns c = part-rest c.args.bytes.now (c.args.start / 8) c.args.start (c.args.start % 8) c.args.len (omega arith)
