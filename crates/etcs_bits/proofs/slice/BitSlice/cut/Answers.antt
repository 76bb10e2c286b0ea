use Rattle.std.proofs.Common.{◌+◌, sym, arith}
use Rattle.etcs_bits.proofs.Positions.{length-bits}
use Rattle.etcs_bits.proofs.Steps.{rest_inside}
use Rattle.etcs_bits.proofs.Views.{part_inside, view_part, length-view}
use Rattle.etcs_bits.proofs.slice.BitSlice.cut.Goals as goal

pub slice_bounds-result-count : goal.slice_bounds-result-count
slice_bounds-result-count c = omega (arith, c.self.invariant, length-bits c.self.inside.bytes.now)

pub slice_bounds-result-start : goal.slice_bounds-result-start
slice_bounds-result-start c = omega (arith, c.self.invariant, length-bits c.self.inside.bytes.now)

pub invariant_of-result : goal.invariant_of-result
invariant_of-result c =
    let s = c.self.inside in
    (omega arith, rest_inside s.bytes.now c.byte_of-at.result.0 (s.offset + c.args.from) c.byte_of-at.result.1 c.args.len (omega arith) (omega (arith, c.self.invariant)))

pub returns : goal.returns
returns c =
    let s = c.self.inside in
    let size = length-view s.bytes.now c.args.self.now s.offset s.len (sym c.self.view_is) c.self.invariant.1 in
    let found = view_part s.bytes.now c.args.self.now s.offset s.len c.args.from c.args.len c.byte_of-at.result.0 c.byte_of-at.result.1 (sym c.self.view_is) (omega arith) (omega arith) in
    part_inside c.args.from c.args.len c.args.self.now _ (omega (arith, size)) found
