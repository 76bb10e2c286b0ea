use Rattle.std.proofs.Common.{◌/◌, ◌%◌, sym, ap, ◌∙◌, arith}
use Rattle.etcs_bits.specs.Bits.{bits, value}
use Rattle.etcs_bits.proofs.Positions.{length-bits, number_past, number_inside}
use Rattle.etcs_bits.proofs.Steps.{rest_inside, part-rest}
use Rattle.etcs_bits.proofs.walker.peek_by_bytes.Goals as goal

pub returns-then-start-width : goal.returns-then-start-width
returns-then-start-width c = sym (number_past c.args.start c.args.width (bits c.args.bytes.now) (omega (arith, length-bits c.args.bytes.now)))

pub read_by_bytes-requires-clause-inside : goal.read_by_bytes-requires-clause-inside
read_by_bytes-requires-clause-inside c = rest_inside c.args.bytes.now (c.args.start / 8) c.args.start (c.args.start % 8) c.args.width (omega arith) (omega (arith, length-bits c.args.bytes.now))

pub returns : goal.returns
returns c =
    let bytes = c.args.bytes.now in
    let found = c.read_by_bytes.ensures ∙ ap value (part-rest bytes (c.args.start / 8) c.args.start (c.args.start % 8) c.args.width (omega arith)) in
    number_inside c.args.start c.args.width (bits bytes) c.read_by_bytes.result (omega (arith, length-bits bytes)) found
