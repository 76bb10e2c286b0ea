use Rattle.std.proofs.Common.{refl, ◌∙◌, arith}
use Rattle.etcs_bits.specs.Bits.{bits}
use Rattle.etcs_bits.proofs.Positions.{length-bits}
use Rattle.etcs_bits.proofs.Steps.{write_next, write_all, write_none}
use Rattle.etcs_bits.proofs.poker.write_by_bytes.Goals as goal

pub loop-left-init : goal.loop-left-init
loop-left-init c = (omega arith, write_none c.args.bytes.now c.args.offset c.args.width c.args.value)

pub bounds-bytes-at : goal.bounds-bytes-at
bounds-bytes-at c = omega (arith, length-bits c.args.bytes.now)

pub bounds-bytes-at-in-loop-left : goal.bounds-bytes-at-in-loop-left
bounds-bytes-at-in-loop-left c = omega (arith, length-bits c.args.bytes.now)

pub loop-left-preserved : goal.loop-left-preserved
loop-left-preserved c =
    let s = c.loop-left in
    (omega arith, write_next c.args.bytes.now s.bytes c.args.offset c.args.width s.left c.min-count.result c.byte_of-at.result.0 c.byte_of-at.result.1 c.args.value _ c.with_number.result (omega arith) (omega arith) (omega arith) (omega arith) (omega (arith, length-bits c.args.bytes.now)) c.requires.inside s.invariant.1 refl c.with_number.ensures)

pub returns : goal.returns
returns c = c.loop-left.invariant.1 ∙ write_all (bits c.args.bytes.now) c.args.offset c.args.width c.loop-left.left c.args.value (omega arith)
