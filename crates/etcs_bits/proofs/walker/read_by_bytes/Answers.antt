use Rattle.std.proofs.Common.{◌+◌, ◌≤◌, length, arith}
use Rattle.etcs_bits.specs.Bits.{bits}
use Rattle.etcs_bits.proofs.Positions.{length-bits}
use Rattle.etcs_bits.proofs.Steps.{read_next, number_room}
use Rattle.etcs_bits.proofs.walker.read_by_bytes.Goals as goal

pub bounds-bytes-at : goal.bounds-bytes-at
bounds-bytes-at c = omega (arith, length-bits c.args.bytes.now)

pub overflow_add-number : goal.overflow_add-number
overflow_add-number c =
    let s = c.loop-done in
    let all : c.args.offset + (s.done + c.min-count.result) ≤ length (bits c.args.bytes.now) = omega arith in
    let wide : s.done + c.min-count.result ≤ 64 = omega arith in
    let whole = read_next c.args.bytes.now c.args.offset s.done c.min-count.result c.byte_of-at.result.0 c.byte_of-at.result.1 s.number c.read_byte.result (omega arith) (omega arith) (omega (arith, length-bits c.args.bytes.now)) all wide s.invariant.1 c.read_byte.ensures in
    omega (arith, number_room c.args.bytes.now c.args.offset _ (s.done + c.min-count.result) all wide whole)

pub loop-done-preserved : goal.loop-done-preserved
loop-done-preserved c =
    let s = c.loop-done in
    let all : c.args.offset + (s.done + c.min-count.result) ≤ length (bits c.args.bytes.now) = omega arith in
    let wide : s.done + c.min-count.result ≤ 64 = omega arith in
    let whole = read_next c.args.bytes.now c.args.offset s.done c.min-count.result c.byte_of-at.result.0 c.byte_of-at.result.1 s.number c.read_byte.result (omega arith) (omega arith) (omega (arith, length-bits c.args.bytes.now)) all wide s.invariant.1 c.read_byte.ensures in
    (omega arith, whole)
