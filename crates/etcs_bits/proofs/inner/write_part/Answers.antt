use Rattle.std.proofs.Common.{◌≡◌, ◌+◌, ◌*◌, ap, ◌∙◌, arith}
use Rattle.etcs_bits.specs.Bits.{bits, num, replaced}
use Rattle.etcs_bits.proofs.Copies.{written_more}
use Rattle.etcs_bits.proofs.inner.write_part.Goals as goal

pub loop-done-preserved : goal.loop-done-preserved
loop-done-preserved c =
    let s = c.loop-done in
    let seen = c.args.slice.now in
    let x = num c.min-count.result c.chunk-number.result in
    let place : 8 * c.byte_of-at.result.0 + c.byte_of-at.result.1 ≡ c.args.start + s.done = c.byte_of-at.ensures.place in
    (omega arith, omega arith, c.write.ensures ∙ ap (λ k. replaced k x (bits s.bytes)) place ∙ written_more seen (bits c.args.bytes.now) (bits s.bytes) x c.args.start c.args.from s.done c.min-count.result (omega arith) (omega arith) (omega arith) c.chunk-number.ensures.bits s.invariant.2)
