use Rattle.std.proofs.Common.{◌≡◌, ◌+◌, ◌*◌, ◌/◌, ◌%◌, ap, ◌∙◌, arith}
use Rattle.etcs_bits.specs.Bits.{num, bits, replaced}
use Rattle.etcs_bits.proofs.inner.write.Goals as goal

pub write-requires-clause-inside : goal.write-requires-clause-inside
write-requires-clause-inside c = omega (arith, c.requires.inside)

pub returns : goal.returns
returns c =
    let place : 8 * (c.args.start / 8) + c.args.start % 8 ≡ c.args.start = omega arith in
    c.write.ensures ∙ ap (λ k. replaced k (num c.args.width c.args.value) (bits c.args.bytes.now)) place
