use Rattle.std.proofs.Common.{◌≡◌, ℕ, ◌^◌, ap, arith}
use Rattle.etcs_bits.specs.Bits.{value, part}
use Rattle.etcs_bits.proofs.Positions.{number_inside}
use Rattle.etcs_bits.proofs.Steps.{value-part_below}
use Rattle.etcs_bits.proofs.slice.BitSlice.number_at_end.Goals as goal

pub returns-then-width-eq0 : goal.returns-then-width-eq0
returns-then-width-eq0 c =
    let seen = c.args.self.now in
    let none : 0 ≡ value (part c.args.from c.args.width seen) = omega (arith, value-part_below c.args.from c.args.width seen c.requires.inside, ap (λ (k : ℕ). 2 ^ k) c.if-width-eq0.true) in
    number_inside c.args.from c.args.width seen 0 c.requires.inside none

pub returns : goal.returns
returns c =
    let seen = c.args.self.now in
    number_inside c.args.from c.args.width seen _ c.requires.inside (c.word_at_end.ensures c.args.width c.requires.width c.requires.inside)
