use Rattle.std.proofs.Common.{◌≡◌, ℕ, ◌+◌, ◌-◌, ap, ◌∙◌, arith}
use Rattle.etcs_bits.specs.Bits.{bits, number_at}
use Rattle.etcs_vars.specs.Vars.{width}
use Rattle.etcs_rows.proofs.refused.refusal_by.Goals as goal

pub overflow_sub-at : goal.overflow_sub-at
overflow_sub-at c = omega (arith, c.requires.within)

pub cause-requires-clause-fits : goal.cause-requires-clause-fits
cause-requires-clause-fits c =
    let h = c.requires.block.numbers in
    let back : width c.args.var - (c.width.result - c.args.block.count) ≡ c.args.block.count = omega (arith, h.short, c.width.ensures) in
    rw back h.fits

pub cause-requires-clause-none : goal.cause-requires-clause-none
cause-requires-clause-none c = rw c.width.ensures c.requires.block.numbers.none

pub returns-clause-number : goal.returns-clause-number
returns-clause-number c =
    let xs = bits c.args.bytes.now in
    let at : c.args.bit - (c.args.block.count - 1) ≡ c.args.bit + 1 - c.args.block.count = omega (arith, c.requires.block.numbers.some) in
    c.peek.ensures ∙ ap (λ (k : ℕ). number_at k c.width-2.result xs) at ∙ ap (λ (k : ℕ). number_at (c.args.bit + 1 - c.args.block.count) k xs) c.width-2.ensures

pub returns-clause-reasons : goal.returns-clause-reasons
returns-clause-reasons c =
    let h = c.requires.block.numbers in
    record {
      none = h.none;
      cause = rw c.width.ensures at c.cause.ensures;
      below = h.below;
      above = h.above;
    }
