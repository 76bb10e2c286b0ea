use Rattle.std.proofs.Common.{refl, sym, ap, ◌∙◌, arith, Some}
use Rattle.std.proofs.lemmas.List.{take_all}
use Rattle.etcs_bits.proofs.DigitTexts.{not_bit, one_bits}
use Rattle.etcs_bits.proofs.bits.Bits.from_digits.Goals as goal

pub returns-in-None-clause-only : goal.returns-in-None-clause-only
returns-in-None-clause-only c = λ b e.
    absurd (not_bit c.args.text.now c.loop-digit.digit-index _ b (omega arith) refl e (λ bit k. (let f = c.in-None.ensures.only bit k in absurd cc)))

pub returns-clause-only : goal.returns-clause-only
returns-clause-only c = λ b e.
    (let all = take_all c.loop-digit.digit-index c.args.text.now (omega arith) in
    ap Some (one_bits c.loop-digit.bits b (sym c.loop-digit.invariant.0 ∙ all ∙ e)))
