use Rattle.std.proofs.Common.{arith, ◌+◌, ◌-◌, ◌/◌, ◌%◌, sym, ◌∙◌, inl, inr}
use Rattle.std.proofs.lemmas.Bool.{both_ways, iff_false}
use Rattle.etcs_rows.proofs.Ranges.{flag_has, has_flag, has_between, part_has, some_part}
use Rattle.etcs_rows.proofs.length_set.any_between.Goals as goal
use Rattle.etcs_rows.proofs.length_set.any_between.Goals.{then-has_bit, else-has_bit}

pub returns-then-first-last : goal.returns-then-first-last
returns-then-first-last c =
    let words = c.args.words.now in let low = c.args.low in let high = c.args.high in
    let same = c.if-first-last.true in (
      λ h. flag_has words (low / 64) (low % 64) (high % 64) low high (omega arith) (omega arith) (omega arith) (c.has_bit.ensures.0 h),
      λ (m, has, over, under). c.has_bit.ensures.1 (has_flag words m (low / 64) (low % 64) (high % 64) has (omega (arith, over, under, same)) (omega (arith, over, under, same)) (omega (arith, over, under, same))),
    )

pub returns-then-has_bit-2 : goal.returns-then-has_bit-2
returns-then-has_bit-2 c =
    let words = c.args.words.now in let low = c.args.low in let high = c.args.high in
    let later = c.if-first-last.false in (
      λ h. elim c.if-has_bit.branch [
        | then-has_bit w ↦ flag_has words (low / 64) (low % 64) 63 low high (omega arith) (omega arith) (omega arith) (c.has_bit-2.ensures.0 w.if-has_bit.true)
        | else-has_bit w ↦ flag_has words (high / 64) 0 (high % 64) low high (omega arith) (omega arith) (omega arith) (w.has_bit-else-has_bit.ensures.0 (sym w.value-is ∙ h))
      ],
      λ h. c.if-has_bit-2.true,
    )

pub returns-else-has_bit-2 : goal.returns-else-has_bit-2
returns-else-has_bit-2 c =
    let words = c.args.words.now in let low = c.args.low in let high = c.args.high in
    let from = low / 64 + 1 in let n = high / 64 - from in
    let later = c.if-first-last.false in (
      λ h. part_has words from n low high c.fits-words (omega arith) (omega arith) (omega arith) (c.any_bit.ensures.0 h),
      λ h. elim (has_between words low high h) [
        | inl edge ↦ absurd (elim c.if-has_bit.branch [
          | then-has_bit w ↦ both_ways c.if-has_bit.value c.if-has_bit-2.false (w.value-is ∙ w.if-has_bit.true)
          | else-has_bit w ↦ elim edge [
            | inl first ↦ iff_false c.has_bit-2.ensures w.if-has_bit.false first
            | inr last ↦ iff_false w.has_bit-else-has_bit.ensures (sym w.value-is ∙ c.if-has_bit-2.false) last
          ]
        ])
        | inr (i, over, under, some) ↦ c.any_bit.ensures.1 (some_part words from n (omega arith) i over (omega (arith, under)) some)
      ],
    )
