use Rattle.std.proofs.Common.{◌≡◌, ◌+◌, ◌-◌, ◌*◌, ◌/◌, ◌%◌, ◌^◌, ◌≤◌, length, refl, sym, ap, ◌∙◌, arith}
use Rattle.etcs_bits.specs.Bits.{num, value, bits, part}
use Rattle.etcs_bits.proofs.Positions.{length-bits}
use Rattle.etcs_bits.proofs.Kept.{kept_word}
use Rattle.etcs_bits.proofs.NextWords.{word_front, word_num, found_inside}
use Rattle.etcs_bits.proofs.walker.next_bits_at_end.Goals as goal

pub overflow_sub-count : goal.overflow_sub-count
overflow_sub-count c = omega (arith, c.requires.inside, length-bits c.args.bytes.now)

pub overflow_sub-count-2 : goal.overflow_sub-count-2
overflow_sub-count-2 c = omega (arith, c.requires.inside, length-bits c.args.bytes.now)

pub returns-then-count-eq0 : goal.returns-then-count-eq0
unfolding num
returns-then-count-eq0 c from count most inside =
    let none : count ≡ 0 = omega (arith, c.if-count-eq0.true, c.requires.inside, inside, length-bits c.args.bytes.now) in
    rw none refl

pub unreachable-requires : goal.unreachable-requires
unreachable-requires c =
    let n = (length c.args.bytes.now - c.args.at / 8) * 8 - c.args.at % 8 in
    found_inside c.args.at n (bits c.args.bytes.now) (omega (arith, c.requires.inside, length-bits c.args.bytes.now)) (sym c.peek.ensures ∙ c.in-None.is)

pub returns : goal.returns
returns c from count most inside =
    let bs = bits c.args.bytes.now in
    let at = c.args.at in
    let n = (length c.args.bytes.now - at / 8) * 8 - at % 8 in
    let word = c.in-Some.number * 2 ^ (64 - n) % 2 ^ 64 in
    let size = length-bits c.args.bytes.now in
    let small : n ≤ 64 = omega (arith, c.requires.inside, c.requires.short) in
    let all : at + n ≡ length bs = omega (arith, c.requires.inside, size) in
    let k = kept_word c.in-Some.number n bs at small (omega (arith, all)) (sym c.peek.ensures ∙ c.in-Some.is) in
    let is : word / 2 ^ (64 - n) ≡ value (part at n bs) = k.word_is ∙ ap (λ m. value (part m n bs)) (omega arith) in
    let le : from + count ≤ n = omega (arith, all, inside) in
    word_num word bs at (from + count) from count refl inside (word_front word bs at n (from + count) le small (omega (arith, all)) is)
