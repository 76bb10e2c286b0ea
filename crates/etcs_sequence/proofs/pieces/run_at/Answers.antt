use Rattle.std.proofs.Common.{◌≡◌, ◌+◌, ◌≤◌, length, ap, sym, ◌∙◌, arith}
use Rattle.etcs_bits.specs.Bits.{bits, part}
use Rattle.etcs_bits.proofs.Positions.{length-bits}
use Rattle.etcs_bits.proofs.Lists.{length-part}
use Rattle.etcs_sequence.proofs.pieces.run_at.Goals as goal

pub overflow_mul-piece : goal.overflow_mul-piece
overflow_mul-piece c = omega (arith, c.requires.small, length-bits c.args.piece.now)

pub overflow_sub-piece : goal.overflow_sub-piece
overflow_sub-piece c = omega (arith, c.requires.inside, length-bits c.args.piece.now)

pub bits_at-requires : goal.bits_at-requires
bits_at-requires c = omega (arith, c.min-count.ensures, c.requires.inside, length-bits c.args.piece.now)

pub returns : goal.returns
returns c =
    let n = c.min-count.result in
    let xs = bits c.args.piece.now in
    let inside : c.args.at + n ≤ length xs = omega (arith, c.min-count.ensures, c.requires.inside, length-bits c.args.piece.now) in
    let size : length c.bits_at.result ≡ n = ap length c.bits_at.ensures ∙ length-part c.args.at n xs inside in
    record {
      bits = c.bits_at.ensures ∙ ap (λ k. part c.args.at k xs) (sym size);
      within = omega (arith, size, c.min-count.ensures);
      inside = omega (arith, size, inside);
      some = omega (arith, size, c.min-count.ensures, c.requires.inside, length-bits c.args.piece.now);
    }
