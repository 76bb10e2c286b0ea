use Rattle.std.proofs.Common.{refl, ◌∙◌, arith}
use Rattle.etcs_bits.specs.Bits.{num}
use Rattle.etcs_bits.proofs.Positions.{length-bits}
use Rattle.etcs_vars.specs.declared.var.Var.TheVariants.{PADDING}
use Rattle.etcs_vars.specs.Reading.{kept}
use Rattle.etcs_sequence.specs.laws.BitLaws.{bits_spelled}
use Rattle.etcs_messages.proofs.RestStands.{padding_parts}
use Rattle.etcs_messages.proofs.rest.MessageRest.leap_padding.Goals as goal

pub overflow_mul-piece : goal.overflow_mul-piece
overflow_mul-piece g c = omega (arith, c.requires.small, length-bits c.args.piece.now)

pub overflow_sub-piece : goal.overflow_sub-piece
overflow_sub-piece g c = omega (arith, c.requires.inside, length-bits c.args.piece.now)

pub number_at-requires-clause-inside : goal.number_at-requires-clause-inside
number_at-requires-clause-inside g c = omega (arith, c.min-count.ensures, c.requires.inside, length-bits c.args.piece.now)

pub returns : goal.returns
returns g c =
    let pos = (padding_parts c.args.self.now c.args.left c.requires.phase).0 in
    let t = num c.min-count.result c.number_at.result in
    record {
      some = omega (arith, c.min-count.ensures, pos, c.requires.inside, length-bits c.args.piece.now);
      inside = omega (arith, c.min-count.ensures, c.requires.inside, length-bits c.args.piece.now);
      goes = c.pad.ensures.goes;
      whole = kept PADDING t;
      follows = c.pad.ensures.follows;
      bits = bits_spelled PADDING t refl ∙ c.number_at.ensures.bits;
    }
