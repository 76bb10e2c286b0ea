use Rattle.etcs_bits.proofs.SliceEquality.{same_numbers}
use Rattle.etcs_bits.proofs.slice_equality.same_part.Goals as goal

pub returns : goal.returns
returns c = same_numbers c.args.count c.chunk.result c.chunk-2.result _ _ c.chunk.ensures.fits c.chunk-2.ensures.fits c.chunk.ensures.bits c.chunk-2.ensures.bits
