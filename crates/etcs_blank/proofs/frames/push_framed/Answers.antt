use Rattle.std.proofs.Common.{arith}
use Rattle.etcs_blank.proofs.frames.push_framed.Goals as goal

pub overflow_add-frame_bits : goal.overflow_add-frame_bits
overflow_add-frame_bits c = omega (arith, c.frame_bits.ensures.most, c.bits_of.ensures.most)
