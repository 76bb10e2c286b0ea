use Rattle.std.specs.Bool.{one_answer}
use Rattle.etcs_bits.proofs.Equality.{same_bits}
use Rattle.etcs_bits.proofs.slice_equality.BitSlicePartialEq.eq.Goals as goal

pub returns-then-len : goal.returns-then-len
returns-then-len c = one_answer c.same_bits.result _ c.same_bits.ensures (same_bits c.args.self.now c.args.other.now)
