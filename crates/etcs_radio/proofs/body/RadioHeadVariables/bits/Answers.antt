use Rattle.std.proofs.Common.{refl}
use Rattle.etcs_bodies.specs.laws.Repeats.{bit_count_is}
use Rattle.etcs_radio.specs.Bodies.{head_variables}
use Rattle.etcs_radio.proofs.body.RadioHeadVariables.bits.Goals as goal

pub returns-clause-bits : goal.returns-clause-bits
returns-clause-bits c = rw (bit_count_is (head_variables c.args.self.now)) refl
