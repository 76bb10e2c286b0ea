use Rattle.std.proofs.Common.{[], ◌∷◌, arith}
use Rattle.etcs_bits.proofs.Positions.{length-bits}
use Rattle.etcs_vars.specs.declared.var.Var.TheVariants.{OTHER_DATA}
use Rattle.etcs_sequence.proofs.BitLaws.{byte_read}
use Rattle.etcs_messages.proofs.rest.MessageRest.pass_data.Goals as goal

pub bits_at-requires : goal.bits_at-requires
bits_at-requires g c = omega (arith, length-bits (c.args.number ∷ []))

pub returns-clause-ok : goal.returns-clause-ok
returns-clause-ok g c = rw (byte_read OTHER_DATA c.args.number c.bits_at.result c.requires.small c.bits_at.ensures) at c.keep.ensures.ok
