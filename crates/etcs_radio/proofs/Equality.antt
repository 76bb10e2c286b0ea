-- `==` of heads and bodies is equality of their values.
use Rattle.std.proofs.Common.{rules}
use Rattle.etcs_bodies.specs.Equality.{IsExact}
use Rattle.etcs_bodies.specs.laws.Equality.{number_exact, flag_exact}
use Rattle.etcs_messages.proofs.Equality.{enum_exact, one, two}
use Rattle.std.specs.contracts.prelude.I16PartialEq.TheImpl as shift
use Rattle.etcs_radio.specs.contracts.body.RadioHeadPartialEq.TheImpl as head
use Rattle.etcs_radio.specs.contracts.body.Body as body_type
use Rattle.etcs_radio.specs.contracts.body.BodyPartialEq.TheImpl as body

pub head_exact : IsExact head.ghosts.eq
head_exact a b = search rules

shift_exact : IsExact shift.ghosts.eq
shift_exact a b = search rules

pub body_exact : IsExact body.ghosts.eq
body_exact a b = enum_exact body_type.enum _ (two number_exact number_exact, (one number_exact, (two number_exact number_exact, (two number_exact number_exact, (one number_exact, (two number_exact shift_exact, (one flag_exact, tt))))))) a b
