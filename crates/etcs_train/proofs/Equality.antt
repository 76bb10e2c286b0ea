-- `==` of heads and bodies is equality of their values.
use Rattle.std.proofs.Common.{rules}
use Rattle.etcs_bodies.specs.Equality.{IsExact}
use Rattle.etcs_bodies.specs.laws.Equality.{number_exact}
use Rattle.etcs_messages.proofs.Equality.{enum_exact, one, two}
use Rattle.etcs_train.specs.contracts.body.TrainHeadPartialEq.TheImpl as head
use Rattle.etcs_train.specs.contracts.body.TrainBody as body_type
use Rattle.etcs_train.specs.contracts.body.TrainBodyPartialEq.TheImpl as body

pub head_exact : IsExact head.ghosts.eq
head_exact a b = search rules

pub body_exact : IsExact body.ghosts.eq
body_exact a b = enum_exact body_type.enum _ (one number_exact, (two number_exact number_exact, (one number_exact, tt))) a b
