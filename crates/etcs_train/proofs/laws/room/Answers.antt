use Rattle.std.proofs.Common.{refl}
use Rattle.etcs_train.specs.Bodies.{head_variables}
use Rattle.etcs_train.proofs.laws.room.Goals as goal

pub returns : goal.returns
returns c = λ nid len head row body vs found admitted.
    let (number, (length, (time, (engine, none)))) = admitted in
    c.room.ensures nid len (head_variables head) row body vs found (_, _, time, refl, (_, _, engine, refl, refl)) admitted
