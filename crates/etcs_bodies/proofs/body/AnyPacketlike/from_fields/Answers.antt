use Rattle.etcs_bodies.specs.laws.PacketCodes.{all_listed}
use Rattle.etcs_bodies.proofs.Made.{made_is}
use Rattle.etcs_bodies.proofs.body.AnyPacketlike.from_fields.Goals as goal

pub returns-clause-some : goal.returns-clause-some
returns-clause-some g c = made_is c.read.result (rw c.new.ensures at c.read.ensures.some) (all_listed g.met.P.Body.codes c.args.dir c.args.fields.now)
