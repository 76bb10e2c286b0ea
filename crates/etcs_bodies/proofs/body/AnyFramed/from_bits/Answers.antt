use Rattle.etcs_bodies.specs.laws.PacketCodes.{all_spelled}
use Rattle.etcs_bodies.proofs.Made.{made_is}
use Rattle.etcs_bodies.proofs.body.AnyFramed.from_bits.Goals as goal

pub returns-clause-some : goal.returns-clause-some
returns-clause-some g c = made_is c.read.result (rw c.new.ensures at c.read.ensures.some) (all_spelled g.met.P.Body.codes c.args.dir c.args.bits)
