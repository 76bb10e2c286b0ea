use Rattle.etcs_tables.specs.declared.row.Way.TheVariants.{ToTrain}
use Rattle.etcs_packets.specs.PacketValues.{form}
use Rattle.etcs_packets.proofs.Outcomes.{ok_left}
use Rattle.etcs_packets.proofs.to_train.PacketAnyPacket.of_source.Goals as goal

pub returns : goal.returns
returns g c = ok_left form ToTrain c.args.nid c.args.dir (g.S.Source.left c.args.source.now) c.of_number.result c.of_number.ensures
