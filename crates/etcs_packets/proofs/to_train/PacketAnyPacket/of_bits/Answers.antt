use Rattle.etcs_tables.specs.declared.row.Way.TheVariants.{ToTrain}
use Rattle.etcs_packets.specs.PacketValues.{form}
use Rattle.etcs_packets.proofs.Outcomes.{ok_bits}
use Rattle.etcs_packets.proofs.to_train.PacketAnyPacket.of_bits.Goals as goal

pub returns : goal.returns
returns c = ok_bits form ToTrain c.args.nid c.args.dir c.args.body c.of_number.result c.of_number.ensures
