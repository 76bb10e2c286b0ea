use Rattle.etcs_tables.specs.declared.row.Way.TheVariants.{ToTrain}
use Rattle.etcs_packets.specs.PacketValues.{form}
use Rattle.etcs_packets.proofs.Outcomes.{ok_numbers}
use Rattle.etcs_packets.proofs.to_train.PacketAnyPacket.of_fields.Goals as goal

pub returns : goal.returns
returns c = ok_numbers form ToTrain c.args.nid c.args.dir c.args.fields.now c.of_number.result c.of_number.ensures
