use Rattle.etcs_messages.proofs.Sizes.{zero_padding}
use Rattle.etcs_messages.proofs.message.MessageOf.new.Goals as goal

pub returns-clause-fits : goal.returns-clause-fits
returns-clause-fits g c = rw (← zero_padding g.H.Packet.AnyPacket.WAY g.H.Head.head g.B.Own.own g.H.Packet.AnyPacket.form c.args.head c.args.body c.args.packets.items) c.with_padding.ensures.fits

pub returns-clause-fault : goal.returns-clause-fault
returns-clause-fault g c = rw (← zero_padding g.H.Packet.AnyPacket.WAY g.H.Head.head g.B.Own.own g.H.Packet.AnyPacket.form c.args.head c.args.body c.args.packets.items) c.with_padding.ensures.fault
