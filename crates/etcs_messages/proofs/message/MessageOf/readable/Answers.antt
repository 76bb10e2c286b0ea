use Rattle.std.proofs.Common.{◌≡◌, ◌*◌, length, subst}
use Rattle.etcs_vars.specs.Reading.{spelled}
use Rattle.etcs_messages.specs.declared.message.Content.{Content}
use Rattle.etcs_messages.specs.Messages.{MessageReads, message_value}
use Rattle.etcs_messages.specs.Readings.{bytes_of, message_reading}
use Rattle.etcs_messages.proofs.Sizes.{message_length}
use Rattle.etcs_messages.proofs.OneReading.{message_reads}
use Rattle.etcs_messages.proofs.message.MessageOf.readable.Goals as goal

pub returns-clause-reads : goal.returns-clause-reads
returns-clause-reads g c = subst (λ (m : Content _ _ _). MessageReads g.H.Packet.AnyPacket.WAY (message_value g.H.Packet.AnyPacket.WAY g.H.Head.head g.B.Own.own g.H.Packet.AnyPacket.form m) (message_reading g.H.Packet.AnyPacket.WAY g.H.Head.head g.B.Own.own g.H.Packet.AnyPacket.form m)) c.self.view_is (message_reads g.H.Packet.AnyPacket.WAY g.H.Head.head g.B.Own.own g.H.Packet.AnyPacket.form g.met.H.Head.laws g.met.B.Own.laws c.self.inside.content c.self.invariant.0)

pub returns-clause-bytes : goal.returns-clause-bytes
returns-clause-bytes g c = subst (λ (m : Content _ _ _). length (spelled (message_reading g.H.Packet.AnyPacket.WAY g.H.Head.head g.B.Own.own g.H.Packet.AnyPacket.form m)) ≡ 8 * bytes_of g.H.Packet.AnyPacket.WAY g.B.Own.own g.H.Packet.AnyPacket.form m) c.self.view_is (message_length g.H.Packet.AnyPacket.WAY g.H.Head.head g.B.Own.own g.H.Packet.AnyPacket.form g.met.H.Head.laws g.met.B.Own.laws c.self.inside.content c.self.invariant.0)
