use Rattle.std.proofs.Common.{subst}
use Rattle.etcs_messages.specs.Messages.{IsTyped, IsMessage}
use Rattle.etcs_messages.proofs.Sizes.{faultless}
use Rattle.etcs_messages.proofs.message.bytes_in.Goals as goal

pub left_after-requires : goal.left_after-requires
left_after-requires g c =
    let t = c.in-Typed in
    let typed : IsTyped g.H.Packet.AnyPacket.WAY g.H.Head.head g.B.Own.own g.H.Packet.AnyPacket.form t.head t.body t.packets t.padding = subst (IsMessage g.H.Packet.AnyPacket.WAY g.H.Head.head g.B.Own.own g.H.Packet.AnyPacket.form) t.is c.requires in
    let short = (faultless g.H.Packet.AnyPacket.WAY g.H.Head.head g.B.Own.own g.H.Packet.AnyPacket.form t.head t.body t.packets t.padding typed.no_fault).short in
    rw c.as_slice.ensures short
