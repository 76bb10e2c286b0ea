use Rattle.std.proofs.Common.{◌∙◌}
use Rattle.etcs_bits.specs.Bits.{bits, part}
use Rattle.etcs_sequence.proofs.Values.{HasRow, typed_row, one_by_bits, more_made}
use Rattle.etcs_sequence.proofs.list.PacketListPacketSink.whole.Goals as goal

pub returns-in_ok-put-in-Ok-Some-clause-row : goal.returns-in_ok-put-in-Ok-Some-clause-row
returns-in_ok-put-in-Ok-Some-clause-row g c = λ found.
    (let p = c.in-Ok-Some.packet in
    typed_row g.P.AnyPacket.WAY c.args.nid c.args.dir (g.P.AnyPacket.form p).value (rw c.in-Ok-Some.field-0-is at c.in-Ok-Some.ensures.typed) c.hold.ensures.packet)

pub returns-in_ok-put-in-Ok-Some-clause-held : goal.returns-in_ok-put-in-Ok-Some-clause-held
returns-in_ok-put-in-Ok-Some-clause-held g c = λ found vs v (is, (made, rest)) v-typed v-is v-has.
    (let way = g.P.AnyPacket.WAY in
    let p = c.in-Ok-Some.packet in
    let value = (g.P.AnyPacket.form p).value in
    let row = typed_row way c.args.nid c.args.dir value (rw c.in-Ok-Some.field-0-is at c.in-Ok-Some.ensures.typed) c.hold.ensures.packet in
    let has : ¬ (¬ HasRow way c.args.nid) = λ no. no row in
    let some = rw c.in-Ok-Some.field-0-is at c.in-Ok-Some.ensures.some in
    let one = one_by_bits way c.args.nid c.args.dir (part c.args.at c.args.len (bits c.args.piece.now)) v value has v-is v-typed v-has c.hold.ensures.packet some.0 (some.1 ∙ c.bits_at.ensures) in
    let both = more_made g.P.AnyPacket.form c.args.self.now.packets.items c.put.new.packets.items p vs v c.in_ok-put-in-Ok-Some.ensures is made one c.hold.ensures.made in
    (both.0, (both.1, rest)))
