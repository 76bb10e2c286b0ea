use Rattle.std.proofs.Common.{refl, sym, ◌∙◌}
use Rattle.etcs_packets.specs.PacketValues.{packet_value}
use Rattle.etcs_sequence.proofs.KindBits.{typed_least, typed_inside, typed_made}
use Rattle.etcs_sequence.proofs.kinds.typed_packet.Goals as goal

pub direction-requires : goal.direction-requires
direction-requires c = typed_least c.args.nid c.args.bits.now c.requires

pub body-requires : goal.body-requires
body-requires c = typed_least c.args.nid c.args.bits.now c.requires

pub unreachable-requires : goal.unreachable-requires
unreachable-requires c =
    let t = typed_inside c.args.nid c.args.bits.now c.requires c.direction.result c.direction.ensures in
    let none = rw c.in-Ok-None.field-0-is at c.in-Ok-None.ensures.none in
    none refl c.requires.1 t.0 (t.1 ∙ sym c.body.ensures)

pub returns-in-Ok-Some-clause-bits : goal.returns-in-Ok-Some-clause-bits
returns-in-Ok-Some-clause-bits c =
    let s = rw c.in-Ok-Some.field-0-is at c.in-Ok-Some.ensures.some in
    typed_made c.args.nid c.args.bits.now c.requires (packet_value c.in-Ok-Some.packet) c.direction.result c.direction.ensures c.hold.ensures.packet s.0 (s.1 ∙ c.body.ensures)
