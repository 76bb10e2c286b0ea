use Rattle.std.proofs.Common.{◌∙◌, arith}
use Rattle.etcs_bits.specs.Bits.{bits}
use Rattle.etcs_messages.proofs.MessagesAtOnce.{kept_at_once}
use Rattle.etcs_messages.proofs.whole.kept_at.Goals as goal

pub returns-in-Ok-clause-reads : goal.returns-in-Ok-clause-reads
returns-in-Ok-clause-reads g c =
    (kept_at_once g.H.Packet.AnyPacket.WAY g.H.Head.head g.B.Own.own g.H.Packet.AnyPacket.form c.args.nid c.args.bytes c.in-Ok.bits (bits c.args.piece.now) c.requires.untyped (omega (arith, c.ranges.nid.fits)) c.requires.least c.requires.most c.requires.inside c.requires.number c.requires.length (c.in-Ok.ensures ∙ c.bits_at.ensures)).reads
