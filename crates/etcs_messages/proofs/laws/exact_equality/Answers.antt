use Rattle.std.proofs.Common.{refl}
use Rattle.etcs_bodies.specs.laws.Equality.{number_exact, flag_exact, list_exact, both_exact, fields_exact}
use Rattle.etcs_messages.specs.contracts.message.Content as content
use Rattle.etcs_messages.specs.declared.message.Content.{Content}
use Rattle.etcs_messages.specs.Readings.{bytes_of}
use Rattle.etcs_messages.proofs.Equality.{enum_exact, two, four}
use Rattle.etcs_messages.proofs.laws.exact_equality.Goals as goal

pub returns : goal.returns
returns g c =
    rw c.eq.ensures
    (fields_exact (λ (m : Content _ _ _). (m, bytes_of g.H.Packet.AnyPacket.WAY g.B.Own.own g.H.Packet.AnyPacket.form m)) (λ p. p.0) (λ m. refl)
    (both_exact (enum_exact (content.enum g.row.H g.row.B g.row.H-Packet) _ (four c.requires.head c.requires.own (list_exact c.requires.packets) number_exact, (two number_exact (list_exact flag_exact), tt))) number_exact)
    c.args.first.now c.args.second.now)
