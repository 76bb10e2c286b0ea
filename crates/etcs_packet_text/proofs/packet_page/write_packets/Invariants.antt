use Rattle.std.proofs.Common.{◌≡◌, fold, map, take}
use Rattle.etcs_packet_text.specs.Fronts.{Begins}
use Rattle.etcs_packet_text.proofs.packet_page.write_packets.Given as goal

abbrev pub invariant-loop-packet : goal.invariant-loop-packet
invariant-loop-packet g l = record {
  written : l.page ≡ fold (g.W.PacketPage.and_packet g.P.AnyPacket.WAY) l.fn.page (map (λ p. (g.P.AnyPacket.form p).value) (take l.packet-index l.packets));
  begins : Begins (g.W.PacketPage.text l.fn.page) (g.W.PacketPage.text l.page);
}
