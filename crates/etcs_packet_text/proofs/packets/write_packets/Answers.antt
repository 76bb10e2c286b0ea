use Rattle.std.proofs.Common.{◌∙◌, map}
use Rattle.etcs_packet_text.specs.laws.LineSinks.{packets_lines}
use Rattle.etcs_packet_text.proofs.packets.write_packets.Goals as goal

pub returns-clause-ok : goal.returns-clause-ok
returns-clause-ok g c = c.in_ok-write_packets.ensures.ok ∙ packets_lines g.P.AnyPacket.WAY c.args.page.now (map (λ p. (g.P.AnyPacket.form p).value) c.args.packets.now)
