use Rattle.std.proofs.Common.{sym}
use Rattle.std.proofs.lemmas.Result.{on_ok_weaker}
use Rattle.etcs_packets.specs.PacketValues.{marker}
use Rattle.etcs_sequence.proofs.Values.{more_made}
use Rattle.etcs_sequence.proofs.list.PacketListPacketSink.marker.Goals as goal

pub returns-in-Some-clause-ok : goal.returns-in-Some-clause-ok
returns-in-Some-clause-ok g c = on_ok_weaker c.put.result (λ put admitted vs (is, (made, rest)).
    (let p = c.in-Some.packet in
    let both = more_made g.P.AnyPacket.form c.args.self.now.packets.items c.put.new.packets.items p vs (marker c.args.number) put is made (sym c.in-Some.ensures.value) c.in-Some.ensures.made in
    (both.0, (both.1, rest)))) c.put.ensures
