use Rattle.std.proofs.Common.{◌≡◌, refl}
use Rattle.std.proofs.lemmas.Result.{on_ok_weaker}
use Rattle.etcs_packets.specs.PacketValues.{kept}
use Rattle.etcs_sequence.proofs.Values.{more_made}
use Rattle.etcs_sequence.proofs.list.PacketListPacketSink.keep.Goals as goal

pub of_kept-requires : goal.of_kept-requires
of_kept-requires g c = rw (c.in_ok-bits.ensures, c.all.ensures) c.requires

pub returns-clause-ok : goal.returns-clause-ok
returns-clause-ok g c = on_ok_weaker c.put.result (λ put vs (is, (made, rest)).
    (let p = c.of_kept.result in
    let same : kept c.args.nid c.args.dir c.args.body.now ≡ (g.P.AnyPacket.form p).value = rw (c.of_kept.ensures.value, c.in_ok-bits.ensures, c.all.ensures) refl in
    let both = more_made g.P.AnyPacket.form c.args.self.now.packets.items c.put.new.packets.items p vs (kept c.args.nid c.args.dir c.args.body.now) put is made same c.of_kept.ensures.made in
    (both.0, (both.1, rest)))) c.put.ensures
