use Rattle.std.proofs.Common.{◌≡◌, length, refl, sym, ◌∙◌}
use Rattle.std.proofs.lemmas.Result.{on_ok_weaker}
use Rattle.etcs_flat.specs.Others.{other_fault}
use Rattle.etcs_packets.specs.PacketValues.{kept}
use Rattle.etcs_sequence.proofs.Values.{more_made, none_by}
use Rattle.etcs_sequence.proofs.list.PacketListPacketStore.kept.Goals as goal

pub of_kept-requires : goal.of_kept-requires
of_kept-requires g c = none_by (other_fault g.P.AnyPacket.WAY c.args.nid c.args.dir (length c.replace-body.result)) c.requires (λ (vs, (k, ((is, (made, (none, bits))), fine))). rw (c.replace-body.ensures.value, ← bits) fine)

pub returns-clause-ok : goal.returns-clause-ok
returns-clause-ok g c = on_ok_weaker c.put.result (λ put vs k (is, (made, (none, bits))).
    (let p = c.of_kept.result in
    let same : kept c.args.nid c.args.dir k ≡ (g.P.AnyPacket.form p).value = rw (c.of_kept.ensures.value, c.replace-body.ensures.value, bits) refl in
    let both = more_made g.P.AnyPacket.form c.args.self.now.packets.items c.put.new.packets.items p vs (kept c.args.nid c.args.dir k) put is made same c.of_kept.ensures.made in
    (both.0, (both.1, (none, sym (c.replace-body.ensures.after ∙ c.new.ensures)))))) c.put.ensures
