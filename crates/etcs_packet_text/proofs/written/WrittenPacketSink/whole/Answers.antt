use Rattle.std.proofs.Common.{◌≡◌, ◌≤◌, ◌∙◌, ap, length, refl, subst, sym}
use Rattle.std.proofs.Math.Bridge.{le_prop}
use Rattle.std.proofs.lemmas.Result.{IfOk-weaker}
use Rattle.etcs_bits.specs.Bits.{bits, part}
use Rattle.etcs_packets.specs.PacketValues.{typed}
use Rattle.etcs_sequence.proofs.Values.{one_by_bits}
use Rattle.etcs_packet_text.proofs.Writings.{one_written}
use Rattle.etcs_packet_text.proofs.written.WrittenPacketSink.whole.Goals as goal

pub returns-clause-packet : goal.returns-clause-packet
returns-clause-packet g c = IfOk-weaker c.write_whole.result _ _ (λ b h yes.
    (let (r, framed, is, sent) = h yes in (typed c.args.nid c.args.dir r, ((refl, refl), (framed, is))))) c.write_whole.ensures.written

pub returns-clause-held : goal.returns-clause-held
returns-clause-held g c = IfOk-weaker c.write_whole.result _ _ (λ b h yes vs v (f, k, s) v-typed v-is v-has.
    (let a = c.args in
    let w = g.W.PacketPage in
    let way = g.P.AnyPacket.WAY in
    let old = a.self.now in
    let new = c.write_whole.new.page in
    let (r, framed, is, sent) = h yes in
    let one = one_by_bits way a.nid a.dir (part a.at a.len (bits a.piece.now)) v (typed a.nid a.dir r) (λ no. no (framed.0, framed.1)) v-is v-typed v-has framed (refl, refl) is in
    (refl, refl, one_written w.text w.ends (w.and_packet way) old.place old.page new vs v old.inside c.write_whole.ensures.begins s (sent ∙ ap (w.and_packet way old.page) (sym one))))) c.write_whole.ensures.written

pub returns-clause-none : goal.returns-clause-none
returns-clause-none g c = IfOk-weaker c.write_whole.result _ _ (λ b h no.
    (let s = c.args.self.now in
    subst (λ (q : g.row.W.Denot). (inside : s.place.len ≤ length (g.W.PacketPage.text q)) → record s { page = q; inside = inside } ≡ s) (sym (h no)) (λ inside i. record s { inside = le_prop inside s.inside i }) _)) c.write_whole.ensures.none
