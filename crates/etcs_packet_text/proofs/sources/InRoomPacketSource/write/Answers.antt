use Rattle.std.proofs.Common.{◌≡◌, ◌∙◌, [], ap, subst}
use Rattle.etcs_bits.specs.Bits.{bits}
use Rattle.etcs_sequence.specs.AtOnce.{Holds, RunAt, RunIs}
use Rattle.etcs_packet_text.specs.Writings.{IsWritten, text_before}
use Rattle.etcs_packet_text.proofs.Rooms.{all_taken, run_has}
use Rattle.etcs_packet_text.proofs.Writings.{written_on}
use Rattle.etcs_packet_text.proofs.sources.InRoomPacketSource.write.Goals as goal

pub returns-in-Some-All-clause-some : goal.returns-in-Some-All-clause-some
returns-in-Some-All-clause-some g c =
    let w = g.W.PacketPage in
    let laws = g.met.W.PacketPage in
    let s = c.args.self.now in
    let page = c.args.page.now in
    let before = c.on-store.result in
    let after = c.take_run-run.new.store in
    let and_packet = w.and_packet g.P.AnyPacket.WAY in
    let holds : Holds = λ vs f k. (f ≡ []) × (k ≡ []) × IsWritten w.text w.ends and_packet after.place after.page vs in
    let left = c.in-Some-All.left in
    let run : RunAt s.carrier s.room holds (bits s.piece.now) s.at left = all_taken (RunIs s.carrier s.room holds (bits s.piece.now) s.at) c.take_run-run.result c.in-Some-All.field-0 left c.in-Some-All.is (rw c.in-Some-All.is at c.in-Some-All.field-0-is) c.take_run-run.ensures.run in
    let place : w.ends page before.place = subst (λ (p : g.row.W.Denot). w.ends p before.place) c.take.ensures c.on-store.ensures.place in
    let stays = c.take_run-run.ensures.before ∙ ap (λ (p : g.row.W.Denot). text_before before.place (w.text p)) (c.on-store.ensures.page ∙ c.take.ensures) in
    let is = written_on w.text w.ends and_packet before.place after.place page after.page run.packets laws.ends_len laws.ends_one place stays run.held.2 in
    (run.packets, run_has s.carrier s.room s.at left holds (bits s.piece.now) c.last.result run c.last.ensures, c.into_page.ensures ∙ is)
