use Rattle.std.proofs.Common.{◌≡◌, ◌+◌, ◌∙◌, ℕ, ap, length, subst, sym}
use Rattle.etcs_bits.specs.Bits.{bits}
use Rattle.etcs_bits.proofs.Lists.{length-part}
use Rattle.etcs_vars.specs.Reading.{spelled}
use Rattle.etcs_tables.specs.Frames.{frame_bits}
use Rattle.etcs_packet_text.specs.Fronts.{Begins}
use Rattle.etcs_packet_text.proofs.Writings.{begins_then, typed_steps}
use Rattle.etcs_packet_text.proofs.written.write_typed.Goals as goal

pub returns-clause-written : goal.returns-clause-written
returns-clause-written g c = λ yes.
    (let a = c.args in
    let w = g.W.PacketPage in
    let way = g.P.AnyPacket.WAY in
    let (r, framed, is, sent) = c.in_ok-passed.ensures.passed c.if-not-passed.false in
    let long : length (spelled r) ≡ a.len = ap length is ∙ length-part a.at a.len (bits a.piece.now) c.requires.inside in
    let count : c.frame_bits.result + a.len ≡ frame_bits way + a.len = ap (λ (n : ℕ). n + a.len) (c.frame_bits.ensures.bits ∙ ap frame_bits c.WAY-2.ensures) in
    (r, framed, is, typed_steps way w.begun w.ended g.W.VarSink.with w.and_packet (g.met.W.PacketPage.typed_is way) a.nid a.dir a.len (c.frame_bits.result + a.len) r a.page.now c.begin.new.self c.pass_whole.new.out c.end.new.self c.WAY.result c.WAY.ensures count long c.in_ok-begin.ensures.ok sent c.in_ok-end.ensures.ok))

pub returns-then-not-passed-clause-begins : goal.returns-then-not-passed-clause-begins
returns-then-not-passed-clause-begins g c =
    let text = g.W.PacketPage.text in
    let one = c.begin.new.self in
    let (r, sent) = c.in_ok-passed.ensures.begun c.if-not-passed.true in
    let begins : Begins (text one) (text c.pass_whole.new.out) = subst (λ (p : g.row.W.Denot). Begins (text one) (text p)) (sym sent) (g.met.W.PacketPage.sent_begins one r) in
    begins_then (text c.args.page.now) (text one) (text c.pass_whole.new.out) c.in_ok-begin.ensures.begins begins

pub returns-in_err-passed-clause-begins : goal.returns-in_err-passed-clause-begins
returns-in_err-passed-clause-begins g c =
    let text = g.W.PacketPage.text in
    let one = c.begin.new.self in
    begins_then (text c.args.page.now) (text one) (text c.pass_whole.new.out) c.in_ok-begin.ensures.begins (g.met.W.PacketPage.failed_begins one c.pass_whole.new.out c.in_err-passed.ensures.err)

pub returns-clause-begins : goal.returns-clause-begins
returns-clause-begins g c =
    let text = g.W.PacketPage.text in
    let one = c.begin.new.self in
    let two = c.pass_whole.new.out in
    let (r, framed, is, sent) = c.in_ok-passed.ensures.passed c.if-not-passed.false in
    let begins : Begins (text one) (text two) = subst (λ (p : g.row.W.Denot). Begins (text one) (text p)) (sym sent) (g.met.W.PacketPage.sent_begins one r) in
    begins_then (text c.args.page.now) (text two) (text c.end.new.self) (begins_then (text c.args.page.now) (text one) (text two) c.in_ok-begin.ensures.begins begins) c.in_ok-end.ensures.begins

pub returns-in_err-end-clause-begins : goal.returns-in_err-end-clause-begins
returns-in_err-end-clause-begins g c =
    let text = g.W.PacketPage.text in
    let one = c.begin.new.self in
    let two = c.pass_whole.new.out in
    let (r, framed, is, sent) = c.in_ok-passed.ensures.passed c.if-not-passed.false in
    let begins : Begins (text one) (text two) = subst (λ (p : g.row.W.Denot). Begins (text one) (text p)) (sym sent) (g.met.W.PacketPage.sent_begins one r) in
    begins_then (text c.args.page.now) (text two) (text c.end.new.self) (begins_then (text c.args.page.now) (text one) (text two) c.in_ok-begin.ensures.begins begins) c.in_err-end.ensures.begins
