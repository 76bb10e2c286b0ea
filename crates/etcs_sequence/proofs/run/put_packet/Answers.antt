use Rattle.std.proofs.Common.{sym, ◌∙◌}
use Rattle.etcs_sequence.proofs.LeapLemmas.{whole_at}
use Rattle.etcs_sequence.proofs.run.put_packet.Goals as goal

pub returns-then-typed-clause-whole : goal.returns-then-typed-clause-whole
returns-then-typed-clause-whole g c = λ yes carrier xs at l to frame within same.
    (let a = c.args in
    let e = c.in_ok-typed.ensures in
    let is = c.if-typed.true in
    let (v, (typed, (fine, bits))) = e.packet is in
    whole_at g.S.PacketSink.WAY carrier (to ∙ c.requires.way) (g.S.PacketSink.holds a.store.now) (g.S.PacketSink.holds c.whole.new.self) xs at l a.nid a.dir frame within (λ vs u h t f b. e.held is vs u h t f (b ∙ sym same)) v typed fine (bits ∙ same))

pub returns-clause-whole : goal.returns-clause-whole
returns-clause-whole g c = rw (c.bits_at.ensures, c.in_ok-typed.ensures.none c.if-typed.false) at c.keep_packet.ensures.whole

pub returns-clause-before : goal.returns-clause-before
returns-clause-before g c = c.keep_packet.ensures.before ∙ c.whole.ensures.before
