use Rattle.std.proofs.Common.{◌≡◌, length, None, ◌∙◌}
use Rattle.etcs_flat.specs.Others.{other_fault}
use Rattle.etcs_sequence.proofs.RunLemmas.{kept_at}
use Rattle.etcs_sequence.proofs.run.keep_packet.Goals as goal

pub keep-requires : goal.keep-requires
keep-requires g c = rw (c.requires.way, c.len.ensures) at c.in-Ok.ensures.ok

pub returns-clause-whole : goal.returns-clause-whole
returns-clause-whole g c = λ yes carrier xs at l to frame within same.
    (let a = c.args in
    let body = a.body.now in
    let H = g.S.PacketSink.holds a.store.now in
    let H' = g.S.PacketSink.holds c.keep.new.self in
    let way = c.requires.way in
    let fine : other_fault g.S.PacketSink.WAY a.nid a.dir (length body) ≡ None = rw (way, c.len.ensures) at c.in-Ok.ensures.ok in
    kept_at g.S.PacketSink.WAY carrier (to ∙ way) H H' xs at l a.nid a.dir body frame within same fine (λ vs h. c.in_ok-keep.ensures.ok vs h))
