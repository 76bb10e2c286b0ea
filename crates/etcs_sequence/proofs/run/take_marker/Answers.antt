use Rattle.std.proofs.Common.{◌/◌, ◌%◌, ◌^◌, refl, subst, arith}
use Rattle.std.specs.Prelude.{IsTrue}
use Rattle.etcs_tables.specs.declared.row.Way.{Way}
use Rattle.etcs_tables.specs.Frames.{is_marker}
use Rattle.etcs_sequence.proofs.RunLemmas.{marker_at}
use Rattle.etcs_sequence.proofs.run.take_marker.Goals as goal

pub returns-clause-whole : goal.returns-clause-whole
returns-clause-whole g c = λ xs at next inside.
    (let number = c.args.word / 2 ^ 50 % 64 in
    let H = g.S.PacketSink.holds c.args.store.now in
    let H' = g.S.PacketSink.holds c.marker.new.self in
    marker_at c.args.word at c.args.room number xs H H' next inside (omega (arith, c.if-room.false)) c.requires.number refl (λ admitted vs h. c.in_ok-marker.ensures.ok (subst (λ (w : Way). IsTrue (is_marker w number)) c.requires.way admitted) vs h))
