use Rattle.std.proofs.Common.{◌+◌, ◌-◌, ◌≤◌, ◌<◌, ◌∙◌, length, arith}
use Rattle.std.specs.Prelude.{IsTrue}
use Rattle.etcs_bits.specs.Bits.{bits}
use Rattle.etcs_rows.specs.Frames.{may_be_left}
use Rattle.etcs_sequence.specs.AtOnce.{ClosesAt, WholeAt}
use Rattle.etcs_sequence.proofs.RunLemmas.{run_more, run_closed, closes_within}
use Rattle.etcs_sequence.proofs.run.take_run.Goals as goal

pub loop-store-preserved : goal.loop-store-preserved
loop-store-preserved g c =
    let a = c.args in
    let l = c.loop-store in
    let old = l.invariant in
    let n = c.in-Some.bits in
    let H = g.S.PacketSink.holds l.store in
    let H' = g.S.PacketSink.holds c.take_packet.new.store in
    let within : (0 < n) × (n ≤ l.left) = rw c.in-Some.is at c.in-Ok.ensures.within in
    let one : WholeAt a.carrier H H' (bits a.piece.now) l.place n = rw c.in-Some.is at c.in-Ok.ensures.whole in
    let may : IsTrue (may_be_left a.carrier (l.left - n)) = rw c.in-Some.is at c.in-Ok.ensures.left in
    record {
      run = run_more a.carrier a.room H H' (bits a.piece.now) a.at l.left l.place n old.run one old.here within.1;
      here = omega (arith, old.here, within.1);
      word = c.next_bits-word-in-loop-store.ensures;
      may = λ less. may;
      before = c.take_packet.ensures.before ∙ old.before;
    }

pub overflow_sub-result : goal.overflow_sub-result
overflow_sub-result g c =
    let a = c.args in
    let l = c.loop-store in
    let old = l.invariant in
    let xs = bits a.piece.now in
    let inside : l.place + l.left ≤ length xs = omega (arith, old.here, c.requires.inside) in
    let last : ClosesAt a.carrier l.left xs l.place = c.closes.ensures xs l.place old.word inside c.loop-store-test.false in
    closes_within a.carrier l.left l.place c.closing_bits.result xs last c.closing_bits.ensures

pub returns-clause-run : goal.returns-clause-run
returns-clause-run g c =
    let a = c.args in
    let l = c.loop-store in
    let old = l.invariant in
    let xs = bits a.piece.now in
    let inside : l.place + l.left ≤ length xs = omega (arith, old.here, c.requires.inside) in
    let last : ClosesAt a.carrier l.left xs l.place = c.closes.ensures xs l.place old.word inside c.loop-store-test.false in
    run_closed a.carrier a.room (g.S.PacketSink.holds l.store) xs a.at l.left l.place c.closing_bits.result old.run last old.here c.closing_bits.ensures
