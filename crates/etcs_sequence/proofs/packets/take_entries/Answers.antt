use Rattle.std.proofs.Common.{refl, arith}
use Rattle.etcs_bits.specs.Bits.{bits}
use Rattle.etcs_sequence.proofs.Leaps.{on_err}
use Rattle.etcs_sequence.proofs.LeapLemmas.{entries_none, entries_more, entries_begin}
use Rattle.etcs_sequence.proofs.packets.take_entries.Goals as goal

pub loop-count-init : goal.loop-count-init
loop-count-init g c =
    let row = c.args.row.now in
    let run = c.new-run in
    record {
      taken = entries_none row.place row.len (bits c.args.piece.now) c.args.at run.result.rest.place run.result.rest.len (g.S.PacketSink.holds c.args.store.now) c.requires.inside c.requires.goes run.ensures.place run.ensures.len;
      none = λ z. refl;
    }

pub loop-count-preserved : goal.loop-count-preserved
loop-count-preserved g c =
    let row = c.args.row.now in
    let l = c.loop-count in
    let old = l.run.rest in
    let new = c.next.new.self in
    let e = c.in-Some.ensures in
    let some = e.some in
    record {
      taken = entries_more row.place row.len (bits c.args.piece.now) c.args.at l.taken old.place old.len (g.S.PacketSink.holds c.args.store.now) (g.S.PacketSink.holds l.store) c.in-Some.count new.numbers.items new.rest.place new.rest.len (g.S.PacketSink.holds c.absorb_numbers.new.store) c.as_slice.result.now l.invariant.taken e.run e.goes c.as_slice.ensures.value c.in_ok-absorb_numbers.ensures.ok;
      none = λ z. absurd (omega (arith, z, some));
    }

pub returns-in_err-absorb_numbers-clause-begun : goal.returns-in_err-absorb_numbers-clause-begun
returns-in_err-absorb_numbers-clause-begun g c =
    let row = c.args.row.now in
    let l = c.loop-count in
    let old = l.run.rest in
    let new = c.next.new.self in
    let e = c.in-Some.ensures in
    on_err c.from_residual.result (entries_begin row.place row.len (bits c.args.piece.now) c.args.at l.taken old.place old.len (g.S.PacketSink.holds c.args.store.now) (g.S.PacketSink.holds l.store) c.in-Some.count new.numbers.items new.rest.place new.rest.len l.invariant.taken e.run e.goes e.some)
