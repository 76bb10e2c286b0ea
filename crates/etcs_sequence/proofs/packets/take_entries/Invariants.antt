use Rattle.std.specs.Prelude.{◌≡◌}
use Rattle.etcs_bits.specs.Bits.{bits}
use Rattle.etcs_sequence.specs.Leaps.{EntriesTo}
use Rattle.etcs_sequence.proofs.packets.take_entries.Given as goal

abbrev pub invariant-loop-count : goal.invariant-loop-count
invariant-loop-count g l = record {
  taken : EntriesTo l.fn.row.place l.fn.row.len (bits l.fn.piece) l.at l.taken l.run.rest.place l.run.rest.len (g.S.PacketSink.holds l.fn.store) (g.S.PacketSink.holds l.store);
  none : l.taken ≡ 0 → l.store ≡ l.fn.store;
}

abbrev pub decreases-loop-count : goal.decreases-loop-count
decreases-loop-count g l = l.run.rest.len
