use Rattle.std.proofs.Common.{ℕ, Bool, List, ◌++◌, take}
use Rattle.etcs_packets.specs.PacketValues.{PacketValue}
use Rattle.etcs_sequence.proofs.packets.absorb_numbers.Given as goal

abbrev pub invariant-loop-number : goal.invariant-loop-number
invariant-loop-number g l = record { held : (vs : List PacketValue) (f : List ℕ) (k : List Bool) → g.S.PacketSink.holds l.fn.store vs f k → g.S.PacketSink.holds l.store vs (f ++ take l.number-index l.numbers) k }
