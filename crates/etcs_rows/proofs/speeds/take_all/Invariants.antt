use Rattle.std.proofs.Common.{◌≡◌, ℕ, ◌+◌, ◌*◌, List, ◌++◌}
use Rattle.arrayvec.specs.ArrayVec.{array_vec_len}
use Rattle.etcs_bits.specs.Bits.{bits}
use Rattle.etcs_rows.proofs.EntryLemmas.{TakenAll}
use Rattle.etcs_rows.proofs.speeds.take_all.Given as goal

abbrev pub invariant-loop-index : goal.invariant-loop-index
invariant-loop-index l = record {
  len : array_vec_len l.numbers ≡ array_vec_len l.fn.numbers + 3 * l.index;
  taken : (f : List ℕ) × (l.numbers.items ≡ l.fn.numbers.items ++ f) × TakenAll l.count l.index (bits l.fn.piece) l.at f;
}
