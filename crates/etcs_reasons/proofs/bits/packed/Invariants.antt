use Rattle.std.proofs.Common.{◌≡◌, ℕ, ◌<◌, length, get_or}
use Rattle.etcs_reasons.specs.BitDigits.{packed_byte}
use Rattle.etcs_reasons.proofs.bits.packed.Given as goal

abbrev pub invariant-loop-i : goal.invariant-loop-i
invariant-loop-i l = (length l.packed ≡ 104) × ((k : ℕ) → k < l.i → get_or l.packed k 0 ≡ packed_byte l.bytes k)
