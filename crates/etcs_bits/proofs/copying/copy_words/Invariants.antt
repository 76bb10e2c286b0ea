use Rattle.std.proofs.Common.{◌≡◌, ◌-◌, ◌*◌, ◌≤◌}
use Rattle.etcs_bits.specs.Bits.{bits, part, replaced}
use Rattle.etcs_bits.proofs.copying.copy_words.Given as goal

abbrev pub invariant-loop-done : goal.invariant-loop-done
invariant-loop-done l =
    (l.done ≤ l.words) × (bits l.to ≡ replaced 0 (part l.offset (64 * l.done) (bits l.bytes)) (bits l.fn.to))

abbrev pub decreases-loop-done : goal.decreases-loop-done
decreases-loop-done l = l.words - l.done
