use Rattle.std.proofs.Common.{◌≡◌, ◌+◌, ◌-◌, ◌≤◌}
use Rattle.etcs_bits.specs.Bits.{bits, part, replaced}
use Rattle.etcs_bits.proofs.inner.write_part.Given as goal

abbrev pub invariant-loop-done : goal.invariant-loop-done
invariant-loop-done l =
    (l.from ≤ l.done) × (l.done ≤ l.end) × (bits l.bytes ≡ replaced (l.start + l.from) (part l.from (l.done - l.from) l.slice) (bits l.fn.bytes))

abbrev pub decreases-loop-done : goal.decreases-loop-done
decreases-loop-done l = l.end - l.done
