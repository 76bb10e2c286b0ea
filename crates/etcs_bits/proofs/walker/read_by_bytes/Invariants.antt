use Rattle.std.proofs.Common.{◌-◌, ◌≡◌, ◌≤◌}
use Rattle.etcs_bits.specs.Bits.{value, bits, part}
use Rattle.etcs_bits.proofs.walker.read_by_bytes.Given as goal

abbrev pub invariant-loop-done : goal.invariant-loop-done
invariant-loop-done l = (l.done ≤ l.width) × (l.number ≡ value (part l.offset l.done (bits l.bytes)))

abbrev pub decreases-loop-done : goal.decreases-loop-done
decreases-loop-done l = l.width - l.done
