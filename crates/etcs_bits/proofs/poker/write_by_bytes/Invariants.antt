use Rattle.std.proofs.Common.{◌≡◌, ◌-◌, ◌/◌, ◌^◌, ◌≤◌}
use Rattle.etcs_bits.specs.Bits.{num, bits, replaced}
use Rattle.etcs_bits.proofs.poker.write_by_bytes.Given as goal

abbrev pub invariant-loop-left : goal.invariant-loop-left
invariant-loop-left l =
    (l.left ≤ l.width) × (bits l.bytes ≡ replaced l.offset (num (l.width - l.left) (l.value / 2 ^ l.left)) (bits l.fn.bytes))

abbrev pub decreases-loop-left : goal.decreases-loop-left
decreases-loop-left l = l.left
