use Rattle.std.proofs.Common.{◌≡◌, ◌-◌, ◌+◌, ◌*◌, ◌≤◌, take}
use Rattle.etcs_bits.specs.Bits.{bits}
use Rattle.etcs_bits.proofs.many.Many.fill.Given as goal

abbrev pub invariant-loop-left : goal.invariant-loop-left
invariant-loop-left l =
    record {
      within : l.left ≤ l.len;
      room : l.len ≤ 8 * l.self-inside.bytes.cap;
      none : l.self-inside.len ≡ 0;
      filled : bits l.self-inside.bytes.items ≡ take (l.len - l.left) l.slice;
    }

abbrev pub decreases-loop-left : goal.decreases-loop-left
decreases-loop-left l = l.left + 1 - 64
