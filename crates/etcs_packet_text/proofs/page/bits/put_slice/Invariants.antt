use Rattle.std.proofs.Common.{◌≡◌, ◌+◌, ◌-◌, ◌≤◌, ◌++◌, length, take, map}
use Rattle.etcs_packet_text.specs.Show.{bit_digit}
use Rattle.etcs_packet_text.proofs.page.bits.put_slice.Given as goal

abbrev pub invariant-loop-from : goal.invariant-loop-from
invariant-loop-from l =
    (l.from ≤ length l.bits) × (l.end ≡ l.at + l.from) × (length l.place ≡ length l.fn.place)
    × (take l.end l.place ≡ take l.at l.fn.place ++ map bit_digit (take l.from l.bits))

abbrev pub decreases-loop-from : goal.decreases-loop-from
decreases-loop-from l = length l.bits - l.from
