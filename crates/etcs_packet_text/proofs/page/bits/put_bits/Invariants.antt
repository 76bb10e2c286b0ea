use Rattle.std.proofs.Common.{◌≡◌, ◌+◌, ◌-◌, ◌/◌, ◌^◌, ◌≤◌, ◌++◌, length, take, map}
use Rattle.etcs_bits.specs.Bits.{num}
use Rattle.etcs_packet_text.specs.Show.{bit_digit}
use Rattle.etcs_packet_text.proofs.page.bits.put_bits.Given as goal

abbrev pub invariant-loop-left : goal.invariant-loop-left
invariant-loop-left l =
    (l.left ≤ l.width) × (l.end + l.left ≡ l.at + l.width) × (length l.place ≡ length l.fn.place)
    × (take l.end l.place ≡ take l.at l.fn.place ++ map bit_digit (num (l.width - l.left) (l.number / 2 ^ l.left)))

abbrev pub decreases-loop-left : goal.decreases-loop-left
decreases-loop-left l = l.left
