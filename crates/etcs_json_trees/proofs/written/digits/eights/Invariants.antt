use Rattle.std.proofs.Common.{◌≡◌, ◌-◌, ◌%◌, ◌^◌, ◌<◌, ◌≤◌, ◌++◌, length, map}
use Rattle.etcs_bits.specs.Bits.{num}
use Rattle.etcs_packet_text.specs.Show.{bit_digit}
use Rattle.etcs_json_trees.proofs.written.digits.eights.Given as goal

abbrev pub invariant-loop-eight : goal.invariant-loop-eight
invariant-loop-eight l =
    (length l.left ≤ length l.digits) × (length l.left % 8 ≡ length l.digits % 8)
    × (l.number < 2 ^ (length l.digits - length l.left))
    × (l.digits ≡ map bit_digit (num (length l.digits - length l.left) l.number) ++ l.left)

abbrev pub decreases-loop-eight : goal.decreases-loop-eight
decreases-loop-eight l = length l.left
