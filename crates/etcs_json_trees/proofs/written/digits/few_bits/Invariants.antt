use Rattle.std.proofs.Common.{◌≡◌, ◌^◌, ◌<◌, ◌≤◌, ◌++◌, length, map}
use Rattle.etcs_bits.specs.Bits.{num}
use Rattle.etcs_packet_text.specs.Show.{bit_digit}
use Rattle.etcs_json_trees.proofs.written.digits.few_bits.Given as goal

abbrev pub invariant-loop-byte : goal.invariant-loop-byte
invariant-loop-byte l = (l.count ≤ 7) × (l.number < 2 ^ l.count) × (l.text ≡ map bit_digit (num l.count l.number) ++ l.left)

abbrev pub decreases-loop-byte : goal.decreases-loop-byte
decreases-loop-byte l = length l.left
