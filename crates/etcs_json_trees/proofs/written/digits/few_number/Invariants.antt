use Rattle.std.proofs.Common.{◌≡◌, ◌+◌, ◌-◌, ◌^◌, ◌<◌, ◌++◌, length, drop, map}
use Rattle.etcs_bits.specs.Bits.{num}
use Rattle.etcs_packet_text.specs.Show.{bit_digit}
use Rattle.etcs_json_trees.proofs.written.digits.few_number.Given as goal

abbrev pub invariant-loop-digit : goal.invariant-loop-digit
invariant-loop-digit l =
    (l.number < 2 ^ (length l.digits - length l.left + l.digit-index))
    × (l.digits ≡ map bit_digit (num (length l.digits - length l.left + l.digit-index) l.number) ++ drop l.digit-index l.left)
