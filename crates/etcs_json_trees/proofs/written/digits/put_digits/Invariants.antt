use Rattle.std.proofs.Common.{◌≡◌, ◌++◌, Bool, List, length, map}
use Rattle.etcs_packet_text.specs.Show.{bit_digit}
use Rattle.etcs_json_trees.proofs.written.digits.put_digits.Given as goal

abbrev pub invariant-loop-block : goal.invariant-loop-block
invariant-loop-block l = (b : List Bool) × (l.digits ≡ map bit_digit b ++ l.left) × (l.out ≡ l.fn.out ++ b)

abbrev pub decreases-loop-block : goal.decreases-loop-block
decreases-loop-block l = length l.left
