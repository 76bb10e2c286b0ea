use Rattle.std.proofs.Common.{◌≡◌, ◌^◌, ◌<◌, take}
use Rattle.etcs_packet_text.specs.Show.{hex_digits}
use Rattle.etcs_json_trees.proofs.written.pair_numbers.hex_number.Given as goal

abbrev pub invariant-loop-digit : goal.invariant-loop-digit
invariant-loop-digit l = (take l.digit-index l.text ≡ hex_digits l.digit-index l.number) × (l.number < 16 ^ l.digit-index)
