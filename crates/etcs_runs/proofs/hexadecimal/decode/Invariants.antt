use Rattle.std.proofs.Common.{◌≡◌, ◌*◌, ◌<◌, false, take, drop}
use Rattle.std.specs.List.{list_all}
use Rattle.hex.specs.Hex.{decode_pairs, is_hex_digit}
use Rattle.hex.proofs.Pairs.{prepend}
use Rattle.etcs_runs.proofs.hexadecimal.decode.Given as goal

-- while no value is too large, the pairs so far are decoded; else there is a character that is no digit
abbrev pub invariant-pairs : goal.invariant-pairs
invariant-pairs l = record {
  decoded : l.all < 256 → decode_pairs 0 l.word ≡ prepend (take l.i l.bytes) (decode_pairs (2 * l.i) (drop (2 * l.i) l.word));
  bad : 255 < l.all → false ≡ list_all is_hex_digit l.word;
}
