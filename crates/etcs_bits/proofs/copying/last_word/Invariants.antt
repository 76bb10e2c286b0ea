use Rattle.std.proofs.Common.{◌≡◌, take}
use Rattle.etcs_bits.specs.Bits.{value, bits}
use Rattle.etcs_bits.proofs.copying.last_word.Given as goal

abbrev pub invariant-loop-byte : goal.invariant-loop-byte
invariant-loop-byte l = l.word ≡ value (bits (take l.byte-index l.bytes))
