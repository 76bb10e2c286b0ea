use Rattle.std.proofs.Common.{◌≡◌, take, length}
use Rattle.etcs_bits.specs.Texts.{digits}
use Rattle.etcs_bits.proofs.bits.Bits.from_digits.Given as goal

abbrev pub invariant-loop-digit : goal.invariant-loop-digit
invariant-loop-digit l = (take l.digit-index l.text ≡ digits l.bits) × (length l.bits ≡ l.digit-index)
