-- What the reader asks of bits that are kept, with more after them.
use Rattle.std.proofs.Common.{◌≡◌, ℕ, ◌-◌, ◌^◌, ◌<◌, Some, refl}
use Rattle.etcs_vars.specs.declared.var.Var.{Var}
use Rattle.etcs_vars.specs.declared.var.Var.TheVariants.{OTHER_DATA}
use Rattle.etcs_vars.specs.Vars.{width}
use Rattle.etcs_vars.specs.Reading.{Reading, Then}
use Rattle.etcs_sequence.specs.Contents.{KeptIn}
use Rattle.etcs_reader.specs.Rests.{Starts, Goes}
use Rattle.etcs_sequence.specs.laws.BitLaws.{bits_begin, bits_start}
use Rattle.etcs_sequence.proofs.ThenLaws.{then_starts}

-- each bit continues
pub kept_starts : (left : ℕ) (Q : Reading → Type 0) (x : Var) (rest number : ℕ) → Some OTHER_DATA ≡ Some x → 0 < left → Goes Q → rest < width x → number < 2 ^ (width x - rest) → Starts (Then (KeptIn left) Q) x rest number
kept_starts left Q x rest number e pos goes short small =
    let same : x ≡ OTHER_DATA = cc in
    rw same ((then_starts (KeptIn left) Q OTHER_DATA (bits_begin OTHER_DATA refl left pos) goes rest number).0 (bits_start OTHER_DATA refl left rest number pos (rw same at short) (rw same at small)))
