-- Whether numbers have their widths.
use Rattle.std.proofs.Common.{ℕ, ◌/◌, ◌^◌, ◌<◌, ◌==◌, Bool, List, length, arith}
use Rattle.std.specs.Bool.{Decides, MatchBool}
use Rattle.std.specs.List.{AllWithin, HoldsAt}
use Rattle.std.specs.Prelude.{true, false, refl}
use Rattle.std.proofs.lemmas.Bool.{false≢true}
use Rattle.std.proofs.lemmas.Bool.Decides.{Decides-eqb, Decides-like}
use Rattle.std.proofs.lemmas.List.Elements.{All-from_all_within}
use Rattle.etcs_bits.proofs.Steps.{fits_width}
use Rattle.std.proofs.lemmas.Nat.{div_below, pow_pos}
use Rattle.etcs_c.specs.declared.fields.EtcsField.{EtcsField}
use Rattle.etcs_c.specs.ItemFields.{AreFit, IsFit}

-- nothing is above the bits of a width below 64
pub short_fit : (f : EtcsField) → f.width < 64 → Decides (f.number / 2 ^ f.width == 0) (IsFit f)
short_fit f lt =
    Decides-like (f.number / 2 ^ f.width == 0) (λ e. (omega (arith, lt), fits_width f.number f.width e)) (λ fit. omega (arith, div_below f.number (2 ^ f.width) 1 (pow_pos f.width) (omega (arith, fit.1)))) (Decides-eqb (f.number / 2 ^ f.width) 0)

pub all_fit : (r : Bool) (fs : List EtcsField) → MatchBool r (AllWithin IsFit fs 0 (length fs)) ((k : ℕ) × (k < length fs) × HoldsAt (λ f. IsFit f → ⊥) fs k) → Decides r (AreFit fs)
all_fit true fs h = (λ e. All-from_all_within IsFit fs h, λ fit. refl)
all_fit false fs (k, lt, not) = (λ e. absurd (false≢true e), λ fit. let none : EtcsField = record { number = 0; var = 0; width = 0 } in absurd (not none (fit k none lt)))
