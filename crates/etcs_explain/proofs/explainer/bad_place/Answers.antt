use Rattle.std.proofs.Common.{◌≡◌, ℕ, ◌%◌, List, [], ◌∷◌, length, refl, ap, sym, ◌∙◌}
use Rattle.std.specs.Prelude.{Err}
use Rattle.etcs_runs.specs.Answers.{Says}
use Rattle.etcs_runs.specs.declared.digits.NoBytes.{NoBytes}
use Rattle.etcs_runs.specs.declared.digits.NoBytes.TheVariants.{Empty, NoDigits, OddDigits}
use Rattle.etcs_runs.specs.Digits.{line_digits}
use Rattle.etcs_explain.specs.Parts.{bad_place}
use Rattle.etcs_explain.proofs.explainer.bad_place.Goals as goal

some_digits : (digits line : List ℕ) → (digits ≡ [] → ⊥) → length line ≡ bad_place digits line
some_digits [] line other = absurd (other refl)
some_digits (c ∷ digits) line other = refl

other_place : (why : NoBytes) (digits line : List ℕ) → (why ≡ NoDigits → ⊥) → Says digits (Err why) [] → length line ≡ bad_place digits line
other_place Empty digits line other says = absurd says
other_place NoDigits digits line other says = absurd (other refl)
other_place (OddDigits n) digits line other says = some_digits digits line (λ (none : digits ≡ []). let e : n % 2 ≡ 0 = ap (λ (k : ℕ). k % 2) (says.0 ∙ ap length none) in let x = sym e ∙ says.1 in absurd cc)

pub returns-in_default : goal.returns-in_default
returns-in_default c = other_place c.args.why (line_digits c.args.line.now) c.args.line.now c.in_default.not-NoDigits c.requires
