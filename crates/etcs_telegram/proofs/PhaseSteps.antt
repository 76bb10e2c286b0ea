-- One variable more: what each phase continues with.
use Rattle.std.proofs.Common.{◌≡◌, ℕ, ◌<◌, ◌≤◌, Bool, true, false, ◌++◌, refl, arith, ltb}
use Rattle.std.specs.Prelude.{replicate, if◌then◌else◌}
use Rattle.std.proofs.lemmas.Bool.Decides.{nat_tests}
use Rattle.etcs_vars.specs.declared.var.Var.TheVariants.{FILL, PAD}
use Rattle.etcs_vars.specs.Reading.{kept}
use Rattle.etcs_vars.proofs.Languages.{Same}
use Rattle.etcs_reader.specs.Rests.{Goes}
use Rattle.etcs_sequence.specs.BitLaws.{BitsLeft}
use Rattle.etcs_sequence.specs.laws.BitLaws.{some_bits}
use Rattle.etcs_sequence.proofs.BitLaws.{no_bits}
use Rattle.etcs_sequence.proofs.ThenLaws.{then_second}
use Rattle.etcs_telegram.specs.declared.size.Size.{Size}
use Rattle.etcs_telegram.specs.declared.phase.Phase.{Phase}
use Rattle.etcs_telegram.specs.Telegrams.{pad_bits}
use Rattle.etcs_telegram.specs.Phases.{PadLeft, FillLeft}

pub pad_goes : (n : ℕ) → Goes (PadLeft n)
pad_goes n = (kept PAD (replicate n false), refl)

pub some_fill : (size : Size) (n : ℕ) → Goes (FillLeft size n)
some_fill size n =
    let b = some_bits FILL refl n in
    let p = pad_goes (pad_bits size) in
    (b.0 ++ p.0, (b.0, p.0, refl, b.1, p.1))

-- what is left, by the definition of after
pub none_left : (size : Size) → Same (FillLeft size 0) (PadLeft (pad_bits size))
none_left size = then_second (BitsLeft FILL 0) (PadLeft (pad_bits size)) (λ r h. (no_bits FILL r).0 h) (some_bits FILL refl 0)

pub by_test : (b : Bool) (P : Phase → Type 0) (x y : Phase) → (b ≡ true → P x) → (b ≡ false → P y) → P (if b then x else y)
by_test true P x y f g = f refl
by_test false P x y f g = g refl

pub below_false : (a b : ℕ) → ltb a b ≡ false → b ≤ a
below_false a b h = grind (arith, nat_tests)

pub below_true : (a b : ℕ) → ltb a b ≡ true → a < b
below_true a b h = grind (arith, nat_tests)
