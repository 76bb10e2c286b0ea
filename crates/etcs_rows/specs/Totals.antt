-- Sums of lengths whose parts are added one after another.
use Rattle.std.specs.Prelude.{◌≡◌, ℕ, ◌↔◌, ◌⊎◌, Option, Some, None, List, [], ◌∷◌}
use Rattle.etcs_rows.specs.declared.total.Times.{Times}
use Rattle.etcs_rows.specs.declared.total.Total.{Total}
use Rattle.etcs_rows.specs.declared.total.Added.{Added}
use Rattle.etcs_rows.specs.declared.total.Added.TheVariants as added
use Rattle.etcs_rows.specs.Progressions.{InProgression, TimesWithin, AtMost}
use Rattle.etcs_rows.specs.Sums.{Plus}

-- m is a length of a group as often as it may be there, or 0 if there is none
abbrev pub InTimes : Option Times → ℕ → Type 0
InTimes None m = m ≡ 0
InTimes (Some t) m = TimesWithin t.group t.first t.last m

-- m is a sum of a number of the steps, one of the group and one of the slack
unfoldable pub InTotal : Total → ℕ → Type 0
InTotal t m = Plus (InProgression t.steps) (Plus (InTimes t.times) (AtMost t.slack)) m

-- the numbers of the total are those of A
abbrev pub AreTotal : Total → (ℕ → Type 0) → Type 0
AreTotal t A = (m : ℕ) → InTotal t m ↔ A m

-- m is one of the numbers that are added to sums
abbrev pub InAdded : Added → ℕ → Type 0
InAdded (added.Steps s) m = InProgression s m
InAdded (added.Times t) m = TimesWithin t.group t.first t.last m

-- m is one of the numbers of one of the sums
abbrev pub InSums : List Total → ℕ → Type 0
InSums [] m = ⊥
InSums (t ∷ ts) m = InTotal t m ⊎ InSums ts m
