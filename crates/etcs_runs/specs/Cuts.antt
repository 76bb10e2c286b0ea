-- The characters at which a text is cut.
use Rattle.std.specs.Prelude.{ℕ, Bool}
use Rattle.etcs_runs.specs.declared.words.Cut.{Cut}
use Rattle.etcs_runs.specs.declared.words.Cut.TheVariants.{Blanks, Gaps, Joints}
use Rattle.etcs_runs.specs.Digits.{is_blank, is_gap, is_joint}

-- a text is cut at the character
abbrev pub parts_at : Cut → ℕ → Bool
parts_at Blanks c = is_blank c
parts_at Gaps c = is_gap c
parts_at Joints c = is_joint c
