-- Passages after one telegram more.
use Rattle.std.proofs.Common.{◌≡◌, ◌∷◌, ◌++◌, ℕ, List, Option, refl}
use Rattle.etcs_telegram.specs.Telegrams.{TelegramContent}
use Rattle.etcs_group.specs.declared.passages.Passage.{Passage}
use Rattle.etcs_group.specs.Passages.{ArePassages, EndsWith, GoesOn, Passed, Passing}

pub passed_more : (line : ℕ) (front : List ℕ) (t : TelegramContent) (old new : Option Passage) (out after : List ℕ) → (text : List ℕ) × GoesOn old line front t new text × (after ≡ out ++ text) → (earlier : List Passing) (before : List ℕ) → Passed earlier old before → (text : List ℕ) × Passed (record { line = line; front = front; telegram = t } ∷ earlier) new (before ++ text) × (after ≡ out ++ text)
passed_more line front t old new out after step earlier before passed = (step.0, (old, before, step.0, passed, step.1, refl), step.2)

pub passed_all : (p : Option Passage) (out after : List ℕ) → (text : List ℕ) × EndsWith p text × (after ≡ out ++ text) → (es : List Passing) (before : List ℕ) → Passed es p before → (text : List ℕ) × ArePassages es (before ++ text) × (after ≡ out ++ text)
passed_all p out after step es before passed = (step.0, (p, before, step.0, passed, step.1, refl), step.2)
