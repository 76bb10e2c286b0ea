-- What was written of lines is the text of all that is whole in them.
use Rattle.std.proofs.Common.{◌≡◌, ℕ, ◌+◌, ◌<◌, List, [], ◌∷◌, ◌++◌, length, sym, subst, inl, inr}
use Rattle.std.proofs.lemmas.List.{append-nil}
use Rattle.std.proofs.lemmas.List.Elements.{All-nil}
use Rattle.etcs_runs.specs.Lines.{IsLine, lines_text}
use Rattle.etcs_runs.specs.Cutting.{LinesStand}

pub lines_outputs : (Outputs : List ℕ → List ℕ → Type 0) (Took : List (List ℕ) → List ℕ → Type 0) (most : ℕ) → ((lines : List (List ℕ)) (begun output : List ℕ) → Took lines output → IsLine begun → Outputs (lines_text lines ++ begun) output) → ((lines : List (List ℕ)) (part output : List ℕ) → Took (lines ++ part ∷ []) output → IsLine part → most + 1 < length part → Outputs (lines_text lines ++ part) output) → (begun : List ℕ) (n line : ℕ) (given output : List ℕ) → LinesStand Took most begun n line given output → Outputs given output
lines_outputs Outputs Took most outputs long begun n line given output h =
    subst (λ (z : List ℕ). Outputs z output) (sym h.given_is)
    (elim h.kept [
      | inl k ↦ outputs h.lines h.part output k.2 h.is_line
      | inr k ↦ long h.lines h.part output (subst (λ (z : List ℕ). Took (h.lines ++ z ∷ []) output) (append-nil h.part) (k.1 [] (All-nil (λ c. c ≡ 10 → ⊥)))) h.is_line k.0
    ])
