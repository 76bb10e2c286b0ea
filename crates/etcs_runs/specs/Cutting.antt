-- What is kept of lines that come in pieces.
use Rattle.std.specs.Prelude.{◌≡◌, ℕ, ◌+◌, ◌^◌, ◌<◌, ◌≤◌, ◌⊎◌, List, [], ◌∷◌, ◌++◌, length, Result, OnOk, OnErr}
use Rattle.etcs_runs.specs.declared.cutter.Lines.{Lines}
use Rattle.etcs_runs.specs.declared.cutter.LineHandler.{Ghosts as HandlerOf}
use Rattle.etcs_runs.specs.declared.fault.RunFault.{RunFault}
use Rattle.etcs_runs.specs.Faults.{IfFault}
use Rattle.etcs_runs.specs.Lines.{IsLine, lines_text}

-- all of the line that has begun is kept, and those before it were taken; or it is too long, and was taken with them,
-- however it continues
abbrev pub IsKept : (List (List ℕ) → List ℕ → Type 0) → ℕ → List (List ℕ) → List ℕ → List ℕ → List ℕ → Type 0
IsKept Took most lines part begun output =
    ((length part ≤ most + 1) × (begun ≡ part) × Took lines output)
    ⊎ ((most + 1 < length part) × ((rest : List ℕ) → IsLine rest → Took (lines ++ (part ++ rest) ∷ []) output))

-- the bytes are lines, the last of which has n characters and no LF yet; the others were taken, and this text was
-- written of them
pub record LinesStand (Took : List (List ℕ) → List ℕ → Type 0) (most : ℕ) (begun : List ℕ) (n line : ℕ) (given output : List ℕ) : Type 0 where
  pub lines : List (List ℕ)
  pub part : List ℕ
  pub given_is : given ≡ lines_text lines ++ part
  pub is_line : IsLine part
  pub n_is : n ≡ length part
  pub line_is : line ≡ length lines
  pub kept : IsKept Took most lines part begun output

module _ {H J T : Type 0} (h : HandlerOf H J T) where
  -- these bytes were given to the cutter, and its handler wrote this text of them
  abbrev pub Stands : Lines H J T → List ℕ → List ℕ → Type 0
  Stands s given output = LinesStand (h.took s.handler) (h.most (h.job s.handler)) s.begun.items s.count s.line given output

  module _ (old : Lines H J T) (text : List ℕ) where
    -- some bytes were given, and n more may be
    abbrev pub HasRoom : ℕ → Type 0
    HasRoom n = (given : List ℕ) × (output : List ℕ) × Stands old given (output ++ text) × (length given + n < 2 ^ 62)

    -- this holds of the bytes that were given and of the text that was written before this one, whatever they are
    abbrev pub WhereGiven : (List ℕ → List ℕ → Type 0) → Type 0
    WhereGiven Holds = (given output : List ℕ) → Stands old given (output ++ text) → Holds given output

    -- if it succeeds, some lines at the front of the piece are taken, and this is what is after them
    abbrev pub TakesFront : (text' : List ℕ) → Lines H J T → (piece : List ℕ) → List ℕ → Type 0
    TakesFront text' new piece beyond = (front : List ℕ) × (piece ≡ front ++ beyond) × WhereGiven (λ given output. Stands new (given ++ front) (output ++ text'))

    module _ (text' : List ℕ) {U : Type 0} (r : Result U RunFault) where
      -- if it succeeds, this part is taken too
      abbrev pub TakesPart : Lines H J T → List ℕ → Type 0
      TakesPart new part = WhereGiven (λ given output. OnOk r (Stands new (given ++ part) (output ++ text')))

      -- if it fails, each input that continues with these bytes ends with the fault
      abbrev pub StopsAt : List ℕ → Type 0
      StopsAt bytes = WhereGiven (λ given output. IfFault r ((h.promises (h.job old.handler)).Stops (given ++ bytes) (output ++ text')))

      -- if it fails, the handler describes the text that was written
      abbrev pub SaysSo : Lines H J T → Type 0
      SaysSo new = WhereGiven (λ given output. OnErr r (h.said new.handler (output ++ text')))
