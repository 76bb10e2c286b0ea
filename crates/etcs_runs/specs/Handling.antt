-- What became of a line that was given to a handler of lines, which took some lines before. Text is appended to what was
-- written before.
use Rattle.std.specs.Prelude.{◌≡◌, ℕ, ◌+◌, ◌^◌, ◌<◌, ◌≤◌, List, [], ◌∷◌, ◌++◌, length, take, All, Result, IfOk, OnOk, OnErr}
use Rattle.etcs_runs.specs.declared.fault.RunFault.{RunFault}
use Rattle.etcs_runs.specs.Faults.{IfFault}
use Rattle.etcs_runs.specs.Lines.{IsLine, lines_text, strip_cr}
use Rattle.etcs_runs.specs.Promises.{Promises}

-- the text begins with these lines, each with its LF: this many bytes, at most `whole`, and lines. They are taken after
-- those before them
pub record LinesTaken (Took Took' : List (List ℕ) → List ℕ → Type 0) (rest : List ℕ) (whole : ℕ) (text text' : List ℕ) (bytes count : ℕ) : Type 0 where
  pub taken : List (List ℕ)
  pub beyond : List ℕ
  pub rest_is : rest ≡ lines_text taken ++ beyond
  pub are_lines : All IsLine taken
  pub bytes_is : bytes ≡ length (lines_text taken)
  pub within : bytes ≤ whole
  pub count_is : count ≡ length taken
  pub took : (lines : List (List ℕ)) (output : List ℕ) → Took lines (output ++ text) → Took' (lines ++ taken) (output ++ text')

module _ (Took : List (List ℕ) → List ℕ → Type 0) where
  -- some lines were taken, and more may come
  abbrev pub TookSome : Type 0
  TookSome = (lines : List (List ℕ)) × (output : List ℕ) × Took lines output × (length lines < 2 ^ 62)

  -- the same, and what was written of them ends with this text
  abbrev pub TookWith : List ℕ → Type 0
  TookWith text = (lines : List (List ℕ)) × (output : List ℕ) × Took lines (output ++ text) × (length lines < 2 ^ 62)

  -- if it fails, the handler describes the text that was written
  abbrev pub SaysAfter : {T : Type 0} → (List ℕ → Type 0) → (text text' : List ℕ) → Result T RunFault → Type 0
  SaysAfter Said text text' r = (lines : List (List ℕ)) (output : List ℕ) → Took lines (output ++ text) → OnErr r (Said (output ++ text'))

  -- if it succeeds, lines at the front of a text, in its first `whole` bytes, are taken
  abbrev pub TakesLines : (List (List ℕ) → List ℕ → Type 0) → (rest : List ℕ) (whole : ℕ) (text text' : List ℕ) → Result (ℕ × ℕ) RunFault → Type 0
  TakesLines Took' rest whole text text' r = IfOk r (λ t. LinesTaken Took Took' rest whole text text' t.0 t.1)

  -- if it succeeds, this line is taken, with a CR at its end if it has one
  abbrev pub TakesKept : (List (List ℕ) → List ℕ → Type 0) → (raw text text' : List ℕ) → Result Unit RunFault → Type 0
  TakesKept Took' raw text text' r = (lines : List (List ℕ)) (output : List ℕ) → Took lines (output ++ text) → OnOk r (Took' (lines ++ raw ∷ []) (output ++ text'))

  -- if it succeeds, the line that is this one without its CR is taken after those before it
  abbrev pub TakesLine : (List (List ℕ) → List ℕ → Type 0) → (line text text' : List ℕ) → Result Unit RunFault → Type 0
  TakesLine Took' line text text' r =
      (lines : List (List ℕ)) (raw output : List ℕ) → Took lines (output ++ text) → IsLine raw → line ≡ strip_cr raw → OnOk r (Took' (lines ++ raw ∷ []) (output ++ text'))

  -- the same of a line that is too long already, however it continues
  abbrev pub TakesLong : (List (List ℕ) → List ℕ → Type 0) → (most : ℕ) (text text' : List ℕ) → Result Unit RunFault → Type 0
  TakesLong Took' most text text' r =
      (lines : List (List ℕ)) (part output : List ℕ) → Took lines (output ++ text) → IsLine part → most + 1 < length part → OnOk r ((rest : List ℕ) → IsLine rest → Took' (lines ++ (part ++ rest) ∷ []) (output ++ text'))

  module _ {T : Type 0} (p : Promises T) where
    -- if it fails, each input that begins with the lines before and these bytes ends with the fault
    abbrev pub StopsIn : {U : Type 0} → (bytes text text' : List ℕ) → Result U RunFault → Type 0
    StopsIn bytes text text' r =
        (lines : List (List ℕ)) (more output : List ℕ) → Took lines (output ++ text) → IfFault r (p.Stops (lines_text lines ++ (bytes ++ more)) (output ++ text'))

    -- the same of each that begins with the lines before and the line that is kept
    abbrev pub StopsAtKept : (raw : List ℕ) (number : ℕ) (text text' : List ℕ) → Result Unit RunFault → Type 0
    StopsAtKept raw number text text' r =
        (lines : List (List ℕ)) (more output : List ℕ) → Took lines (output ++ text) → number ≡ length lines + 1 → IfFault r (p.Stops (lines_text lines ++ (raw ++ 10 ∷ more)) (output ++ text'))

    -- if it fails, each input that begins with the lines before and this one ends with the fault
    abbrev pub StopsAtLine : (line : List ℕ) (number : ℕ) (text text' : List ℕ) → Result Unit RunFault → Type 0
    StopsAtLine line number text text' r =
        (lines : List (List ℕ)) (raw more output : List ℕ) → Took lines (output ++ text) → IsLine raw → line ≡ strip_cr raw → number ≡ length lines + 1 → IfFault r (p.Stops (lines_text lines ++ (raw ++ 10 ∷ more)) (output ++ text'))

    -- the same of each input whose next line is too long already
    abbrev pub StopsAtLong : (most number : ℕ) (text text' : List ℕ) → Result Unit RunFault → Type 0
    StopsAtLong most number text text' r =
        (lines : List (List ℕ)) (part more output : List ℕ) → Took lines (output ++ text) → IsLine part → most + 1 < length part → number ≡ length lines + 1 → IfFault r (p.Stops (lines_text lines ++ (part ++ more)) (output ++ text'))

    -- if it succeeds, the lines before and this one are a whole input with all the text and the result
    abbrev pub EndsWith : (line text' : List ℕ) → Result T RunFault → Type 0
    EndsWith line text' r = (lines : List (List ℕ)) (output : List ℕ) → Took lines output → IsLine line → IfOk r (λ tally. p.Ends (lines_text lines ++ line) (output ++ text') tally)

    -- if it fails, the input of the lines before and this one ends with the fault
    abbrev pub StopsWith : (line : List ℕ) (number : ℕ) (text' : List ℕ) → Result T RunFault → Type 0
    StopsWith line number text' r = (lines : List (List ℕ)) (output : List ℕ) → Took lines output → IsLine line → number ≡ length lines + 1 → IfFault r (p.StopsAtEnd (lines_text lines ++ line) (output ++ text'))

    -- if it succeeds, the lines, the last of which is too long, are a whole input with all the text and the result
    abbrev pub EndsLong : (most : ℕ) (text' : List ℕ) → Result T RunFault → Type 0
    EndsLong most text' r = (lines : List (List ℕ)) (last output : List ℕ) → Took (lines ++ last ∷ []) output → IsLine last → most + 1 < length last → IfOk r (λ tally. p.Ends (lines_text lines ++ last) (output ++ text') tally)

    -- if it fails, the input of these lines ends with the fault
    abbrev pub StopsLong : (most : ℕ) (text' : List ℕ) → Result T RunFault → Type 0
    StopsLong most text' r = (lines : List (List ℕ)) (last output : List ℕ) → Took (lines ++ last ∷ []) output → IsLine last → most + 1 < length last → IfFault r (p.StopsAtEnd (lines_text lines ++ last) (output ++ text'))
