-- How a step and a run end.
use Rattle.std.proofs.Common.{◌≡◌, ℕ, ◌+◌, ◌%◌, ◌^◌, List, ◌++◌, length, Option, Result, Ok, Err, ap, ◌∙◌, inl, inr}
use Rattle.std.specs.Prelude.{IfErr}
use Rattle.std.specs.Io.KnownBytes.{Appends, Consumes}
use Rattle.etcs_runs.specs.declared.ends.Sink.{Ghosts as SinkOf}
use Rattle.etcs_runs.specs.Ends.{FailedBy, FlushedOnlyWhere}
use Rattle.etcs_runs.specs.declared.fault.RunFault.{RunFault}
use Rattle.etcs_runs.specs.declared.fault.RunFault.TheVariants.{Refused, Truncated, BadHex, BadJson, Read, Write, Endless, Memory}
use Rattle.etcs_runs.specs.Faults.{IsOfEngine}
use Rattle.etcs_runs.specs.Pipes.{Piped}
use Rattle.etcs_runs.specs.Passes.{Fails, counted}
use Rattle.etcs_runs.proofs.Known.{Appends-then}

-- an engine's fault is no call's
pub of_engine : (s s' w w' : ℕ) (e : RunFault) → IsOfEngine e → s' ≡ s → w' ≡ w → FailedBy e s s' w w'
of_engine s s' w w' (Refused item i x) h a b = (a, b)
of_engine s s' w w' (Truncated item k) h a b = (a, b)
of_engine s s' w w' (BadHex line place) h a b = (a, b)
of_engine s s' w w' (BadJson line) h a b = (a, b)
of_engine s s' w w' Read h a b = absurd h
of_engine s s' w w' (Write n) h a b = absurd h
of_engine s s' w w' Endless h a b = (a, b)
of_engine s s' w w' Memory h a b = (a, b)

-- what is said where memory is refused
module _ {W : Type 0} (w : SinkOf W) (left left' held : Option (List ℕ)) (sink sink' : W) (given output text : List ℕ) (gave : Consumes left left' given) (took : Appends held (w.contents sink) output) (Stops : List ℕ → RunFault → Type 0) (Prints Said : List ℕ → Type 0) where
  pub said_of : (e : RunFault) → Fails w sink sink' Stops Prints output text e → (e ≡ Memory → Said (output ++ text)) → e ≡ Memory → Piped (λ given output. Said output) left left' held (w.contents sink')
  said_of e (inl s) k h = (given, output ++ text, gave, Appends-then held (w.contents sink) (w.contents sink') output text took s.2, k h)
  said_of e (inr b) k h = let is : e ≡ Write (counted (length output + b.0.0)) = b.0.2 in absurd cc

  pub said_if : {T : Type 0} (r : Result T RunFault) → IfErr r (Fails w sink sink' Stops Prints output text) → IfErr r (λ e. e ≡ Memory → Said (output ++ text)) → IfErr r (λ e. e ≡ Memory → Piped (λ given output. Said output) left left' held (w.contents sink'))
  said_if (Ok t) h k = tt
  said_if (Err e) h k = said_of e h k

-- ---- How often the sink is flushed.

-- from the last step to the run
module _ (left left' held mid held' : Option (List ℕ)) (given output text : List ℕ) (gave : Consumes left left' given) (took : Appends held mid output) (AtEnd : Type 0) (at : AtEnd) (Whole : List ℕ → List ℕ → Type 0) (first before after : ℕ) (none : before ≡ first) where
  pub flushed_of : (e : RunFault) → FlushedOnlyWhere before after ((e ≡ Write (counted (length (output ++ text)))) × Appends mid held' text × Whole given (output ++ text)) → FlushedOnlyWhere first after (Piped (λ given output. (e ≡ Write (counted (length output))) × AtEnd × Whole given output) left left' held held')
  flushed_of e (inl kept) = inl (kept ∙ none)
  flushed_of e (inr both) = inr (both.0 ∙ ap (λ n. (n + 1) % 2 ^ 64) none, (given, output ++ text, gave, Appends-then held mid held' output text took both.1.1, (both.1.0, at, both.1.2)))
