-- What was written is the text of the first items.
use Rattle.std.proofs.Common.{◌≡◌, List, ℕ, Result, Ok, Err, inl, inr, subst}
use Rattle.std.specs.Prelude.{◌⊎◌, IfOk, OnOk}
use Rattle.etcs_runs.specs.declared.fault.RunFault.{RunFault}
use Rattle.etcs_runs.specs.Faults.{IfFault}
use Rattle.etcs_runs.specs.Promises.{Promises, Sound, EndsWhole}

-- whatever a feed answers
pub fed_prints : {J T : Type 0} (promises : J → Promises T) (job job' : J) (given output : List ℕ) (Stands : Type 0) (r : Result Unit RunFault) → Sound (promises job) → job' ≡ job → (Stands → (promises job').Outputs given output) → OnOk r Stands → IfFault r ((promises job).Stops given output) → (promises job).Prints given output
fed_prints {J} {T} promises job job' given output Stands (Ok u) sound e outputs ok err =
    sound.outputs_print given output (subst (λ (j : J). (promises j).Outputs given output) e (outputs ok))
fed_prints promises job job' given output Stands (Err f) sound e outputs ok err = sound.stops_print given output f err.1

-- whatever the end of the input does
pub finished_prints : {T : Type 0} (p : Promises T) (given output : List ℕ) (r : Result T RunFault) → Sound p → IfOk r (λ tally. p.Ends given output tally) → IfFault r (p.StopsAtEnd given output) → p.Prints given output ⊎ EndsWhole p given output
finished_prints p given output (Ok tally) sound ok err = inr (tally, ok)
finished_prints p given output (Err f) sound ok err = inl (sound.last_prints given output f err.1)
