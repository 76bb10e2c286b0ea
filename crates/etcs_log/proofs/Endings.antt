-- How a log ends.
use Rattle.std.proofs.Common.{◌≡◌, ℕ, ◌+◌, ◌≤◌, List, length, Option, Result, Ok, Err, inl, inr, refl, subst, arith}
use Rattle.std.specs.Prelude.{◌⊎◌, IfErr, OnOk}
use Rattle.std.specs.Io.KnownBytes.{IsAtEnd}
use Rattle.etcs_runs.specs.Ends.{FailedBy}
use Rattle.etcs_runs.specs.Faults.{IsOfEngine}
use Rattle.etcs_runs.specs.Pipes.{Piped}
use Rattle.etcs_runs.specs.declared.fault.RunFault.{RunFault}
use Rattle.etcs_runs.specs.declared.fault.RunFault.TheVariants.{Refused, Truncated, BadHex, BadJson, Read, Write, Endless, Memory}
use Rattle.etcs_log.specs.declared.job.LogJob.{LogJob}
use Rattle.etcs_log.specs.declared.job.LogTally.{LogTally}
use Rattle.etcs_log.specs.Promised.{WholeOutput, log_promises}

failed_one : (e : RunFault) (missed missed' failed failed' : ℕ) → FailedBy e missed missed' failed failed' → failed' ≤ failed + 1
failed_one (Refused item bit var) missed missed' failed failed' h = omega (arith, h.1)
failed_one (Truncated item bits) missed missed' failed failed' h = omega (arith, h.1)
failed_one (BadHex line place) missed missed' failed failed' h = omega (arith, h.1)
failed_one (BadJson line) missed missed' failed failed' h = omega (arith, h.1)
failed_one Read missed missed' failed failed' h = omega (arith, h.1)
failed_one (Write sent) missed missed' failed failed' h = omega (arith, h.1)
failed_one Endless missed missed' failed failed' h = omega (arith, h.1)
failed_one Memory missed missed' failed failed' h = omega (arith, h.1)

-- at most one call of the sink failed
pub one_of : (AtEnd : Type 0) (r : Result LogTally RunFault) (missed missed' failed failed' : ℕ) → OnOk r (AtEnd × (missed' ≡ missed) × (failed' ≡ failed)) → IfErr r (λ e. FailedBy e missed missed' failed failed') → failed' ≤ failed + 1
one_of AtEnd (Ok tally) missed missed' failed failed' h k = omega (arith, h.2)
one_of AtEnd (Err e) missed missed' failed failed' h k = failed_one e missed missed' failed failed' k

module _ (job : LogJob) (left left' held held' : Option (List ℕ)) (reads reads' most : ℕ) where
  -- what is known of a fault that is of no call
  abbrev Why : RunFault → List ℕ → List ℕ → Type 0
  Why e given output = (log_promises job).Stops given output e ⊎ ((IsAtEnd left' × (log_promises job).StopsAtEnd given output e) ⊎ ((e ≡ Endless) × (reads' ≡ reads + most) × (most ≤ length given) × (log_promises job).Outputs given output))

  -- there is no fault of a line
  fault_is : (e : RunFault) → (IsOfEngine e → Piped (Why e) left left' held held') → (e ≡ Read) ⊎ (((n : ℕ) × (e ≡ Write n)) ⊎ ((e ≡ Endless) ⊎ (e ≡ Memory)))
  fault_is (Refused item bit var) h = elim (h tt).4 [
    | inl s ↦ inr (inr (inr s.0))
    | inr o ↦ elim o [
      | inl s ↦ inr (inr (inr s.1.0))
      | inr s ↦ inr (inr (inl s.0))
    ]
  ]
  fault_is (Truncated item bits) h = elim (h tt).4 [
    | inl s ↦ inr (inr (inr s.0))
    | inr o ↦ elim o [
      | inl s ↦ inr (inr (inr s.1.0))
      | inr s ↦ inr (inr (inl s.0))
    ]
  ]
  fault_is (BadHex line place) h = elim (h tt).4 [
    | inl s ↦ inr (inr (inr s.0))
    | inr o ↦ elim o [
      | inl s ↦ inr (inr (inr s.1.0))
      | inr s ↦ inr (inr (inl s.0))
    ]
  ]
  fault_is (BadJson line) h = elim (h tt).4 [
    | inl s ↦ inr (inr (inr s.0))
    | inr o ↦ elim o [
      | inl s ↦ inr (inr (inr s.1.0))
      | inr s ↦ inr (inr (inl s.0))
    ]
  ]
  fault_is Read h = inl refl
  fault_is (Write sent) h = inr (inl (sent, refl))
  fault_is Endless h = inr (inr (inl refl))
  fault_is Memory h = inr (inr (inr refl))

  pub faults_are : (r : Result LogTally RunFault) → IfErr r (λ e. IsOfEngine e → Piped (Why e) left left' held held') → IfErr r (λ e. (e ≡ Read) ⊎ (((n : ℕ) × (e ≡ Write n)) ⊎ ((e ≡ Endless) ⊎ (e ≡ Memory))))
  faults_are (Ok tally) h = tt
  faults_are (Err e) h = fault_is e h

  endless_by : (given output : List ℕ) → Why Endless given output → (reads' ≡ reads + most) × (most ≤ length given) × WholeOutput job given output
  endless_by given output (inl s) = let is : ◌≡◌ {A = RunFault} Endless Memory = s.0 in absurd cc
  endless_by given output (inr (inl (at, s))) = let is : ◌≡◌ {A = RunFault} Endless Memory = s.0 in absurd cc
  endless_by given output (inr (inr s)) = (s.1, s.2, s.3)

  pub endless_of : (r : Result LogTally RunFault) → IfErr r (λ e. IsOfEngine e → Piped (Why e) left left' held held') → r ≡ Err Endless → (reads' ≡ reads + most) × Piped (λ given output. (most ≤ length given) × WholeOutput job given output) left left' held held'
  endless_of r h is =
      let here : IsOfEngine Endless → Piped (Why Endless) left left' held held' = subst (λ (z : Result LogTally RunFault). IfErr z (λ e. IsOfEngine e → Piped (Why e) left left' held held')) is h in
      let (given, output, gave, took, why) = here tt in
      let by = endless_by given output why in
      (by.0, (given, output, gave, took, (by.1, by.2)))
