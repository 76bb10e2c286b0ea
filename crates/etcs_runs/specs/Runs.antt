-- What a run did.
use Rattle.std.specs.Prelude.{◌≡◌, ℕ, ◌+◌, ◌*◌, ◌%◌, ◌^◌, ◌≤◌, ◌⊎◌, List, Option, Result, Err, length, IfOk, IfErr, OnOk}
use Rattle.std.specs.Io.KnownBytes.{Consumes, IsAtEnd}
use Rattle.etcs_runs.specs.declared.ends.Sink.{Ghosts as SinkOf}
use Rattle.etcs_runs.specs.declared.ends.Source.{Ghosts as SourceOf}
use Rattle.etcs_runs.specs.declared.fault.RunFault.{RunFault}
use Rattle.etcs_runs.specs.declared.fault.RunFault.TheVariants.{Read, Write, Endless, Memory}
use Rattle.etcs_runs.specs.Ends.{FailedBy, FlushedOnlyWhere}
use Rattle.etcs_runs.specs.Faults.{IsOfEngine}
use Rattle.etcs_runs.specs.Passes.{counted}
use Rattle.etcs_runs.specs.Pipes.{Piped, PipedFirst}
use Rattle.etcs_runs.specs.Promises.{Promises, EndsWhole, StarvesIn}

-- by the result of a run, with at most this many reads: what the source gave and the sink took, how often calls of each
-- failed, and how often the sink was flushed. Of the source there is what is left, how often it was read and how often
-- that failed; of the sink what it holds, how often it failed and how often it was flushed; each before the run and
-- after it
pub record Ran {T : Type 0} (p : Promises T) (most : ℕ) (left left' : Option (List ℕ)) (reads reads' missed missed' : ℕ) (held held' : Option (List ℕ)) (failed failed' flushes flushes' : ℕ) (result : Result T RunFault) : Type 0 where
  pub ok : IfOk result (λ answer. Piped (λ given output. p.Ends given output answer) left left' held held')
  pub at_end : OnOk result (IsAtEnd left' × (missed' ≡ missed) × (failed' ≡ failed))
  pub engine : IfErr result (λ e. IsOfEngine e → Piped (λ given output. p.Stops given output e ⊎ ((IsAtEnd left' × p.StopsAtEnd given output e) ⊎ ((e ≡ Endless) × (reads' ≡ reads + most) × (most ≤ length given) × p.Outputs given output))) left left' held held')
  pub read : result ≡ Err Read → Piped p.Outputs left left' held held'
  pub write : (n : ℕ) → result ≡ Err (Write n) → (k : ℕ) × (n ≡ counted k) × PipedFirst k (λ given output. p.Prints given output ⊎ (IsAtEnd left' × EndsWhole p given output)) left left' held held'
  pub flushed : OnOk result (flushes' ≡ (flushes + 1) % 2 ^ 64)
  pub unflushed : IfErr result (λ e. FlushedOnlyWhere flushes flushes' (Piped (λ given output. (e ≡ Write (counted (length output))) × IsAtEnd left' × EndsWhole p given output) left left' held held'))
  pub few_reads : reads' ≤ reads + most
  pub memory : IfErr result (λ e. e ≡ Memory → Piped (StarvesIn p) left left' held held')
  pub failures : IfErr result (λ e. FailedBy e missed missed' failed failed')
  pub pieces : (given : List ℕ) × Consumes left left' given × (length given + 4096 * reads ≤ 4096 * reads')

-- the same of a source and a sink
abbrev pub RanOver : {S W T : Type 0} → SourceOf S → SinkOf W → Promises T → ℕ → (source source' : S) (sink sink' : W) → Result T RunFault → Type 0
RanOver s w p most source source' sink sink' r =
    Ran p most (s.remaining source) (s.remaining source') (s.reads source) (s.reads source') (s.failures source) (s.failures source') (w.contents sink) (w.contents sink') (w.failures sink) (w.failures sink') (w.flushes sink) (w.flushes sink') r
