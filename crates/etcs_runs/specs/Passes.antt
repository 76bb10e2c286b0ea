-- What became of a piece of an input, and of its end.
use Rattle.std.specs.Prelude.{◌≡◌, ℕ, ◌+◌, ◌-◌, ◌^◌, ◌<◌, ◌≤◌, ◌⊎◌, min, List, ◌++◌, length, take, Result, IfOk, IfErr, OnOk}
use Rattle.std.specs.Io.KnownBytes.{Appends}
use Rattle.etcs_runs.specs.declared.ends.Sink.{Ghosts as SinkOf}
use Rattle.etcs_runs.specs.declared.engine.Engine.{Ghosts as EngineOf}
use Rattle.etcs_runs.specs.declared.fault.RunFault.{RunFault}
use Rattle.etcs_runs.specs.declared.fault.RunFault.TheVariants.{Write, Memory}
use Rattle.etcs_runs.specs.Ends.{FlushedOnlyWhere}
use Rattle.etcs_runs.specs.Faults.{IsOfEngine}
use Rattle.etcs_runs.specs.Promises.{EndsWhole}

-- how a run counts the bytes that the sink took: at most 2^64 - 1
abbrev pub counted : ℕ → ℕ
counted n = min n (2 ^ 64 - 1)

module _ {W : Type 0} (w : SinkOf W) (sink sink' : W) where
  -- the sink took the first bytes of the text, and the fault counts them and n before
  abbrev pub TookFirst : ℕ → List ℕ → RunFault → Type 0
  TookFirst n text e = (k : ℕ) × (k ≤ length text) × (e ≡ Write (counted (n + k))) × Appends (w.contents sink) (w.contents sink') (take k text)

  -- after the text written the sink took this one; the fault is the engine's
  abbrev pub Stopped : (List ℕ → RunFault → Type 0) → List ℕ → List ℕ → RunFault → Type 0
  Stopped Stops output text e = IsOfEngine e × Stops (output ++ text) e × Appends (w.contents sink) (w.contents sink') text

  -- the sink took the first bytes of the text, and one call of it failed
  abbrev pub Broken : (List ℕ → Type 0) → List ℕ → List ℕ → RunFault → Type 0
  Broken Prints output text e = TookFirst (length output) text e × Prints (output ++ text) × (w.failures sink' ≡ w.failures sink + 1)

  -- one of these
  abbrev pub Fails : (List ℕ → RunFault → Type 0) → (List ℕ → Type 0) → List ℕ → List ℕ → RunFault → Type 0
  Fails Stops Prints output text e = Stopped Stops output text e ⊎ Broken Prints output text e

  -- the sink took this text, and no call of it failed
  abbrev pub Writes : List ℕ → Type 0
  Writes text = Appends (w.contents sink) (w.contents sink') text × (w.failures sink' ≡ w.failures sink)

module _ {E J T : Type 0} (g : EngineOf E J T) (engine : E) where
  -- the engine was fed some bytes, and may be fed n more
  abbrev pub HasRoom : ℕ → Type 0
  HasRoom n = (given : List ℕ) × (output : List ℕ) × g.stands engine given output × (length given + n < 2 ^ 62)

  -- if memory was refused, the engine describes the text that was written
  abbrev pub Starves : {A : Type 0} → E → List ℕ → Result A RunFault → Type 0
  Starves engine' text r = (given output : List ℕ) → g.stands engine given output → IfErr r (λ e. e ≡ Memory → g.said engine' (output ++ text))

  -- this holds of what the engine was fed, and of the text of that, which was written and counted, whatever they are
  abbrev pub WhereFed : ℕ → (List ℕ → List ℕ → Type 0) → Type 0
  WhereFed sent Holds = (given output : List ℕ) → g.stands engine given output → sent ≡ counted (length output) → Holds given output

  module _ {W : Type 0} (w : SinkOf W) (sink sink' : W) (text : List ℕ) (sent : ℕ) where
    -- if it succeeds, the piece was fed too, and its text written and counted
    abbrev pub Passes : E → List ℕ → ℕ → Result Unit RunFault → Type 0
    Passes engine' piece sent' r =
        WhereFed sent (λ given output. OnOk r (g.stands engine' (given ++ piece) (output ++ text) × Writes w sink sink' text × (sent' ≡ counted (length (output ++ text)))))

    -- if it fails, the engine stopped at the piece, or its text wasn't written
    abbrev pub PassesNot : List ℕ → Result Unit RunFault → Type 0
    PassesNot piece r =
        let p = g.promises (g.job engine) in
        WhereFed sent (λ given output. IfErr r (Fails w sink sink' (p.Stops (given ++ piece)) (p.Prints (given ++ piece)) output text))

    -- if it succeeds, the input was whole, and its last text was written
    abbrev pub Closes : Result T RunFault → Type 0
    Closes r = WhereFed sent (λ given output. IfOk r (λ tally. (g.promises (g.job engine)).Ends given (output ++ text) tally × Writes w sink sink' text))

    -- if it fails, the engine stopped at the end of the input, or its last text wasn't written
    abbrev pub ClosesNot : Result T RunFault → Type 0
    ClosesNot r =
        let p = g.promises (g.job engine) in
        WhereFed sent (λ given output. IfErr r (Fails w sink sink' (p.StopsAtEnd given) (λ t. p.Prints given t ⊎ EndsWhole p given t) output text))

    -- a sink was flushed in vain only after all of the text of a whole input
    abbrev pub FlushesLast : Result T RunFault → Type 0
    FlushesLast r =
        let p = g.promises (g.job engine) in
        WhereFed sent (λ given output. IfErr r (λ e. FlushedOnlyWhere (w.flushes sink) (w.flushes sink') ((e ≡ Write (counted (length (output ++ text)))) × Appends (w.contents sink) (w.contents sink') text × EndsWhole p given (output ++ text))))
