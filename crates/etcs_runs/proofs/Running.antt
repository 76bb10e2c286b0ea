-- A run, read by read, and each way in which it ends.
use Rattle.std.proofs.Common.{◌≡◌, ℕ, ◌+◌, ◌*◌, ◌<◌, ◌≤◌, ◌%◌, ◌^◌, List, [], ◌++◌, length, take, Result, Ok, Err, refl, sym, ap, subst, ◌∙◌, arith, length-append, inl, inr}
use Rattle.std.specs.Prelude.{◌⊎◌, IfErr, IfOk, OnOk}
use Rattle.std.proofs.lemmas.List.{append-nil, length-take-le}
use Rattle.std.proofs.Math.Seq.{take-append-add}
use Rattle.std.specs.Io.KnownBytes.{Appends, Consumes, IsAtEnd, Keeps}
use Rattle.etcs_runs.specs.declared.ends.Sink.{Ghosts as SinkOf}
use Rattle.etcs_runs.specs.declared.ends.Source.{Ghosts as SourceOf}
use Rattle.etcs_runs.specs.Ends.{FailedBy, FlushedOnlyWhere}
use Rattle.etcs_runs.specs.declared.fault.RunFault.{RunFault}
use Rattle.etcs_runs.specs.declared.fault.RunFault.TheVariants.{Read, Write, Endless}
use Rattle.etcs_runs.specs.Faults.{IsOfEngine}
use Rattle.etcs_runs.specs.Passes.{Fails, Writes, counted}
use Rattle.etcs_runs.specs.Pipes.{Piped}
use Rattle.etcs_runs.specs.Promises.{Promises, Sound, EndsWhole, StarvesIn}
use Rattle.etcs_runs.specs.Runs.{RanOver}
use Rattle.etcs_runs.proofs.Known.{Appends-none, Appends-then, Consumes-none, Consumes-kept, Consumes-then}
use Rattle.etcs_runs.proofs.Endings.{flushed_of, of_engine}

-- after n reads, none of which failed: the source gave these bytes, and the sink took this text
pub record Going {S W : Type 0} (s : SourceOf S) (w : SinkOf W) (source source' : S) (sink sink' : W) (n : ℕ) (given output : List ℕ) : Type 0 where
  pub consumes : Consumes (s.remaining source) (s.remaining source') given
  pub appends : Appends (w.contents sink) (w.contents sink') output
  pub most : length given ≤ 4096 * n
  pub reads_are : s.reads source' ≡ s.reads source + n
  pub missed_are : s.failures source' ≡ s.failures source
  pub failed_are : w.failures sink' ≡ w.failures sink
  pub flushes_are : w.flushes sink' ≡ w.flushes sink

pub begun : {S W : Type 0} (s : SourceOf S) (w : SinkOf W) (source : S) (sink : W) → Going s w source source sink sink 0 [] []
begun s w source sink =
    record { consumes = Consumes-none (s.remaining source); appends = Appends-none (w.contents sink); most = omega arith; reads_are = omega arith; missed_are = refl; failed_are = refl; flushes_are = refl }

-- what a read gave, of a buffer of 4,096 bytes
pub piece_long : (count : ℕ) (buffer : List ℕ) → length buffer ≡ 4096 → count ≤ length buffer → (length (take count buffer) ≡ count) × (length (take count buffer) ≤ 4096)
piece_long count buffer room bound =
    let long = length-take-le count buffer bound in
    (long, omega arith)

module _ {S W : Type 0} {s : SourceOf S} {w : SinkOf W} {source mid : S} {sink kept : W} {n : ℕ} {given output : List ℕ} (h : Going s w source mid sink kept n given output) where
  pub few_given : n < 2 ^ 49 → length given < 2 ^ 62
  few_given below = omega (arith, below, h.most)

  -- one more read gave a piece
  pub read_more : (source' : S) (count : ℕ) (buffer : List ℕ) → length buffer ≡ 4096 → count ≤ length buffer → Consumes (s.remaining mid) (s.remaining source') (take count buffer) → s.reads source' ≡ s.reads mid + 1 → s.failures source' ≡ s.failures mid + 0 → Going s w source source' sink kept (n + 1) (given ++ take count buffer) output
  read_more source' count buffer room bound gave read none =
      let piece = take count buffer in
      let short = (piece_long count buffer room bound).1 in
      record {
        consumes = Consumes-then (s.remaining source) (s.remaining mid) (s.remaining source') given piece h.consumes gave;
        appends = h.appends;
        most = omega (arith, length-append given piece, h.most, short);
        reads_are = omega (arith, read, h.reads_are);
        missed_are = omega (arith, none, h.missed_are);
        failed_are = h.failed_are;
        flushes_are = h.flushes_are;
      }

  -- or nothing
  pub read_none : (source' : S) (count : ℕ) (buffer : List ℕ) → length buffer ≡ 4096 → count ≡ 0 → Consumes (s.remaining mid) (s.remaining source') (take count buffer) → s.reads source' ≡ s.reads mid + 1 → s.failures source' ≡ s.failures mid + 0 → Going s w source source' sink kept (n + 1) given output
  read_none source' count buffer room empty gave read none =
      let same : given ++ take count buffer ≡ given = ap (λ (k : ℕ). given ++ take k buffer) empty ∙ append-nil given in
      subst (λ (z : List ℕ). Going s w source source' sink kept (n + 1) z output) same (read_more source' count buffer room (omega (arith, empty)) gave read none)

  -- a text more was written
  pub written : (sink' : W) (text : List ℕ) → Writes w kept sink' text → w.flushes sink' ≡ w.flushes kept → Going s w source mid sink sink' n given (output ++ text)
  written sink' text wrote same = record {
    consumes = h.consumes;
    appends = Appends-then (w.contents sink) (w.contents kept) (w.contents sink') output text h.appends wrote.0;
    most = h.most;
    reads_are = h.reads_are;
    missed_are = h.missed_are;
    failed_are = wrote.1 ∙ h.failed_are;
    flushes_are = same ∙ h.flushes_are;
  }

  module _ {T : Type 0} (p : Promises T) (most : ℕ) where
    pub read_failed : p.Outputs given output → (source' : S) → n < most → Keeps (s.remaining mid) (s.remaining source') → s.reads source' ≡ s.reads mid + 1 → s.failures source' ≡ s.failures mid + 1 → RanOver s w p most source source' sink kept (Err Read)
    read_failed outputs source' below keeps read one =
        let gave = Consumes-kept (s.remaining source) (s.remaining mid) (s.remaining source') given h.consumes keeps in
        record {
          ok = tt;
          at_end = tt;
          engine = λ e. absurd e;
          read = λ _. (given, output, gave, h.appends, outputs);
          write = λ k e. absurd cc;
          flushed = tt;
          unflushed = inl h.flushes_are;
          few_reads = omega (arith, below, read, h.reads_are);
          memory = λ e. absurd cc;
          failures = (omega (arith, one, h.missed_are), h.failed_are);
          pieces = (given, gave, omega (arith, read, h.reads_are, h.most));
        }

    pub endless : p.Outputs given output → n ≤ length given → n ≡ most → RanOver s w p most source mid sink kept (Err Endless)
    endless outputs least all =
        let count : s.reads mid ≡ s.reads source + most = h.reads_are ∙ ap (λ k. s.reads source + k) all in
        record {
          ok = tt;
          at_end = tt;
          engine = λ _. (given, output, h.consumes, h.appends, inr (inr (refl, count, omega (arith, least, all), outputs)));
          read = λ e. absurd cc;
          write = λ k e. absurd cc;
          flushed = tt;
          unflushed = inl h.flushes_are;
          few_reads = omega (arith, count);
          memory = λ e. absurd cc;
          failures = (h.missed_are, h.failed_are);
          pieces = (given, h.consumes, omega (arith, h.reads_are, h.most));
        }

    -- the last step failed
    module _ (Stops : List ℕ → RunFault → Type 0) (Prints : List ℕ → Type 0) (sink' : W) (text : List ℕ) (e : RunFault) where
      pub failed : n ≤ most → Fails w kept sink' Stops Prints output text e → ((t : List ℕ) → Stops t e → p.Stops given t e ⊎ (IsAtEnd (s.remaining mid) × p.StopsAtEnd given t e)) → ((t : List ℕ) → Prints t → p.Prints given t ⊎ (IsAtEnd (s.remaining mid) × EndsWhole p given t)) → (Stops (output ++ text) e → StarvesIn p given (output ++ text)) → (IsOfEngine e → w.failures sink' ≡ w.failures kept) → FlushedOnlyWhere (w.flushes sink) (w.flushes sink') (Piped (λ given output. (e ≡ Write (counted (length output))) × IsAtEnd (s.remaining mid) × EndsWhole p given output) (s.remaining source) (s.remaining mid) (w.contents sink) (w.contents sink')) → RanOver s w p most source mid sink sink' (Err e)
      failed few (inl stop) stops prints starves uncounted unflushed =
          let took = Appends-then (w.contents sink) (w.contents kept) (w.contents sink') output text h.appends stop.2 in
          record {
            ok = tt;
            at_end = tt;
            engine = λ _. (given, output ++ text, h.consumes, took, elim (stops (output ++ text) stop.1) [ inl x ↦ inl x | inr x ↦ inr (inl x) ]);
            read = λ r. (let is : e ≡ Read = cc in absurd (subst IsOfEngine is stop.0));
            write = λ k r. (let is : e ≡ Write k = cc in absurd (subst IsOfEngine is stop.0));
            flushed = tt;
            unflushed = unflushed;
            few_reads = omega (arith, few, h.reads_are);
            memory = λ _. (given, output ++ text, h.consumes, took, starves stop.1);
            failures = of_engine (s.failures source) (s.failures mid) (w.failures sink) (w.failures sink') e stop.0 h.missed_are (uncounted stop.0 ∙ h.failed_are);
            pieces = (given, h.consumes, omega (arith, h.reads_are, h.most));
          }
      failed few (inr broke) stops prints starves uncounted unflushed =
          let k = broke.0.0 in
          let m = length output + k in
          let is : e ≡ Write (counted m) = broke.0.2 in
          let took = Appends-then (w.contents sink) (w.contents kept) (w.contents sink') output (take k text) h.appends broke.0.3 in
          record {
            ok = tt;
            at_end = tt;
            engine = λ mine. absurd (subst IsOfEngine is mine);
            read = λ r. absurd cc;
            write = λ n r. (let same : n ≡ counted m = cc in (m, same, (given, output ++ text, h.consumes, omega (arith, broke.0.1, length-append output text), subst (λ (t : List ℕ). Appends (w.contents sink) (w.contents sink') t) (sym (take-append-add output text k)) took, prints (output ++ text) broke.1)));
            flushed = tt;
            unflushed = unflushed;
            few_reads = omega (arith, few, h.reads_are);
            memory = λ r. absurd cc;
            failures = subst (λ (f : RunFault). FailedBy f (s.failures source) (s.failures mid) (w.failures sink) (w.failures sink')) (sym is) (h.missed_are, broke.2 ∙ ap (λ n. n + 1) h.failed_are);
            pieces = (given, h.consumes, omega (arith, h.reads_are, h.most));
          }

module _ {S W : Type 0} {s : SourceOf S} {w : SinkOf W} {source mid : S} {sink kept : W} {n : ℕ} {given output : List ℕ} (h : Going s w source mid sink kept n given output) {T : Type 0} (p : Promises T) (most : ℕ) (sound : Sound p) where
  -- one more read gave a piece, which was passed in vain
  pub passed_not : p.Outputs given output → n < most → (source' : S) (sink' : W) (count : ℕ) (buffer text : List ℕ) → length buffer ≡ 4096 → count ≤ length buffer → Consumes (s.remaining mid) (s.remaining source') (take count buffer) → s.reads source' ≡ s.reads mid + 1 → s.failures source' ≡ s.failures mid + 0 → (e : RunFault) → Fails w kept sink' (p.Stops (given ++ take count buffer)) (p.Prints (given ++ take count buffer)) output text e → (IsOfEngine e → w.failures sink' ≡ w.failures kept) → w.flushes sink' ≡ w.flushes kept → RanOver s w p most source source' sink sink' (Err e)
  passed_not outputs below source' sink' count buffer text room bound gave read none e why uncounted same =
      let piece = take count buffer in
      let more = given ++ piece in
      failed (read_more h source' count buffer room bound gave read none) p most (p.Stops more) (p.Prints more) sink' text e (omega (arith, below)) why (λ t x. inl x) (λ t x. inl x)
      (λ x. record { before = given; last = piece; given_is = refl; short = (piece_long count buffer room bound).1; whole = output; more = text; output_is = refl; outputs = outputs; prints = sound.stops_print more (output ++ text) e x })
      uncounted (inl (same ∙ h.flushes_are))

  -- the input is at its end
  pub closed : p.Outputs given output → n ≤ most → IsAtEnd (s.remaining mid) → (sink' : W) (text : List ℕ) (r : Result T RunFault) → IfOk r (λ tally. p.Ends given (output ++ text) tally × Writes w kept sink' text) → IfErr r (Fails w kept sink' (p.StopsAtEnd given) (λ t. p.Prints given t ⊎ EndsWhole p given t) output text) → IfErr r (λ e. IsOfEngine e → w.failures sink' ≡ w.failures kept) → OnOk r (w.flushes sink' ≡ (w.flushes kept + 1) % 2 ^ 64) → IfErr r (λ e. FlushedOnlyWhere (w.flushes kept) (w.flushes sink') ((e ≡ Write (counted (length (output ++ text)))) × Appends (w.contents kept) (w.contents sink') text × EndsWhole p given (output ++ text))) → RanOver s w p most source mid sink sink' r
  closed outputs few at sink' text (Ok tally) ok err uncounted flushed unflushed = record {
    ok = (given, output ++ text, h.consumes, Appends-then (w.contents sink) (w.contents kept) (w.contents sink') output text h.appends ok.1.0, ok.0);
    at_end = (at, h.missed_are, ok.1.1 ∙ h.failed_are);
    engine = tt;
    read = λ e. absurd cc;
    write = λ k e. absurd cc;
    flushed = flushed ∙ ap (λ k. (k + 1) % 2 ^ 64) h.flushes_are;
    unflushed = tt;
    few_reads = omega (arith, few, h.reads_are);
    memory = tt;
    failures = tt;
    pieces = (given, h.consumes, omega (arith, h.reads_are, h.most));
  }
  closed outputs few at sink' text (Err e) ok err uncounted flushed unflushed =
      failed h p most (p.StopsAtEnd given) (λ t. p.Prints given t ⊎ EndsWhole p given t) sink' text e few err (λ t x. inr (at, x)) (λ t x. elim x [ inl y ↦ inl y | inr y ↦ inr (at, y) ])
      (λ x. record { before = given; last = []; given_is = sym (append-nil given); short = omega arith; whole = output; more = text; output_is = refl; outputs = outputs; prints = sound.last_prints given (output ++ text) e x })
      uncounted (flushed_of (s.remaining source) (s.remaining mid) (w.contents sink) (w.contents kept) (w.contents sink') given output text h.consumes h.appends (IsAtEnd (s.remaining mid)) at (EndsWhole p) (w.flushes sink) (w.flushes kept) (w.flushes sink') h.flushes_are e unflushed)
