-- What a run writes is short, so that the bytes of it that the sink took are counted.
use Rattle.std.proofs.Common.{◌≡◌, ℕ, ◌+◌, ◌*◌, ◌<◌, ◌≤◌, ◌^◌, List, length, take, Option, sym, ap, subst, ◌∙◌, arith, length-append, inl, inr}
use Rattle.std.specs.Prelude.{◌⊎◌}
use Rattle.std.specs.Io.KnownBytes.{Appends}
use Rattle.etcs_runs.specs.declared.fault.RunFault.{RunFault}
use Rattle.etcs_runs.specs.declared.fault.RunFault.TheVariants.{Write}
use Rattle.etcs_runs.specs.Ends.{FlushedOnlyWhere}
use Rattle.etcs_runs.specs.Passes.{counted}
use Rattle.etcs_runs.specs.Pipes.{Piped, PipedFirst}
use Rattle.etcs_stream.specs.Printers.{nothing_reported}
use Rattle.etcs_stream.proofs.OutputLengths.{items_short, last_short}
use Rattle.etcs_stream.specs.declared.job.Job.{Job}
use Rattle.etcs_stream.specs.Inputs.{ended}
use Rattle.etcs_stream.specs.Engines.{EndsWhole, Prints}
use Rattle.etcs_stream.specs.laws.Printing.{all_first}
use Rattle.etcs_stream.proofs.Printing.{first_read}

module _ (job : Job) (given output : List ℕ) where
  prints_short : Prints job given output → length output < 2 ^ 62
  prints_short h =
      let first = first_read job.from job.kind given h.0 h.1 in
      let few : nothing_reported.count + length h.0 ≤ 1000000 = omega (arith, first.0) in
      let short = items_short job.command job.kind nothing_reported h.0 output h.2.0 first.1 few h.2.1 in
      let bound : 2097152 * 1000000 < 2 ^ 62 = omega arith in
      omega (arith, short, first.0, bound)

  -- at the end of the input
  whole_short : EndsWhole job given output → length output < 2 ^ 62
  whole_short (tally, h) =
      let first = first_read job.from job.kind given h.items (all_first job.from job.kind given h.items ended h.items_of) in
      let few : nothing_reported.count + length h.items ≤ 1000000 = omega (arith, first.0) in
      let short = items_short job.command job.kind nothing_reported h.items h.lines h.after first.1 few h.text in
      let last = last_short job.command h.items h.lines h.after h.last tally h.text h.closes in
      let bound : 2097152 * 1000000 + 2 ^ 40 < 2 ^ 62 = omega arith in
      omega (arith, short, first.0, bound, last, ap length h.output_is, length-append h.lines h.last)

  written_short : (AtEnd : Type 0) → Prints job given output ⊎ (AtEnd × EndsWhole job given output) → length output < 2 ^ 62
  written_short AtEnd (inl h) = prints_short h
  written_short AtEnd (inr h) = whole_short h.1

same_count : (k : ℕ) → k < 2 ^ 62 → counted k ≡ k
same_count k h = omega (arith, h)

module _ (job : Job) (AtEnd : Type 0) (left left' held held' : Option (List ℕ)) where
  -- as many bytes as the fault says
  pub counted_first : (n : ℕ) → (k : ℕ) × (n ≡ counted k) × PipedFirst k (λ given output. Prints job given output ⊎ (AtEnd × EndsWhole job given output)) left left' held held' → PipedFirst n (λ given output. Prints job given output ⊎ (AtEnd × EndsWhole job given output)) left left' held held'
  counted_first n (k, is, (given, output, gave, within, took, why)) =
      let short : k < 2 ^ 62 = omega (arith, within, written_short job given output AtEnd why) in
      let same : n ≡ k = is ∙ same_count k short in
      (given, output, gave, omega (arith, same, within), subst (λ (m : ℕ). Appends held held' (take m output)) (sym same) took, why)

  pub counted_flush : (before after : ℕ) (e : RunFault) → FlushedOnlyWhere before after (Piped (λ given output. (e ≡ Write (counted (length output))) × AtEnd × EndsWhole job given output) left left' held held') → FlushedOnlyWhere before after (Piped (λ given output. (e ≡ Write (length output)) × AtEnd × EndsWhole job given output) left left' held held')
  counted_flush before after e (inl kept) = inl kept
  counted_flush before after e (inr (once, (given, output, gave, took, (is, at, whole)))) =
      inr (once, (given, output, gave, took, (is ∙ ap Write (same_count (length output) (whole_short job given output whole)), at, whole)))
