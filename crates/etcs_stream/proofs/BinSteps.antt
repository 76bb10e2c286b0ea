-- Bytes that are the items, piece by piece.
use Rattle.std.proofs.Common.{◌≡◌, ℕ, ◌+◌, ◌<◌, ◌≤◌, List, [], ◌++◌, length, Result, Ok, Err, refl, sym, ap, subst, ◌∙◌, append_assoc, inl, inr}
use Rattle.std.specs.Prelude.{◌⊎◌, OnOk, IfOk, IfErr}
use Rattle.std.proofs.lemmas.List.{append-nil}
use Rattle.etcs_bits.specs.Bits.{bits}
use Rattle.etcs_runs.specs.declared.form.Form.{Form}
use Rattle.etcs_runs.specs.declared.form.Form.TheVariants.{Bin}
use Rattle.etcs_text.specs.Entries.{EntryValue}
use Rattle.etcs_stream.specs.declared.job.Job.{Job}
use Rattle.etcs_runs.specs.declared.fault.RunFault.{RunFault}
use Rattle.etcs_runs.specs.declared.fault.RunFault.TheVariants.{Truncated, Memory}
use Rattle.etcs_runs.specs.Faults.{IsOfEngine}
use Rattle.etcs_stream.specs.Reported.{Reported}
use Rattle.etcs_stream.specs.Printers.{Closes}
use Rattle.etcs_stream.specs.declared.job.Tally.{Tally}
use Rattle.etcs_text.specs.Readers.{ReaderValue, seen_bits}
use Rattle.etcs_stream.specs.Readers.{Awaits, HasRoom}
use Rattle.etcs_stream.specs.Taking.{Advances, Halts}
use Rattle.etcs_stream.specs.Stands.{ItemsStand, BinStands}
use Rattle.etcs_stream.specs.Inputs.{End, ended, truncated, BitItems, ItemsOf, SaysFirst}
use Rattle.etcs_stream.specs.Engines.{Ends, Stops, StopsAtEnd}
use Rattle.etcs_bits.proofs.ByteBits.{bits-append}
use Rattle.etcs_stream.proofs.OutputLemmas.{closes_items}
use Rattle.etcs_stream.proofs.Standing.{stand_first, stand_more, stand_halts, halt_stops, stand_ended, stand_truncated}

items_of : (job : Job) (given : List ℕ) (es : List EntryValue) (end : End) → job.from ≡ Bin → BitItems job.kind (bits given) es end → ItemsOf job.from job.kind given es end
items_of job given es end e h = subst (λ (f : Form). ItemsOf f job.kind given es end) (sym e) h

module _ (job : Job) (r : ReaderValue) (n : Reported) (given output t : List ℕ) (h : BinStands job r n given output) (none : t ≡ []) where
  -- no text was written since
  so_far : ItemsStand job (seen_bits r.progress) n given (output ++ t)
  so_far = subst (λ z. ItemsStand job (seen_bits r.progress) n given z) (sym (ap (λ (z : List ℕ). output ++ z) none ∙ append-nil output)) h.2

  pub bin_fed : (job' : Job) (r' : ReaderValue) (n' : Reported) (piece t' : List ℕ) (answer : Result Unit RunFault) → job' ≡ job → OnOk answer (Awaits job.kind r') → OnOk answer (n'.count ≤ 1000000) → (HasRoom n.count (seen_bits r.progress) → OnOk answer (HasRoom n'.count (seen_bits r'.progress))) → OnOk answer (Advances job.kind job.command (seen_bits r.progress) (seen_bits r'.progress) n n' piece t t') → OnOk answer (BinStands job' r' n' (given ++ piece) (output ++ t'))
  bin_fed job' r' n' piece t' (Err e) same waits few room more = tt
  bin_fed job' r' n' piece t' (Ok u) same waits few room more =
      subst (λ (j : Job). BinStands j r' n' (given ++ piece) (output ++ t')) (sym same)
      (h.0, waits, stand_more job (seen_bits r.progress) n given output t so_far piece t' (seen_bits r'.progress) n' more few (room h.2.room) waits.unfinished)

  pub bin_stops : (piece t' : List ℕ) (answer : Result Unit RunFault) → IfErr answer (λ e. Halts job.kind job.command (seen_bits r.progress) n piece t t' e) → IfErr answer (λ e. IsOfEngine e × Stops job (given ++ piece) (output ++ t') e)
  bin_stops piece t' (Ok u) halts = tt
  bin_stops piece t' (Err e) halts =
      halt_stops job (given ++ piece) (given ++ piece) (output ++ t') e
      (stand_halts job (seen_bits r.progress) n given output t so_far piece t' e halts)
      (subst (λ (f : Form). SaysFirst f (given ++ piece) (given ++ piece)) (sym h.0) refl)
      (λ more es end early k. items_of job ((given ++ piece) ++ more) es end h.0 (subst (λ z. BitItems job.kind z es end) (sym (bits-append (given ++ piece) more)) (k (bits more))))

  bin_ends : (last t' : List ℕ) (tally : Tally) → seen_bits r.progress ≡ [] → Closes job.command n last tally → t' ≡ t ++ last → Ends job given (output ++ t') tally
  bin_ends last t' tally e closes is = record {
    items = so_far.items;
    items_of = items_of job given so_far.items ended h.0 (stand_ended job (seen_bits r.progress) n given (output ++ t) so_far e);
    lines = output ++ t;
    last = last;
    after = n;
    text = so_far.text;
    closes = closes;
    output_is = ap (λ (z : List ℕ). output ++ z) is ∙ sym (append_assoc output t last);
    items_are = closes_items job.command n last tally closes ∙ so_far.count_is;
  }

  bin_truncated : (fault : RunFault) → fault ≡ Truncated (n.count + 1) (length (seen_bits r.progress)) → 0 < length (seen_bits r.progress) → IsOfEngine fault × StopsAtEnd job given (output ++ t) fault
  bin_truncated fault e some =
      let seen = seen_bits r.progress in (
        subst IsOfEngine (sym e) tt,
        inr (
          so_far.items,
          truncated (length seen),
          e ∙ ap (λ k. Truncated (k + 1) (length seen)) so_far.count_is,
          (n, so_far.text),
          items_of job given so_far.items (truncated (length seen)) h.0 (stand_truncated job seen n given (output ++ t) so_far some h.1.viable),
        ),
      )

  bin_starved : (fault : RunFault) → fault ≡ Memory → IsOfEngine fault × StopsAtEnd job given (output ++ t) fault
  bin_starved fault e =
      let first = stand_first job (seen_bits r.progress) n given given (output ++ t) so_far (subst (λ (f : Form). SaysFirst f given given) (sym h.0) refl) in
      (subst IsOfEngine (sym e) tt, inl (e, (so_far.items, first, (n, so_far.text))))

  -- an item isn't whole, or memory was refused for the last lines
  bin_not_closed : (t' : List ℕ) (fault : RunFault) → t' ≡ t → ((fault ≡ Truncated (n.count + 1) (length (seen_bits r.progress))) × (0 < length (seen_bits r.progress))) ⊎ (fault ≡ Memory) → IsOfEngine fault × StopsAtEnd job given (output ++ t') fault
  bin_not_closed t' fault same (inl h') = subst (λ z. IsOfEngine fault × StopsAtEnd job given (output ++ z) fault) (sym same) (bin_truncated fault h'.0 h'.1)
  bin_not_closed t' fault same (inr e) = subst (λ z. IsOfEngine fault × StopsAtEnd job given (output ++ z) fault) (sym same) (bin_starved fault e)

  -- what the end of the input returns
  pub bin_finish_ends : (t' : List ℕ) (answer : Result Tally RunFault) → OnOk answer (seen_bits r.progress ≡ []) → IfOk answer (λ tally. (last : List ℕ) × Closes job.command n last tally × (t' ≡ t ++ last)) → IfOk answer (λ tally. Ends job given (output ++ t') tally)
  bin_finish_ends t' (Ok tally) e (last, closes, is) = bin_ends last t' tally e closes is
  bin_finish_ends t' (Err f) e h' = tt

  pub bin_finish_stops : (t' : List ℕ) (answer : Result Tally RunFault) → IfErr answer (λ e. (t' ≡ t) × (((e ≡ Truncated (n.count + 1) (length (seen_bits r.progress))) × (0 < length (seen_bits r.progress))) ⊎ (e ≡ Memory))) → IfErr answer (λ e. IsOfEngine e × StopsAtEnd job given (output ++ t') e)
  bin_finish_stops t' (Ok tally) h' = tt
  bin_finish_stops t' (Err f) (same, why) = bin_not_closed t' f same why
