-- The front of some bytes, up to the end of an item or all of them.
use Rattle.std.proofs.Common.{◌≡◌, ℕ, ◌+◌, ◌*◌, ◌<◌, ◌≤◌, Bool, List, [], ◌∷◌, ◌++◌, length, take, Ok, Option, Some, None, refl, ap, sym, subst, ◌∙◌, arith}
use Rattle.std.specs.Prelude.{IfSome}
use Rattle.std.proofs.lemmas.Option.{IfSome_then}
use Rattle.etcs_bits.specs.Bits.{bits}
use Rattle.etcs_vars.specs.declared.feed.Fed.TheVariants.{More, Done}
use Rattle.etcs_vars.specs.declared.var.Var.{Var}
use Rattle.etcs_vars.specs.Reading.{IsOutcome, done, readings_of, refused}
use Rattle.etcs_vars.specs.Walking.{Refuses}
use Rattle.etcs_text.specs.declared.entry.Kind.{Kind}
use Rattle.etcs_text.specs.Entries.{EntryReads, EntryValue}
use Rattle.etcs_runs.specs.declared.fault.RunFault.{RunFault}
use Rattle.etcs_stream.specs.declared.job.Job.{Job}
use Rattle.etcs_text.specs.Readers.{ReaderValue, Feeds, reading, finished, seen_bits}
use Rattle.etcs_stream.specs.Readers.{Awaits}
use Rattle.etcs_stream.specs.Taking.{Advances, Halts, HaltsBy, Says, TakesFront}
use Rattle.etcs_stream.specs.Printers.{OutputsItem}
use Rattle.etcs_stream.specs.Reported.{Reported}
use Rattle.etcs_stream.proofs.Saying.{says_here}
use Rattle.etcs_stream.proofs.Streams.{Awaits-fresh, Halts-here, more_awaits, more_advances, done_takes, done_within, done_advances}

empty : (b : List Bool) → length b ≡ 0 → b ≡ []
empty [] e = refl
empty (x ∷ b) e = absurd (omega (arith, e))

refused_front : (kind : Kind) (seen new : List Bool) (i : ℕ) (x : Var) → seen ≡ [] → IsOutcome (EntryReads kind) new (refused i x) → Refuses (readings_of (EntryReads kind)) (seen ++ new) i x
refused_front kind seen new i x none o =
    let here : Refuses (readings_of (EntryReads kind)) new i x = record { within = o.0.1; owned = o.1; blocked = o.0.2 } in
    subst (λ (b : List Bool). Refuses (readings_of (EntryReads kind)) (b ++ new) i x) (sym none) here

-- what is refused where no bits came before
pub refused_fronts : (kind : Kind) (seen new : List Bool) (o : Option (ℕ × Var)) → length seen ≡ 0 → IfSome o (λ t. IsOutcome (EntryReads kind) new (refused t.0 t.1)) → IfSome o (λ t. Refuses (readings_of (EntryReads kind)) (seen ++ new) t.0 t.1)
refused_fronts kind seen new o none there = IfSome_then o there (λ t h. refused_front kind seen new t.0 t.1 (empty seen none) h)

fresh : (kind : Kind) (r : ReaderValue) → r.kind ≡ kind → r.progress ≡ reading [] → r ≡ record { kind = kind; progress = reading [] }
fresh kind r k p i = record { kind = k i; progress = p i }

module _ (job : Job) (r : ReaderValue) (before : Reported) (bytes text : List ℕ) (waits : Awaits job.kind r) where
  -- all of them, and the item isn't whole
  pub more_front : (r' : ReaderValue) (n : ℕ) → r'.kind ≡ r.kind → 0 < length bytes → before.count < 1000000 → n ≡ length bytes → Feeds job.kind (seen_bits r.progress) (bits bytes) (Ok More) r'.progress → TakesFront job r r' before before bytes text text n
  more_front r' n kind some less all f =
      let advances = more_advances job.kind job.command (seen_bits r.progress) bytes r'.progress before text f in
      record {
        some = omega arith;
        within = omega arith;
        waits = more_awaits job.kind (seen_bits r.progress) (bits bytes) r' (kind ∙ waits.kind_is) f;
        few = omega arith;
        room = λ _. less;
        advances = subst (λ (k : ℕ). Advances job.kind job.command (seen_bits r.progress) (seen_bits r'.progress) before before (take k bytes) text text) (sym all) advances;
      }

  -- up to the item's end, and it was reported
  pub done_front : (mid r' : ReaderValue) (after : Reported) (text' : List ℕ) (k : ℕ) (f : Feeds job.kind (seen_bits r.progress) (bits bytes) (Ok (Done k)) mid.progress) → r' ≡ record { kind = job.kind; progress = reading [] } → after.count ≡ before.count + 1 → before.count < 1000000 → (added : List ℕ) × OutputsItem job.command f.0 before added after × (text' ≡ text ++ added) → TakesFront job r r' before after bytes text text' k
  done_front mid r' after text' k f next one less outputs =
      let none : seen_bits r'.progress ≡ [] = ap (λ (z : ReaderValue). seen_bits z.progress) next in
      record {
        some = done_takes job.kind (seen_bits r.progress) (bits bytes) k mid.progress waits.unfinished f;
        within = done_within job.kind (seen_bits r.progress) bytes k mid.progress f;
        waits = Awaits-fresh job.kind r' next;
        few = omega arith;
        room = λ h. absurd (omega (arith, h, ap length none));
        advances = done_advances job.kind job.command (seen_bits r.progress) (seen_bits r'.progress) bytes k mid.progress before after text text' f none outputs;
      }

  -- up to the end of an item with which they begin, and it was reported
  seen_front : seen_bits r.progress ≡ [] → (after : Reported) (text' : List ℕ) (k : ℕ) (e : EntryValue) → IsOutcome (EntryReads job.kind) (bits bytes) (done e (8 * k)) → after.count ≡ before.count + 1 → before.count < 1000000 → (added : List ℕ) × OutputsItem job.command e before added after × (text' ≡ text ++ added) → TakesFront job r r before after bytes text text' k
  seen_front none after text' k e is one less outputs =
      let same : 8 * k ≡ 0 + 8 * k = omega arith in
      let whole : IsOutcome (EntryReads job.kind) (seen_bits r.progress ++ bits bytes) (done e (length (seen_bits r.progress) + 8 * k)) = subst (λ (b : List Bool). IsOutcome (EntryReads job.kind) (b ++ bits bytes) (done e (length b + 8 * k))) (sym none) (subst (λ (n : ℕ). IsOutcome (EntryReads job.kind) (bits bytes) (done e n)) same is) in
      done_front (record { kind = job.kind; progress = finished e }) r after text' k (e, refl, tt, is.0, whole) (fresh job.kind r waits.kind_is (waits.progress_is ∙ ap reading none)) one less outputs

  pub seen_fronts : (o : Option ℕ) → length (seen_bits r.progress) ≡ 0 → (after : Reported) (text' : List ℕ) → before.count < 1000000 → IfSome o (λ n. after.count ≡ before.count + 1) → IfSome o (λ n. (n ≤ length bytes) × (e : EntryValue) × IsOutcome (EntryReads job.kind) (bits bytes) (done e (8 * n)) × (added : List ℕ) × OutputsItem job.command e before added after × (text' ≡ text ++ added)) → IfSome o (λ n. TakesFront job r r before after bytes text text' n)
  seen_fronts None none after text' less one there = tt
  seen_fronts (Some n) none after text' less one (within, e, is, added, outputs, same) = seen_front (empty (seen_bits r.progress) none) after text' n e is one less (added, outputs, same)

  -- none of them: nothing was written
  pub stops_here : (now : Reported) (text' : List ℕ) (e : RunFault) → before.count ≤ 1000000 → text' ≡ text → now.count ≤ before.count + 1 → HaltsBy job.kind before.count (seen_bits r.progress ++ bits bytes) e → Halts job.kind job.command (seen_bits r.progress) before bytes text text' e × Says job.command before now text text'
  stops_here now text' e few same counted why =
      (Halts-here job.kind job.command (seen_bits r.progress) before bytes text text' e few same why, says_here job.command before now text text' same counted)
