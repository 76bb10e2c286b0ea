-- What is there of an input after each piece, and how its items end.
use Rattle.std.proofs.Common.{◌≡◌, ℕ, ◌+◌, ◌<◌, ◌≤◌, Bool, List, [], ◌++◌, length, refl, sym, ap, subst, ◌∙◌, arith, append_assoc, length-append, inl, inr}
use Rattle.std.specs.Prelude.{◌⊎◌}
use Rattle.std.proofs.lemmas.List.{append-nil}
use Rattle.etcs_bits.specs.Bits.{bits}
use Rattle.etcs_vars.specs.declared.var.Var.{Var}
use Rattle.etcs_vars.specs.Reading as reading
use Rattle.etcs_vars.specs.Reading.{IsOutcome, NoneYet, Viable}
use Rattle.etcs_vars.specs.Walking.{Refuses}
use Rattle.etcs_vars.proofs.Outcomes.{none_refused, refuses_longer}
use Rattle.etcs_text.specs.declared.entry.Kind.{Kind}
use Rattle.etcs_text.specs.Entries.{EntryValue, EntryReads}
use Rattle.etcs_stream.specs.Reported.{Reported}
use Rattle.etcs_stream.specs.Printers.{OutputsItems, ItemsText, nothing_reported}
use Rattle.etcs_stream.specs.declared.job.Job.{Job}
use Rattle.etcs_runs.specs.declared.fault.RunFault.{RunFault}
use Rattle.etcs_runs.specs.declared.fault.RunFault.TheVariants.{Refused, Truncated, BadHex, BadJson, Read, Write, Endless, Memory}
use Rattle.etcs_runs.specs.Faults.{IsOfEngine}
use Rattle.etcs_stream.specs.Streams.{AreSpelled}
use Rattle.etcs_stream.specs.Readers.{HasRoom}
use Rattle.etcs_stream.specs.Taking.{Advances, Halts, HaltsBy}
use Rattle.etcs_stream.specs.Stands.{ItemsStand}
use Rattle.etcs_stream.specs.Inputs.{End, ended, refused, truncated, bad_hex, bad_json, endless, BitItems, FirstItems, SaysFirst, ItemsOf}
use Rattle.etcs_stream.specs.Engines.{EndsBy, Stops, StopsAtEnd}
use Rattle.etcs_text.proofs.ItemKinds.{Language, kind_regular}
use Rattle.etcs_bits.proofs.ByteBits.{bits-append}
use Rattle.etcs_stream.specs.laws.Printing.{first_bytes}
use Rattle.etcs_stream.proofs.Streams.{AreSpelled-append}
use Rattle.etcs_stream.proofs.OutputLemmas.{outputs_append, outputs_count}

-- ---- Some bytes more.

-- of these bytes the items were reported, and then no more was taken
pub record ItemsHalt (job : Job) (bytes output : List ℕ) (fault : RunFault) : Type 0 where
  pub items : List EntryValue
  pub spelt : List Bool
  pub rest : List Bool
  pub are_spelled : AreSpelled job.kind items spelt
  pub bits_are : bits bytes ≡ spelt ++ rest
  pub few : length items ≤ 1000000
  pub text : ItemsText job.command items output
  pub why : HaltsBy job.kind (length items) rest fault

more_bits : (bytes piece : List ℕ) (p seen q rest : List Bool) → bits bytes ≡ p ++ seen → seen ++ bits piece ≡ q ++ rest → bits (bytes ++ piece) ≡ (p ++ q) ++ rest
more_bits bytes piece p seen q rest h g =
    bits-append bytes piece
    ∙ ap (λ (z : List Bool). z ++ bits piece) h
    ∙ append_assoc p seen (bits piece)
    ∙ ap (λ (z : List Bool). p ++ z) g
    ∙ sym (append_assoc p q rest)

-- the text of the items that were reported, and of those after them
all_text : (job : Job) (s s' : Reported) (ds es : List EntryValue) (output t added t' : List ℕ) → OutputsItems job.command nothing_reported ds (output ++ t) s → OutputsItems job.command s es added s' → t' ≡ t ++ added → OutputsItems job.command nothing_reported (ds ++ es) (output ++ t') s'
all_text job s s' ds es output t added t' h g is =
    subst (λ z. OutputsItems job.command nothing_reported (ds ++ es) z s') (append_assoc output t added ∙ ap (λ (z : List ℕ). output ++ z) (sym is))
    (outputs_append job.command nothing_reported s s' ds es (output ++ t) added h g)

module _ (job : Job) (seen : List Bool) (s : Reported) (bytes output t : List ℕ) (h : ItemsStand job seen s bytes (output ++ t)) (piece t' : List ℕ) where
  pub stand_more : (seen' : List Bool) (s' : Reported) → Advances job.kind job.command seen seen' s s' piece t t' → s'.count ≤ 1000000 → HasRoom s'.count seen' → NoneYet (Language job.kind) seen' → ItemsStand job seen' s' (bytes ++ piece) (output ++ t')
  stand_more seen' s' g few room none = record {
    items = h.items ++ g.reported;
    spelt = h.spelt ++ g.spelt;
    are_spelled = AreSpelled-append job.kind h.items g.reported h.spelt g.spelt h.are_spelled g.are_spelled;
    bits_are = more_bits bytes piece h.spelt seen g.spelt seen' h.bits_are g.bits_are;
    count_is = omega (arith, h.count_is, outputs_count job.command s g.reported g.added s' g.added_is, length-append h.items g.reported);
    few = few;
    room = room;
    none_more = none;
    text = all_text job s s' h.items g.reported output t g.added t' h.text g.added_is g.text_is;
  }

  pub stand_halts : (fault : RunFault) → Halts job.kind job.command seen s piece t t' fault → ItemsHalt job (bytes ++ piece) (output ++ t') fault
  stand_halts fault g =
      let all : s.count + length g.reported ≡ length (h.items ++ g.reported) = omega (arith, h.count_is, length-append h.items g.reported) in
      record {
        items = h.items ++ g.reported;
        spelt = h.spelt ++ g.spelt;
        rest = g.rest;
        are_spelled = AreSpelled-append job.kind h.items g.reported h.spelt g.spelt h.are_spelled g.are_spelled;
        bits_are = more_bits bytes piece h.spelt seen g.spelt g.rest h.bits_are g.bits_are;
        few = omega (arith, all, g.few);
        text = (g.after, all_text job s g.after h.items g.reported output t g.added t' h.text g.added_is g.text_is);
        why = subst (λ n. HaltsBy job.kind n g.rest fault) all g.why;
      }

-- nothing has come
pub stand_nothing : (job : Job) (seen : List Bool) (s : Reported) → seen ≡ [] → s ≡ nothing_reported → NoneYet (Language job.kind) seen → ItemsStand job seen s [] []
unfolding bits
stand_nothing job seen s e n none = record {
  items = [];
  spelt = [];
  are_spelled = refl;
  bits_are = sym e;
  count_is = ap (λ (k : Reported). k.count) n;
  few = omega (arith, ap (λ (k : Reported). k.count) n);
  room = λ h. omega (arith, ap (λ (k : Reported). k.count) n);
  none_more = none;
  text = (refl, n);
}

-- an input that says bytes isn't JSON
-- the items that were reported are the first of an input that says the bytes first
pub stand_first : (job : Job) (seen : List Bool) (s : Reported) (given bytes output : List ℕ) (h : ItemsStand job seen s bytes output) → SaysFirst job.from given bytes → FirstItems job.from job.kind given h.items
stand_first job seen s given bytes output h says = first_bytes job.from job.kind given h.items (record { bytes = bytes; says = says; spelt = h.spelt; rest = seen; are_spelled = h.are_spelled; bits_are = h.bits_are; few = omega (arith, h.few, h.count_is) })

-- ---- The items end in each longer input.

-- an end that more bytes don't change
abbrev pub IsEarly : End → Type 0
IsEarly ended = ⊥
IsEarly (refused i x) = Unit {0}
IsEarly (truncated k) = ⊥
IsEarly (bad_hex line place) = ⊥
IsEarly (bad_json line) = ⊥
IsEarly endless = Unit {0}

-- the items of the bytes, with any bits after them, end by the fault
pub record EndsEarly (job : Job) (bytes : List ℕ) (items : List EntryValue) (fault : RunFault) : Type 0 where
  pub end : End
  pub early : IsEarly end
  pub by : EndsBy (length items) end fault
  pub are : (more : List Bool) → BitItems job.kind (bits bytes ++ more) items end

refused_longer : (kind : Kind) (rest more : List Bool) (i : ℕ) (x : Var) → Refuses (Language kind) rest i x → IsOutcome (EntryReads kind) (rest ++ more) (reading.refused i x)
refused_longer kind rest more i x h =
    let r = refuses_longer (Language kind) rest more i x h in
    ((none_refused (Language kind) (kind_regular kind) (rest ++ more) i x r, r.within, r.blocked), r.owned)

module _ (job : Job) (bytes output : List ℕ) where
  longer : (fault : RunFault) (h : ItemsHalt job bytes output fault) (more : List Bool) → bits bytes ++ more ≡ h.spelt ++ (h.rest ++ more)
  longer fault h more = ap (λ (z : List Bool). z ++ more) h.bits_are ∙ append_assoc h.spelt h.rest more

  -- memory was refused, or the items end early
  pub ends_early : (fault : RunFault) (h : ItemsHalt job bytes output fault) → IsOfEngine fault × ((fault ≡ Memory) ⊎ EndsEarly job bytes h.items fault)
  ends_early (Refused item i x) h = (
    tt,
    inr (record {
      end = refused i x;
      early = tt;
      by = ap (λ n. Refused n i x) h.why.0;
      are = λ more. record {
        spelt = h.spelt;
        rest = h.rest ++ more;
        are_spelled = h.are_spelled;
        bits_are = longer (Refused item i x) h more;
        few = h.few;
        ends = (h.why.1, refused_longer job.kind h.rest more i x h.why.2);
      };
    }),
  )
  ends_early (Truncated item k) h = absurd h.why
  ends_early (BadHex line place) h = absurd h.why
  ends_early (BadJson line) h = absurd h.why
  ends_early Read h = absurd h.why
  ends_early (Write sent) h = absurd h.why
  ends_early Endless h = (
    tt,
    inr (record {
      end = endless;
      early = tt;
      by = refl;
      are = λ more. record {
        spelt = h.spelt;
        rest = h.rest ++ more;
        are_spelled = h.are_spelled;
        bits_are = longer Endless h more;
        few = h.few;
        ends = (h.why.0, omega (arith, h.why.1, length-append h.rest more));
      };
    }),
  )
  ends_early Memory h = (tt, inl refl)

  pub halt_first : (fault : RunFault) (given : List ℕ) (h : ItemsHalt job bytes output fault) → SaysFirst job.from given bytes → FirstItems job.from job.kind given h.items
  halt_first fault given h says = first_bytes job.from job.kind given h.items (record { bytes = bytes; says = says; spelt = h.spelt; rest = h.rest; are_spelled = h.are_spelled; bits_are = h.bits_are; few = h.few })

-- from the items of the bytes to those of the input that says them
pub halt_stops : (job : Job) (given bytes output : List ℕ) (fault : RunFault) → ItemsHalt job bytes output fault → SaysFirst job.from given bytes → ((more : List ℕ) (es : List EntryValue) (end : End) → IsEarly end → ((b : List Bool) → BitItems job.kind (bits bytes ++ b) es end) → ItemsOf job.from job.kind (given ++ more) es end) → IsOfEngine fault × Stops job given output fault
halt_stops job given bytes output fault h says on =
    let both = ends_early job bytes output fault h in (
      both.0,
      elim both.1 [
        | inl m ↦ inl (m, (h.items, halt_first job bytes output fault given h says, h.text))
        | inr e ↦ inr (h.items, e.end, e.by, h.text, λ more. on more h.items e.end e.early e.are)
      ],
    )

pub halt_ends : (job : Job) (given bytes output : List ℕ) (fault : RunFault) → ItemsHalt job bytes output fault → SaysFirst job.from given bytes → ((es : List EntryValue) (end : End) → IsEarly end → BitItems job.kind (bits bytes) es end → ItemsOf job.from job.kind given es end) → IsOfEngine fault × StopsAtEnd job given output fault
halt_ends job given bytes output fault h says on =
    let both = ends_early job bytes output fault h in (
      both.0,
      elim both.1 [
        | inl m ↦ inl (m, (h.items, halt_first job bytes output fault given h says, h.text))
        | inr e ↦
            let here : BitItems job.kind (bits bytes) h.items e.end = subst (λ z. BitItems job.kind z h.items e.end) (append-nil (bits bytes)) (e.are []) in
            inr (h.items, e.end, e.by, h.text, on h.items e.end e.early here)
      ],
    )

-- ---- The input ends here.

-- it ends with its items, or inside one
module _ (job : Job) (seen : List Bool) (s : Reported) (bytes output : List ℕ) (h : ItemsStand job seen s bytes output) where
  pub stand_ended : seen ≡ [] → BitItems job.kind (bits bytes) h.items ended
  stand_ended e = record { spelt = h.spelt; rest = seen; are_spelled = h.are_spelled; bits_are = h.bits_are; few = omega (arith, h.few, h.count_is); ends = e }

  pub stand_truncated : 0 < length seen → Viable (Language job.kind) seen → BitItems job.kind (bits bytes) h.items (truncated (length seen))
  stand_truncated some viable = record {
    spelt = h.spelt;
    rest = seen;
    are_spelled = h.are_spelled;
    bits_are = h.bits_are;
    few = omega (arith, h.few, h.count_is);
    ends = (let n : length h.items < 1000000 = omega (arith, h.room some, h.count_is) in n, refl, some, (h.none_more, viable));
  }
