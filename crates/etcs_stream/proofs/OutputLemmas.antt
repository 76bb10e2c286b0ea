-- What is written of items one after another.
use Rattle.std.proofs.Common.{◌≡◌, ℕ, ◌+◌, List, [], ◌∷◌, ◌++◌, length, refl, sym, ap, subst, ◌∙◌, arith, append_assoc}
use Rattle.std.proofs.lemmas.List.{append-nil}
use Rattle.etcs_text.specs.Entries.{EntryValue, of_telegram, of_message}
use Rattle.etcs_stream.specs.declared.job.Command.{Command}
use Rattle.etcs_stream.specs.declared.job.Command.TheVariants.{Show, Check, Convert, Group}
use Rattle.etcs_runs.specs.declared.form.Form.TheVariants.{Hex, Bin, Json}
use Rattle.etcs_stream.specs.declared.job.Tally.{Tally}
use Rattle.etcs_stream.specs.Reported.{Reported}
use Rattle.etcs_stream.specs.Printers.{OutputsItem, OutputsItems, Closes}

pub outputs_append : (c : Command) (s m s' : Reported) (ds es : List EntryValue) (t u : List ℕ) → OutputsItems c s ds t m → OutputsItems c m es u s' → OutputsItems c s (ds ++ es) (t ++ u) s'
outputs_append c s m s' [] es t u h g =
    subst (λ (z : List ℕ). OutputsItems c s es (z ++ u) s') (sym h.0) (subst (λ (k : Reported). OutputsItems c k es u s') h.1 g)
outputs_append c s m s' (d ∷ ds) es t u h g =
    (h.0, h.1, h.2 ++ u, ap (λ (z : List ℕ). z ++ u) h.3 ∙ append_assoc h.1 h.2 u, h.4, outputs_append c h.0 m s' ds es h.2 u h.5 g)

-- an item counts as one
pub one_count : (c : Command) (e : EntryValue) (s : Reported) (text : List ℕ) (s' : Reported) → OutputsItem c e s text s' → s'.count ≡ s.count + 1
one_count Show e s text s' h = ap (λ (k : Reported). k.count) h.1
one_count Check e s text s' h = ap (λ (k : Reported). k.count) h.1
one_count (Convert Hex) e s text s' h = ap (λ (k : Reported). k.count) h.1
one_count (Convert Bin) e s text s' h = ap (λ (k : Reported). k.count) h.1
one_count (Convert Json) e s text s' h = ap (λ (k : Reported). k.count) h.1
one_count Group (of_telegram t) s text s' h = h.count_is
one_count Group (of_message way m) s text s' h = absurd h

pub outputs_count : (c : Command) (s : Reported) (es : List EntryValue) (text : List ℕ) (s' : Reported) → OutputsItems c s es text s' → s'.count ≡ s.count + length es
outputs_count c s [] text s' h = omega (arith, ap (λ (k : Reported). k.count) h.1)
outputs_count c s (e ∷ es) text s' h =
    let one = one_count c e s h.1 h.0 h.4 in
    let more = outputs_count c h.0 es h.2 s' h.5 in
    omega (arith, one, more)

-- one item
pub outputs_one : (c : Command) (s s' : Reported) (e : EntryValue) (text : List ℕ) → OutputsItem c e s text s' → OutputsItems c s (e ∷ []) text s'
outputs_one c s s' e text h = (s', text, [], sym (append-nil text), h, (refl, refl))

-- what a run returns counts the items
pub closes_items : (c : Command) (s : Reported) (last : List ℕ) (tally : Tally) → Closes c s last tally → tally.items ≡ s.count
closes_items Show s last tally h = h.1
closes_items Check s last tally h = h.1
closes_items (Convert form) s last tally h = h.1
closes_items Group s last tally h = h.1
