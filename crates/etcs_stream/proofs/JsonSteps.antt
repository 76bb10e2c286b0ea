-- Lines of JSON, one after another.
use Rattle.std.proofs.Common.{◌≡◌, ℕ, ◌+◌, ◌<◌, ◌≤◌, List, [], ◌∷◌, ◌++◌, length, Result, Ok, Err, refl, sym, ap, subst, ◌∙◌, arith, append_assoc, length-append, inl, inr}
use Rattle.std.specs.Prelude.{◌⊎◌, map, OnOk, IfErr, IfOk}
use Rattle.std.specs.Io.BufRead.{ends_with_byte}
use Rattle.std.proofs.lemmas.List.{append-nil, map-append}
use Rattle.std.proofs.lemmas.List.Elements.{All-append, All-cons, All-nil}
use Rattle.etcs_vars.specs.declared.var.Var.{Var}
use Rattle.etcs_text.specs.declared.entry.Kind.{Kind}
use Rattle.etcs_text.specs.Entries.{EntryValue}
use Rattle.etcs_runs.specs.declared.form.Form.{Form}
use Rattle.etcs_runs.specs.declared.form.Form.TheVariants.{Json}
use Rattle.etcs_stream.specs.declared.job.Job.{Job}
use Rattle.etcs_stream.specs.declared.job.Tally.{Tally}
use Rattle.etcs_runs.specs.declared.fault.RunFault.{RunFault}
use Rattle.etcs_runs.specs.declared.fault.RunFault.TheVariants.{Refused, Truncated, BadHex, BadJson, Read, Write, Endless, Memory}
use Rattle.etcs_runs.specs.Faults.{IsOfEngine}
use Rattle.etcs_runs.specs.Lines.{IsLine, strip_cr, lines_text}
use Rattle.etcs_stream.specs.Lines.{most_characters}
use Rattle.etcs_stream.specs.JsonItems.{IsItemLine, IsRefusedLine, AreItemLines, JsonFront, BeginsWith, EndedJson, FirstJson, FurtherLine}
use Rattle.etcs_stream.specs.Reported.{Reported}
use Rattle.etcs_stream.specs.Printers.{OutputsItems, Closes, nothing_reported}
use Rattle.etcs_stream.specs.Stands.{JsonTook}
use Rattle.etcs_stream.specs.Taking.{TakesJson, empty_line, item_line, HaltsJson}
use Rattle.etcs_stream.specs.Inputs.{End, ended, refused, bad_json, endless, ItemsOf, FirstItems}
use Rattle.etcs_stream.specs.Engines.{EndsBy, Ends, Prints, Stops, StopsAtEnd}
use Rattle.etcs_stream.proofs.OutputLemmas.{outputs_append, outputs_count, outputs_one, one_count, closes_items}
use Rattle.etcs_stream.specs.laws.StandLaws.{stripped}
use Rattle.etcs_stream.proofs.Cutting.{first_lf}

-- ---- The items of lines.

pub AreItemLines-append : (kind : Kind) (ls ms : List (List ℕ)) (es fs : List EntryValue) → AreItemLines kind ls es → AreItemLines kind ms fs → AreItemLines kind (ls ++ ms) (es ++ fs)
AreItemLines-append kind [] ms es fs h g = subst (λ (z : List EntryValue). AreItemLines kind ms (z ++ fs)) (sym h) g
AreItemLines-append kind (l ∷ ls) ms es fs (inl h) g = inl (h.0, AreItemLines-append kind ls ms es fs h.1 g)
AreItemLines-append kind (l ∷ ls) ms es fs (inr (e, beyond, is, item, more)) g =
    inr (e, beyond ++ fs, ap (λ (z : List EntryValue). z ++ fs) is, item, AreItemLines-append kind ls ms beyond fs more g)

-- the items of a line were reported
pub record LineOutput (job : Job) (line : List ℕ) (before after : Reported) (t t' : List ℕ) : Type 0 where
  pub items : List EntryValue
  pub added : List ℕ
  pub are_items : AreItemLines job.kind (line ∷ []) items
  pub few : before.count ≤ 1000000 → after.count ≤ 1000000
  pub text : OutputsItems job.command before items added after
  pub text_is : t' ≡ t ++ added

pub line_output : (job : Job) (line : List ℕ) (before after : Reported) (t t' : List ℕ) → TakesJson job line before after t t' → LineOutput job line before after t t'
line_output job line before after t t' (empty_line none same is) = record {
  items = [];
  added = [];
  are_items = inl (none, refl);
  few = λ few. omega (arith, few, ap (λ (k : Reported). k.count) same);
  text = (refl, same);
  text_is = is ∙ sym (append-nil t);
}
line_output job line before after t t' (item_line e added item room outputs is) = record {
  items = e ∷ [];
  added = added;
  are_items = inr (e, [], refl, item, refl);
  few = λ few. omega (arith, room, one_count job.command e before added after outputs);
  text = outputs_one job.command before after e added outputs;
  text_is = is;
}

-- the text continues with this line after those
record GoesOn (lines : List (List ℕ)) (line input : List ℕ) : Type 0 where
  rest : List ℕ
  text_is : input ≡ lines_text lines ++ rest
  begins : BeginsWith rest line

-- a line is too long, wherever it ends
long_line : (part more : List ℕ) → IsLine part → 1048577 < length part → (line : List ℕ) × BeginsWith (part ++ more) line × (1048576 < length line)
long_line part more l long = elim (first_lf more) [
  | inl m ↦ (part ++ more, inr (All-append (λ c. c ≡ 10 → ⊥) part more l m, refl), omega (arith, length-append part more))
  | inr (last, beyond, m, is) ↦
      let text : part ++ more ≡ (part ++ last) ++ 10 ∷ beyond = ap (λ (z : List ℕ). part ++ z) is ∙ sym (append_assoc part last (10 ∷ beyond)) in (
        strip_cr (part ++ last),
        inl (part ++ last, beyond, All-append (λ c. c ≡ 10 → ⊥) part last l m, text, refl),
        omega (arith, stripped (ends_with_byte 13 (part ++ last)) (part ++ last), length-append part last),
      )
]

module _ (job : Job) (n : Reported) (lines : List (List ℕ)) (output : List ℕ) (h : JsonTook job n lines output) where
  json_front : (input rest : List ℕ) → input ≡ lines_text lines ++ rest → JsonFront job.kind input h.items lines rest
  json_front input rest is = record { text_is = is; are_lines = h.are_lines; are_items = h.are_items; few = omega (arith, h.few, h.count_is) }

  items_of : (input : List ℕ) (es : List EntryValue) (end : End) → ItemsOf Json job.kind input es end → ItemsOf job.from job.kind input es end
  items_of input es end k = subst (λ (f : Form). ItemsOf f job.kind input es end) (sym h.form) k

  first_items : (input : List ℕ) (es : List EntryValue) → FirstJson job.kind input es → FirstItems job.from job.kind input es
  first_items input es k = subst (λ (f : Form). FirstItems f job.kind input es) (sym h.form) k

  json_prints : (rest : List ℕ) → Prints job (lines_text lines ++ rest) output
  json_prints rest =
      let given = lines_text lines ++ rest in
      (h.items, first_items given h.items (inl (lines, rest, json_front given rest refl)), (n, h.text))

  -- ---- A line that isn't taken.

  further : (input line : List ℕ) → GoesOn lines line input → 0 < length line → FurtherLine job.kind input h.items lines line
  further input line g some = record { rest = g.rest; front = json_front input g.rest g.text_is; begins = g.begins; some = some }

  bad : (input line : List ℕ) (number : ℕ) → GoesOn lines line input → 0 < length line → number ≡ length lines + 1 → n.count < 1000000 → ((e : EntryValue) → IsItemLine job.kind line e → ⊥) → ((i : ℕ) (x : Var) → IsRefusedLine job.kind line i x → ⊥) → ItemsOf job.from job.kind input h.items (bad_json number)
  bad input line number g some at few none unrefused =
      items_of input h.items (bad_json number) (lines, line, further input line g some, at, omega (arith, few, h.count_is), none, unrefused)

  refused_line : (input line : List ℕ) (i : ℕ) (x : Var) → GoesOn lines line input → n.count < 1000000 → IsRefusedLine job.kind line i x → ItemsOf job.from job.kind input h.items (refused i x)
  refused_line input line i x g few why =
      items_of input h.items (refused i x) (lines, line, further input line g why.0, omega (arith, few, h.count_is), why)

  too_many : (input line : List ℕ) → GoesOn lines line input → 0 < length line → n.count ≡ 1000000 → ItemsOf job.from job.kind input h.items endless
  too_many input line g some full = items_of input h.items endless (lines, line, further input line g some, sym h.count_is ∙ full)

  -- memory was refused, or each input ends so that continues with this line
  abbrev Halted : List ℕ → RunFault → Type 0
  Halted line fault = (fault ≡ Memory) ⊎ ((end : End) × EndsBy (length h.items) end fault × ((input : List ℕ) → GoesOn lines line input → ItemsOf job.from job.kind input h.items end))

  halted : (line : List ℕ) (number : ℕ) (fault : RunFault) → number ≡ length lines + 1 → HaltsJson job line number n fault → IsOfEngine fault × Halted line fault
  halted line number (Refused item i x) at (is, few, why) =
      (tt, inr (refused i x, ap (λ (k : ℕ). Refused k i x) (is ∙ ap (λ (k : ℕ). k + 1) h.count_is), λ input g. refused_line input line i x g few why))
  halted line number (Truncated i k) at why = absurd why
  halted line number (BadHex l p) at why = absurd why
  halted line number (BadJson l) at (same, some, few, none, unrefused) =
      (tt, inr (bad_json l, refl, λ input g. bad input line l g some (same ∙ at) few none unrefused))
  halted line number Read at why = absurd why
  halted line number (Write sent) at why = absurd why
  halted line number Endless at (full, some) = (tt, inr (endless, refl, λ input g. too_many input line g some full))
  halted line number Memory at why = (tt, inl refl)

  stops_by : (line rest : List ℕ) (fault : RunFault) → ((more : List ℕ) → GoesOn lines line ((lines_text lines ++ rest) ++ more)) → Halted line fault → Stops job (lines_text lines ++ rest) output fault
  stops_by line rest fault goes (inl e) = inl (e, json_prints rest)
  stops_by line rest fault goes (inr (end, by, ends)) =
      inr (h.items, end, by, (n, h.text), λ more. ends ((lines_text lines ++ rest) ++ more) (goes more))

  -- the line has its LF
  with_lf : (raw line beyond more : List ℕ) → IsLine raw → line ≡ strip_cr raw → GoesOn lines line ((lines_text lines ++ (raw ++ 10 ∷ beyond)) ++ more)
  with_lf raw line beyond more l e = record {
    rest = raw ++ 10 ∷ (beyond ++ more);
    text_is = append_assoc (lines_text lines) (raw ++ 10 ∷ beyond) more ∙ ap (λ (z : List ℕ). lines_text lines ++ z) (append_assoc raw (10 ∷ beyond) more);
    begins = inl (raw, beyond ++ more, l, refl, e);
  }

  json_line_halts : (raw line beyond : List ℕ) (number : ℕ) (fault : RunFault) → IsLine raw → line ≡ strip_cr raw → number ≡ length lines + 1 → HaltsJson job line number n fault → IsOfEngine fault × Stops job (lines_text lines ++ (raw ++ 10 ∷ beyond)) output fault
  json_line_halts raw line beyond number fault l e at why =
      let k = halted line number fault at why in
      (k.0, stops_by line (raw ++ 10 ∷ beyond) fault (λ more. with_lf raw line beyond more l e) k.1)

  -- it is the last
  ends_by : (line : List ℕ) (fault : RunFault) → IsLine line → Halted line fault → StopsAtEnd job (lines_text lines ++ line) output fault
  ends_by line fault l (inl e) = inl (e, json_prints line)
  ends_by line fault l (inr (end, by, ends)) =
      inr (h.items, end, by, (n, h.text), ends (lines_text lines ++ line) (record { rest = line; text_is = refl; begins = inr (l, refl) }))

  json_last_halts : (line : List ℕ) (number : ℕ) (fault : RunFault) → IsLine line → number ≡ length lines + 1 → HaltsJson job line number n fault → IsOfEngine fault × StopsAtEnd job (lines_text lines ++ line) output fault
  json_last_halts line number fault l at why =
      let k = halted line number fault at why in
      (k.0, ends_by line fault l k.1)

  -- ---- A line that is too long.

  -- so each input continues, whatever follows the part
  goes_long : (part more : List ℕ) → IsLine part → most_characters job.from + 1 < length part → (line : List ℕ) × GoesOn lines line ((lines_text lines ++ part) ++ more) × (1048576 < length line)
  goes_long part more l long =
      let (line, begins, longer) = long_line part more l (omega (arith, long, ap most_characters h.form)) in
      (line, record { rest = part ++ more; text_is = append_assoc (lines_text lines) part more; begins = begins }, longer)

  pub json_long_bad : (part : List ℕ) (number : ℕ) → IsLine part → most_characters job.from + 1 < length part → number ≡ length lines + 1 → n.count < 1000000 → Stops job (lines_text lines ++ part) output (BadJson number)
  json_long_bad part number l long at few =
      inr (
        h.items,
        bad_json number,
        refl,
        (n, h.text),
        λ more. let (line, goes, longer) = goes_long part more l long in
            bad ((lines_text lines ++ part) ++ more) line number goes (omega (arith, longer)) at few (λ e item. absurd (omega (arith, longer, item.1))) (λ i x why. absurd (omega (arith, longer, why.1))),
      )

  pub json_long_full : (part : List ℕ) → IsLine part → most_characters job.from + 1 < length part → n.count ≡ 1000000 → Stops job (lines_text lines ++ part) output Endless
  json_long_full part l long full =
      inr (
        h.items,
        endless,
        refl,
        (n, h.text),
        λ more. let (line, goes, longer) = goes_long part more l long in
            too_many ((lines_text lines ++ part) ++ more) line goes (omega (arith, longer)) full,
      )

module _ (job : Job) (n : Reported) (lines : List (List ℕ)) (output t : List ℕ) (h : JsonTook job n lines (output ++ t)) where
  -- ---- A line that is taken.

  module _ (line : List ℕ) (n' : Reported) (t' : List ℕ) (m : LineOutput job line n n' t t') where
    all_text : OutputsItems job.command nothing_reported (h.items ++ m.items) (output ++ t') n'
    all_text =
        let is : (output ++ t) ++ m.added ≡ output ++ t' = append_assoc output t m.added ∙ ap (λ (z : List ℕ). output ++ z) (sym m.text_is) in
        subst (λ (z : List ℕ). OutputsItems job.command nothing_reported (h.items ++ m.items) z n') is
        (outputs_append job.command nothing_reported n n' h.items m.items (output ++ t) m.added h.text m.text)

    all_count : n'.count ≡ length (h.items ++ m.items)
    all_count = omega (arith, outputs_count job.command n m.items m.added n' m.text, h.count_is, length-append h.items m.items)

    took_more : (raw : List ℕ) → IsLine raw → line ≡ strip_cr raw → JsonTook job n' (lines ++ (raw ∷ [])) (output ++ t')
    took_more raw l e =
        let more : AreItemLines job.kind (strip_cr raw ∷ []) m.items = subst (λ (z : List ℕ). AreItemLines job.kind (z ∷ []) m.items) e m.are_items in
        let both = AreItemLines-append job.kind (map strip_cr lines) (strip_cr raw ∷ []) h.items m.items h.are_items more in
        record {
          form = h.form;
          are_lines = All-append IsLine lines (raw ∷ []) h.are_lines (All-cons IsLine raw [] l (All-nil IsLine));
          items = h.items ++ m.items;
          are_items = subst (λ (z : List (List ℕ)). AreItemLines job.kind z (h.items ++ m.items)) (sym (map-append strip_cr lines (raw ∷ []))) both;
          count_is = all_count;
          few = m.few h.few;
          text = all_text;
        }

    ended_json : IsLine line → EndedJson job.kind (lines_text lines ++ line) (h.items ++ m.items)
    ended_json l = record {
      lines = lines;
      last = line;
      front = h.items;
      beyond = m.items;
      lines_are = json_front job n lines (output ++ t) h (lines_text lines ++ line) line refl;
      is_line = l;
      last_is = m.are_items;
      items_are = refl;
      few = omega (arith, all_count, m.few h.few);
    }

    all_ends : (last t'' : List ℕ) (tally : Tally) → IsLine line → Closes job.command n' last tally → t'' ≡ t' ++ last → Ends job (lines_text lines ++ line) (output ++ t'') tally
    all_ends last t'' tally l closes is = record {
      items = h.items ++ m.items;
      items_of = items_of job n lines (output ++ t) h (lines_text lines ++ line) (h.items ++ m.items) ended (ended_json l);
      lines = output ++ t';
      last = last;
      after = n';
      text = all_text;
      closes = closes;
      output_is = ap (λ (z : List ℕ). output ++ z) is ∙ sym (append_assoc output t' last);
      items_are = closes_items job.command n' last tally closes ∙ all_count;
    }

    all_prints : IsLine line → Prints job (lines_text lines ++ line) (output ++ t')
    all_prints l =
        let given = lines_text lines ++ line in
        let es = h.items ++ m.items in
        (es, first_items job n lines (output ++ t) h given es (inr (ended_json l)), (n', all_text))

  -- ---- What the code returns.

  pub json_line_took : (raw line : List ℕ) (n' : Reported) (t' : List ℕ) (answer : Result Unit RunFault) → IsLine raw → line ≡ strip_cr raw → OnOk answer (TakesJson job line n n' t t') → OnOk answer (JsonTook job n' (lines ++ (raw ∷ [])) (output ++ t'))
  json_line_took raw line n' t' (Ok u) l e takes = took_more line n' t' (line_output job line n n' t t' takes) raw l e
  json_line_took raw line n' t' (Err f) l e takes = tt

  pub json_line_stops : (raw line beyond : List ℕ) (number : ℕ) (t' : List ℕ) (answer : Result Unit RunFault) → IsLine raw → line ≡ strip_cr raw → number ≡ length lines + 1 → IfErr answer (λ f. HaltsJson job line number n f × (t' ≡ t)) → IfErr answer (λ f. IsOfEngine f × Stops job (lines_text lines ++ (raw ++ 10 ∷ beyond)) (output ++ t') f)
  json_line_stops raw line beyond number t' (Ok u) l e at why = tt
  json_line_stops raw line beyond number t' (Err f) l e at (why, same) =
      subst (λ (z : List ℕ). IsOfEngine f × Stops job (lines_text lines ++ (raw ++ 10 ∷ beyond)) (output ++ z) f) (sym same)
      (json_line_halts job n lines (output ++ t) h raw line beyond number f l e at why)

  pub json_last_stops : (line : List ℕ) (number : ℕ) (t' : List ℕ) (fault : RunFault) → IsLine line → number ≡ length lines + 1 → HaltsJson job line number n fault × (t' ≡ t) → IsOfEngine fault × StopsAtEnd job (lines_text lines ++ line) (output ++ t') fault
  json_last_stops line number t' fault l at (why, same) =
      subst (λ (z : List ℕ). IsOfEngine fault × StopsAtEnd job (lines_text lines ++ line) (output ++ z) fault) (sym same)
      (json_last_halts job n lines (output ++ t) h line number fault l at why)

  -- the last line was taken, and the last text was written
  json_ends : (line : List ℕ) (n' : Reported) (t' last t'' : List ℕ) (tally : Tally) → IsLine line → TakesJson job line n n' t t' → Closes job.command n' last tally → t'' ≡ t' ++ last → Ends job (lines_text lines ++ line) (output ++ t'') tally
  json_ends line n' t' last t'' tally l takes closes is = all_ends line n' t' (line_output job line n n' t t' takes) last t'' tally l closes is

  -- or memory was refused for it
  json_not_closed : (line : List ℕ) (n' : Reported) (t' t'' : List ℕ) → IsLine line → TakesJson job line n n' t t' → t'' ≡ t' → IsOfEngine Memory × StopsAtEnd job (lines_text lines ++ line) (output ++ t'') Memory
  json_not_closed line n' t' t'' l takes same =
      let prints = all_prints line n' t' (line_output job line n n' t t' takes) l in
      (tt, inl (refl, subst (λ (z : List ℕ). Prints job (lines_text lines ++ line) (output ++ z)) (sym same) prints))

  -- what the end of the input returns
  pub json_end_ends : (line : List ℕ) (n' : Reported) (t' t'' : List ℕ) (answer : Result Tally RunFault) → IsLine line → TakesJson job line n n' t t' → IfOk answer (λ tally. (last : List ℕ) × Closes job.command n' last tally × (t'' ≡ t' ++ last)) → IfOk answer (λ tally. Ends job (lines_text lines ++ line) (output ++ t'') tally)
  json_end_ends line n' t' t'' (Ok tally) l takes (last, closes, is) = json_ends line n' t' last t'' tally l takes closes is
  json_end_ends line n' t' t'' (Err f) l takes h' = tt

  pub json_end_stops : (line : List ℕ) (n' : Reported) (t' t'' : List ℕ) (answer : Result Tally RunFault) → IsLine line → TakesJson job line n n' t t' → IfErr answer (λ e. (t'' ≡ t') × (e ≡ Memory)) → IfErr answer (λ e. IsOfEngine e × StopsAtEnd job (lines_text lines ++ line) (output ++ t'') e)
  json_end_stops line n' t' t'' (Ok tally) l takes h' = tt
  json_end_stops line n' t' t'' (Err f) l takes (same, is) =
      subst (λ (e : RunFault). IsOfEngine e × StopsAtEnd job (lines_text lines ++ line) (output ++ t'') e) (sym is) (json_not_closed line n' t' t'' l takes same)
