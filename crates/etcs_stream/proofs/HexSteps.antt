-- Lines of hexadecimal, piece by piece.
use Rattle.std.proofs.Common.{◌≡◌, ℕ, ◌+◌, ◌<◌, ◌≤◌, Bool, true, List, [], ◌∷◌, ◌++◌, length, eqb, Some, None, Result, Ok, Err, refl, sym, ap, subst, ◌∙◌, arith, append_assoc, length-append, inl, inr}
use Rattle.std.specs.Prelude.{◌⊎◌, OnOk, IfOk, IfErr}
use Rattle.std.proofs.lemmas.Bool.{eqb-true}
use Rattle.std.proofs.lemmas.List.{append-nil}
use Rattle.hex.specs.Hex.{decode_pairs}
use Rattle.etcs_stream.specs.declared.job.Command.{Command}
use Rattle.std.proofs.lemmas.List.Elements.{All-append}
use Rattle.etcs_bits.specs.Bits.{bits}
use Rattle.etcs_vars.specs.Reading.{Viable}
use Rattle.etcs_text.specs.declared.entry.Kind.{Kind}
use Rattle.etcs_runs.specs.declared.form.Form.{Form}
use Rattle.etcs_runs.specs.declared.form.Form.TheVariants.{Hex}
use Rattle.etcs_text.specs.Entries.{EntryValue}
use Rattle.etcs_stream.specs.declared.job.Job.{Job}
use Rattle.etcs_runs.specs.declared.fault.RunFault.{RunFault}
use Rattle.etcs_runs.specs.declared.fault.RunFault.TheVariants.{Truncated, BadHex, Memory}
use Rattle.etcs_runs.specs.Faults.{IsOfEngine}
use Rattle.etcs_runs.specs.Lines.{IsLine, strip_cr, lines_text}
use Rattle.etcs_stream.specs.Lines.{bad_place, line_bytes, lines_bytes, AreGood, IsHexText}
use Rattle.etcs_stream.specs.Reported.{Reported}
use Rattle.etcs_stream.specs.Printers.{Closes}
use Rattle.etcs_stream.specs.declared.job.Tally.{Tally}
use Rattle.etcs_text.specs.Readers.{ReaderValue, seen_bits}
use Rattle.etcs_stream.specs.Readers.{Awaits, HasRoom}
use Rattle.etcs_stream.specs.Taking.{Advances, Halts}
use Rattle.etcs_stream.specs.Stands.{ItemsStand, HexStands}
use Rattle.etcs_stream.specs.Inputs.{End, ended, refused, truncated, bad_hex, bad_json, endless, BitItems, IsBad, ItemsOf, SaysFirst}
use Rattle.etcs_stream.specs.Engines.{Ends, Stops, StopsAtEnd}
use Rattle.etcs_text.proofs.ItemKinds.{Language}
use Rattle.etcs_bits.proofs.ByteBits.{bits-append}
use Rattle.etcs_stream.proofs.Streams.{Advances-none}
use Rattle.etcs_stream.proofs.OutputLemmas.{closes_items}
use Rattle.etcs_stream.proofs.Standing.{ItemsHalt, stand_first, IsEarly, stand_more, stand_halts, halt_stops, halt_ends, stand_ended, stand_truncated}
use Rattle.etcs_runs.proofs.LineTexts.{lines_text-append, lines_few, one_line}
use Rattle.etcs_stream.proofs.Cutting.{Says, AreGood-append, lines_bytes-append, first_lf, cut_text, says_after}
use Rattle.etcs_stream.specs.laws.StandLaws.{long_bad, long_bad_stripped}

-- ---- The items of a text.

items_of : (job : Job) (given : List ℕ) (es : List EntryValue) (end : End) → job.from ≡ Hex → ItemsOf Hex job.kind given es end → ItemsOf job.from job.kind given es end
items_of job given es end e h = subst (λ (f : Form). ItemsOf f job.kind given es end) (sym e) h

says_first : (job : Job) (given bytes : List ℕ) → job.from ≡ Hex → SaysFirst Hex given bytes → SaysFirst job.from given bytes
says_first job given bytes e h = subst (λ (f : Form). SaysFirst f given bytes) (sym e) h

-- those that end early don't ask for the lines after
early_items : (kind : Kind) (text bytes : List ℕ) (es : List EntryValue) (end : End) → IsEarly end → Says text bytes → BitItems kind (bits bytes) es end → ItemsOf Hex kind text es end
early_items kind text bytes es end early (inl s) h = inl (bytes, s, h)
early_items kind text bytes es ended early (inr s) h = absurd early
early_items kind text bytes es (refused i x) early (inr (line, place, bad)) h = inr (bytes, line, place, bad, h)
early_items kind text bytes es (truncated k) early (inr s) h = absurd early
early_items kind text bytes es (bad_hex l p) early (inr s) h = absurd early
early_items kind text bytes es (bad_json l) early (inr s) h = absurd early
early_items kind text bytes es endless early (inr (line, place, bad)) h = inr (bytes, line, place, bad, h)

-- the items of good lines halted, whatever is after them
hex_halts : (job : Job) (lines : List (List ℕ)) (given output beyond : List ℕ) (fault : RunFault) → job.from ≡ Hex → AreGood lines → given ≡ lines_text lines ++ beyond → ItemsHalt job (lines_bytes lines) output fault → IsOfEngine fault × Stops job given output fault
hex_halts job lines given output beyond fault form good is h =
    halt_stops job given (lines_bytes lines) output fault h
    (says_first job given (lines_bytes lines) form (inl (lines, beyond, is, good, refl)))
    (λ more es end early k. (
    let (bytes, says) = cut_text (beyond ++ more) in
    let text : lines_text lines ++ (beyond ++ more) ≡ given ++ more = sym (append_assoc (lines_text lines) beyond more) ∙ ap (λ (z : List ℕ). z ++ more) (sym is) in
    let both : Says (given ++ more) (lines_bytes lines ++ bytes) = subst (λ z. Says z (lines_bytes lines ++ bytes)) text (says_after lines good (beyond ++ more) bytes says) in
    let items : BitItems job.kind (bits (lines_bytes lines ++ bytes)) es end = subst (λ z. BitItems job.kind z es end) (sym (bits-append (lines_bytes lines) bytes)) (k (bits bytes)) in
    items_of job (given ++ more) es end form (early_items job.kind (given ++ more) (lines_bytes lines ++ bytes) es end early both items)
    ))

-- ---- A line more.

line_text : (lines : List (List ℕ)) (begun line whole given beyond : List ℕ) → given ≡ lines_text lines ++ begun → whole ≡ begun ++ line → given ++ (line ++ 10 ∷ beyond) ≡ lines_text (lines ++ (whole ∷ [])) ++ beyond
line_text lines begun line whole given beyond is w =
    ap (λ (z : List ℕ). z ++ (line ++ 10 ∷ beyond)) is
    ∙ append_assoc (lines_text lines) begun (line ++ 10 ∷ beyond)
    ∙ ap (λ (z : List ℕ). lines_text lines ++ z) (sym (append_assoc begun line (10 ∷ beyond)) ∙ ap (λ (z : List ℕ). z ++ 10 ∷ beyond) (sym w) ∙ sym (one_line whole beyond))
    ∙ sym (append_assoc (lines_text lines) (lines_text (whole ∷ [])) beyond)
    ∙ ap (λ (z : List ℕ). z ++ beyond) (sym (lines_text-append lines (whole ∷ [])))

pub line_says : (lines : List (List ℕ)) (whole : List ℕ) → lines_bytes lines ++ line_bytes (strip_cr whole) ≡ lines_bytes (lines ++ (whole ∷ []))
line_says lines whole =
    ap (λ (z : List ℕ). lines_bytes lines ++ z) (sym (append-nil (line_bytes (strip_cr whole)))) ∙ sym (lines_bytes-append lines (whole ∷ []))

-- a line is bad whose characters are first kept, and then in the rest
abbrev pub IsBadLine : List ℕ → ℕ → Type 0
IsBadLine text place = (bad : List ℕ) × (beyond : List ℕ) × IsLine bad × (((text ≡ bad ++ 10 ∷ beyond) × (bad_place (strip_cr bad) ≡ Some place)) ⊎ ((text ≡ bad) × (bad_place bad ≡ Some place)))

bad_is : (lines : List (List ℕ)) (begun rest input given : List ℕ) (line place : ℕ) → AreGood lines → given ≡ lines_text lines ++ begun → line ≡ length lines → input ≡ given ++ rest → IsBadLine (begun ++ rest) place → IsBad input (lines_bytes lines) (line + 1) place
bad_is lines begun rest input given line place good is n e (bad, beyond, l, how) =
    let text : input ≡ lines_text lines ++ (begun ++ rest) = e ∙ ap (λ (z : List ℕ). z ++ rest) is ∙ append_assoc (lines_text lines) begun rest in
    record {
      lines = lines;
      bad = bad;
      beyond = beyond;
      lines_good = good;
      is_line = l;
      line_is = ap (λ k. k + 1) n;
      bytes_are = refl;
      text_is = elim how [
        | inl p ↦ inl (text ∙ ap (λ (z : List ℕ). lines_text lines ++ z) p.0, p.1)
        | inr p ↦ inr (text ∙ ap (λ (z : List ℕ). lines_text lines ++ z) p.0, p.1)
      ];
    }

-- an item is whole there, or begun
open_end : (job : Job) (seen b : List Bool) (count : Reported) (bytes output : List ℕ) (h : ItemsStand job seen count bytes output) → Viable (Language job.kind) seen → seen ≡ b → BitItems job.kind (bits bytes) h.items ended ⊎ ((k : ℕ) × BitItems job.kind (bits bytes) h.items (truncated k))
open_end job seen [] count bytes output h v e = inl (stand_ended job seen count bytes output h e)
open_end job seen (x ∷ b) count bytes output h v e =
    let some : 0 < length seen = omega (arith, ap length e) in
    inr (length seen, stand_truncated job seen count bytes output h some v)

module _ (job : Job) (r : ReaderValue) (n : Reported) (begun : List ℕ) (line : ℕ) (given output t : List ℕ) (h : HexStands job r n begun line given (output ++ t)) where
  -- ---- The faults of a piece.

  hex_bad : (rest : List ℕ) (place : ℕ) (fault : RunFault) → fault ≡ BadHex (line + 1) place → ((more : List ℕ) → IsBadLine (begun ++ (rest ++ more)) place) → IsOfEngine fault × Stops job (given ++ rest) (output ++ t) fault
  hex_bad rest place fault e bad = (
    subst IsOfEngine (sym e) tt,
    inr (
      h.items.items,
      bad_hex (line + 1) place,
      e,
      (n, h.items.text),
      λ more. items_of job ((given ++ rest) ++ more) h.items.items (bad_hex (line + 1) place) h.form
          (inr (
            lines_bytes h.lines,
            line + 1,
            place,
            bad_is h.lines begun (rest ++ more) ((given ++ rest) ++ more) given line place h.lines_good h.given_is h.line_is (append_assoc given rest more) (bad more),
            (refl, refl, open_end job (seen_bits r.progress) (seen_bits r.progress) n (lines_bytes h.lines) (output ++ t) h.items h.waits.viable refl),
          )),
    ),
  )

  -- a line is bad that has its LF
  pub hex_bad_line : (part beyond : List ℕ) (place : ℕ) (fault : RunFault) → IsLine part → bad_place (strip_cr (begun ++ part)) ≡ Some place → fault ≡ BadHex (line + 1) place → IsOfEngine fault × Stops job (given ++ (part ++ 10 ∷ beyond)) (output ++ t) fault
  hex_bad_line part beyond place fault l bad e =
      hex_bad (part ++ 10 ∷ beyond) place fault e
      (λ more. (
      let text : begun ++ ((part ++ 10 ∷ beyond) ++ more) ≡ (begun ++ part) ++ 10 ∷ (beyond ++ more) =
      ap (λ (z : List ℕ). begun ++ z) (append_assoc part (10 ∷ beyond) more) ∙ sym (append_assoc begun part (10 ∷ (beyond ++ more))) in
      (begun ++ part, beyond ++ more, All-append (λ c. c ≡ 10 → ⊥) begun part h.is_line l, inl (text, bad))
      ))

  -- a line is too long, wherever it ends
  long_line : (part more : List ℕ) → IsLine part → 4097 < length begun + length part → IsBadLine (begun ++ (part ++ more)) 4096
  long_line part more l long =
      let front : IsLine (begun ++ part) = All-append (λ c. c ≡ 10 → ⊥) begun part h.is_line l in
      let len = length-append begun part in
      elim (first_lf more) [
        | inl m ↦
            (begun ++ (part ++ more), [], subst IsLine (append_assoc begun part more) (All-append (λ c. c ≡ 10 → ⊥) (begun ++ part) more front m), inr (refl, long_bad (begun ++ (part ++ more)) (omega (arith, length-append begun (part ++ more), length-append part more))))
        | inr (last, beyond, m, is) ↦
            let text : begun ++ (part ++ more) ≡ ((begun ++ part) ++ last) ++ 10 ∷ beyond =
            sym (append_assoc begun part more) ∙ ap (λ (z : List ℕ). (begun ++ part) ++ z) is ∙ sym (append_assoc (begun ++ part) last (10 ∷ beyond)) in
            ((begun ++ part) ++ last, beyond, All-append (λ c. c ≡ 10 → ⊥) (begun ++ part) last front m, inl (text, long_bad_stripped ((begun ++ part) ++ last) (omega (arith, len, length-append (begun ++ part) last))))
      ]

  pub hex_long_open : (part : List ℕ) (fault : RunFault) → IsLine part → 4097 < length begun + length part → fault ≡ BadHex (line + 1) 4096 → IsOfEngine fault × Stops job (given ++ part) (output ++ t) fault
  hex_long_open part fault l long e = hex_bad part 4096 fault e (λ more. long_line part more l long)

  -- the items of a line halted
  pub hex_line_halts : (part whole beyond t' : List ℕ) (fault : RunFault) → whole ≡ begun ++ part → bad_place (strip_cr whole) ≡ None → Halts job.kind job.command (seen_bits r.progress) n (line_bytes (strip_cr whole)) t t' fault → IsOfEngine fault × Stops job (given ++ (part ++ 10 ∷ beyond)) (output ++ t') fault
  hex_line_halts part whole beyond t' fault w good halts =
      hex_halts job (h.lines ++ (whole ∷ [])) (given ++ (part ++ 10 ∷ beyond)) (output ++ t') beyond fault h.form
      (AreGood-append h.lines (whole ∷ []) h.lines_good (good, tt))
      (line_text h.lines begun part whole given beyond h.given_is w)
      (subst (λ z. ItemsHalt job z (output ++ t') fault) (line_says h.lines whole) (stand_halts job (seen_bits r.progress) n (lines_bytes h.lines) output t h.items (line_bytes (strip_cr whole)) t' fault halts))

  -- ---- The end of the text.

  last_text : bad_place begun ≡ None → IsHexText given (lines_bytes h.lines ++ line_bytes begun)
  last_text good = record { lines = h.lines; last = begun; text_is = h.given_is; lines_good = h.lines_good; last_good = good; bytes_are = refl }

  pub hex_last_bad : (place : ℕ) (fault : RunFault) → bad_place begun ≡ Some place → fault ≡ BadHex (line + 1) place → IsOfEngine fault × StopsAtEnd job given (output ++ t) fault
  hex_last_bad place fault bad e = (
    subst IsOfEngine (sym e) tt,
    inr (
      h.items.items,
      bad_hex (line + 1) place,
      e,
      (n, h.items.text),
      items_of job given h.items.items (bad_hex (line + 1) place) h.form
          (inr (
            lines_bytes h.lines,
            line + 1,
            place,
            bad_is h.lines begun [] given given line place h.lines_good h.given_is h.line_is (sym (append-nil given)) (begun, [], h.is_line, inr (append-nil begun, bad)),
            (refl, refl, open_end job (seen_bits r.progress) (seen_bits r.progress) n (lines_bytes h.lines) (output ++ t) h.items h.waits.viable refl),
          )),
    ),
  )

  pub hex_last_halts : (t' : List ℕ) (fault : RunFault) → bad_place begun ≡ None → Halts job.kind job.command (seen_bits r.progress) n (line_bytes begun) t t' fault → IsOfEngine fault × StopsAtEnd job given (output ++ t') fault
  hex_last_halts t' fault good halts =
      let text = last_text good in
      halt_ends job given (lines_bytes h.lines ++ line_bytes begun) (output ++ t') fault
      (stand_halts job (seen_bits r.progress) n (lines_bytes h.lines) output t h.items (line_bytes begun) t' fault halts)
      (says_first job given (lines_bytes h.lines ++ line_bytes begun) h.form (inr text))
      (λ es end early k. items_of job given es end h.form (inl (lines_bytes h.lines ++ line_bytes begun, text, k)))

  -- ---- What the code returns.

  -- a line is bad, or its items halted
  pub hex_line_stops : (part whole beyond t' : List ℕ) (fault : RunFault) → IsLine part → whole ≡ begun ++ part → ((place : ℕ) × (bad_place (strip_cr whole) ≡ Some place) × (fault ≡ BadHex (line + 1) place) × (t' ≡ t)) ⊎ ((bad_place (strip_cr whole) ≡ None) × Halts job.kind job.command (seen_bits r.progress) n (line_bytes (strip_cr whole)) t t' fault) → IsOfEngine fault × Stops job (given ++ (part ++ 10 ∷ beyond)) (output ++ t') fault
  hex_line_stops part whole beyond t' fault l w (inl (place, bad, e, same)) =
      let bad' : bad_place (strip_cr (begun ++ part)) ≡ Some place = subst (λ z. bad_place (strip_cr z) ≡ Some place) w bad in
      subst (λ z. IsOfEngine fault × Stops job (given ++ (part ++ 10 ∷ beyond)) (output ++ z) fault) (sym same) (hex_bad_line part beyond place fault l bad' e)
  hex_line_stops part whole beyond t' fault l w (inr (good, halts)) = hex_line_halts part whole beyond t' fault w good halts

  -- the last line is
  pub hex_last_stops : (t' : List ℕ) (fault : RunFault) → ((place : ℕ) × (bad_place begun ≡ Some place) × (fault ≡ BadHex (line + 1) place) × (t' ≡ t)) ⊎ ((bad_place begun ≡ None) × Halts job.kind job.command (seen_bits r.progress) n (line_bytes begun) t t' fault) → IsOfEngine fault × StopsAtEnd job given (output ++ t') fault
  hex_last_stops t' fault (inl (place, bad, e, same)) =
      subst (λ z. IsOfEngine fault × StopsAtEnd job given (output ++ z) fault) (sym same) (hex_last_bad place fault bad e)
  hex_last_stops t' fault (inr (good, halts)) = hex_last_halts t' fault good halts

  module _ (r' : ReaderValue) (n' : Reported) (t' : List ℕ) (good : bad_place begun ≡ None) (waits : Awaits job.kind r') (few : n'.count ≤ 1000000) (room : HasRoom n.count (seen_bits r.progress) → HasRoom n'.count (seen_bits r'.progress)) (more : Advances job.kind job.command (seen_bits r.progress) (seen_bits r'.progress) n n' (line_bytes begun) t t') where
    last_items : ItemsStand job (seen_bits r'.progress) n' (lines_bytes h.lines ++ line_bytes begun) (output ++ t')
    last_items = stand_more job (seen_bits r.progress) n (lines_bytes h.lines) output t h.items (line_bytes begun) t' (seen_bits r'.progress) n' more few (room h.items.room) waits.unfinished

    hex_ends : (last t'' : List ℕ) (tally : Tally) → seen_bits r'.progress ≡ [] → Closes job.command n' last tally → t'' ≡ t' ++ last → Ends job given (output ++ t'') tally
    hex_ends last t'' tally e closes is = record {
      items = last_items.items;
      items_of = items_of job given last_items.items ended h.form (inl (lines_bytes h.lines ++ line_bytes begun, last_text good, stand_ended job (seen_bits r'.progress) n' (lines_bytes h.lines ++ line_bytes begun) (output ++ t') last_items e));
      lines = output ++ t';
      last = last;
      after = n';
      text = last_items.text;
      closes = closes;
      output_is = ap (λ (z : List ℕ). output ++ z) is ∙ sym (append_assoc output t' last);
      items_are = closes_items job.command n' last tally closes ∙ last_items.count_is;
    }

    hex_closes_starved : (fault : RunFault) → fault ≡ Memory → IsOfEngine fault × StopsAtEnd job given (output ++ t') fault
    hex_closes_starved fault e =
        let says = says_first job given (lines_bytes h.lines ++ line_bytes begun) h.form (inr (last_text good)) in
        let first = stand_first job (seen_bits r'.progress) n' given (lines_bytes h.lines ++ line_bytes begun) (output ++ t') last_items says in (
          subst IsOfEngine (sym e) tt,
          inl (e, (last_items.items, first, (n', last_items.text))),
        )

    hex_truncated : (fault : RunFault) → fault ≡ Truncated (n'.count + 1) (length (seen_bits r'.progress)) → 0 < length (seen_bits r'.progress) → IsOfEngine fault × StopsAtEnd job given (output ++ t') fault
    hex_truncated fault e some =
        let seen = seen_bits r'.progress in (
          subst IsOfEngine (sym e) tt,
          inr (
            last_items.items,
            truncated (length seen),
            e ∙ ap (λ k. Truncated (k + 1) (length seen)) last_items.count_is,
            (n', last_items.text),
            items_of job given last_items.items (truncated (length seen)) h.form (inl (lines_bytes h.lines ++ line_bytes begun, last_text good, stand_truncated job seen n' (lines_bytes h.lines ++ line_bytes begun) (output ++ t') last_items some waits.viable)),
          ),
        )

    -- an item isn't whole, or memory was refused for the last lines
    hex_not_closed : (t'' : List ℕ) (fault : RunFault) → t'' ≡ t' → ((fault ≡ Truncated (n'.count + 1) (length (seen_bits r'.progress))) × (0 < length (seen_bits r'.progress))) ⊎ (fault ≡ Memory) → IsOfEngine fault × StopsAtEnd job given (output ++ t'') fault
    hex_not_closed t'' fault same (inl h') = subst (λ z. IsOfEngine fault × StopsAtEnd job given (output ++ z) fault) (sym same) (hex_truncated fault h'.0 h'.1)
    hex_not_closed t'' fault same (inr e) = subst (λ z. IsOfEngine fault × StopsAtEnd job given (output ++ z) fault) (sym same) (hex_closes_starved fault e)

    -- what the end of the input returns
    pub hex_finish_ends : (t'' : List ℕ) (answer : Result Tally RunFault) → OnOk answer (seen_bits r'.progress ≡ []) → IfOk answer (λ tally. (last : List ℕ) × Closes job.command n' last tally × (t'' ≡ t' ++ last)) → IfOk answer (λ tally. Ends job given (output ++ t'') tally)
    hex_finish_ends t'' (Ok tally) e (last, closes, is) = hex_ends last t'' tally e closes is
    hex_finish_ends t'' (Err f) e h' = tt

    pub hex_finish_stops : (t'' : List ℕ) (answer : Result Tally RunFault) → IfErr answer (λ e. (t'' ≡ t') × (((e ≡ Truncated (n'.count + 1) (length (seen_bits r'.progress))) × (0 < length (seen_bits r'.progress))) ⊎ (e ≡ Memory))) → IfErr answer (λ e. IsOfEngine e × StopsAtEnd job given (output ++ t'') e)
    hex_finish_stops t'' (Ok tally) h' = tt
    hex_finish_stops t'' (Err f) (same, why) = hex_not_closed t'' f same why

-- an empty line says nothing
pub Advances-empty : (kind : Kind) (c : Command) (seen : List Bool) (items : Reported) (text line : List ℕ) → eqb (length line) 0 ≡ true → Advances kind c seen seen items items (line_bytes line) text text
unfolding decode_pairs
Advances-empty kind c seen items text [] h = Advances-none kind c seen items text
Advances-empty kind c seen items text (x ∷ xs) h = absurd (omega (arith, eqb-true (length (x ∷ xs)) 0 h))
