-- What was reported of an input's front is the text of the items that are whole there.
use Rattle.std.proofs.Common.{◌≡◌, ℕ, ◌+◌, ◌-◌, ◌<◌, ◌≤◌, Bool, true, false, cond, ltb, List, [], ◌∷◌, ◌++◌, length, map, take, Option, Some, None, inl, inr, refl, sym, ap, subst, ◌∙◌, arith}
use Rattle.std.specs.Io.BufRead.{ends_with_byte}
use Rattle.std.proofs.lemmas.Bool.{lt-ltb}
use Rattle.std.proofs.lemmas.List.{length-take-le}
use Rattle.etcs_text.specs.declared.entry.Kind.{Kind}
use Rattle.etcs_text.specs.Entries.{EntryValue}
use Rattle.etcs_runs.specs.declared.form.Form.{Form}
use Rattle.etcs_runs.specs.declared.form.Form.TheVariants.{Hex, Bin}
use Rattle.etcs_stream.specs.declared.job.Job.{Job}
use Rattle.etcs_stream.specs.Inputs.{SaysSoFar, WholeBytes, WholeItems}
use Rattle.etcs_runs.specs.Lines.{IsLine, lines_text, strip_cr}
use Rattle.etcs_stream.specs.Lines.{most_characters, bad_place, lines_bytes, AreGood}
use Rattle.etcs_stream.specs.JsonItems.{AreItemLines}
use Rattle.etcs_stream.specs.Reported.{Reported}
use Rattle.etcs_stream.specs.Printers.{nothing_reported}
use Rattle.etcs_text.specs.Readers.{ReaderValue, seen_bits}
use Rattle.etcs_stream.specs.Engines.{Outputs}
use Rattle.etcs_stream.specs.Taking.{Says}
use Rattle.etcs_stream.specs.Stands.{ItemsStand, BinStands, HexTook, JsonTook}

whole : (form : Form) (job : Job) (reader : ReaderValue) (after : Reported) (given bytes output : List ℕ) → SaysSoFar form given bytes → (h : ItemsStand job (seen_bits reader.progress) after bytes output) → WholeBytes form job.kind given h.items
whole form job reader after given bytes output says h =
    let few : length h.items ≤ 1000000 = omega (arith, h.few, h.count_is) in
    record { bytes = bytes; says = says; spelt = h.spelt; rest = seen_bits reader.progress; are_spelled = h.are_spelled; bits_are = h.bits_are; few = few; none_more = h.none_more }

pub bin_outputs : (job : Job) (reader : ReaderValue) (after : Reported) (given output : List ℕ) → BinStands job reader after given output → Outputs job given output
bin_outputs job reader after given output h =
    (h.2.items, subst (λ (f : Form). WholeItems f job.kind given h.2.items) (sym h.0) (whole Bin job reader after given given output refl h.2), (after, h.2.text))

pub hex_outputs : (job : Job) (reader : ReaderValue) (after : Reported) (lines : List (List ℕ)) (begun output : List ℕ) → HexTook job reader after lines output → IsLine begun → Outputs job (lines_text lines ++ begun) output
hex_outputs job reader after lines begun output h l =
    let given = lines_text lines ++ begun in
    (h.items.items, subst (λ (f : Form). WholeItems f job.kind given h.items.items) (sym h.form) (whole Hex job reader after given (lines_bytes lines) output (lines, begun, refl, h.lines_good, l, refl) h.items), (after, h.items.text))

pub json_outputs : (job : Job) (after : Reported) (lines : List (List ℕ)) (begun output : List ℕ) → JsonTook job after lines output → IsLine begun → Outputs job (lines_text lines ++ begun) output
json_outputs job after lines begun output h l =
    let given = lines_text lines ++ begun in
    let few : length h.items ≤ 1000000 = omega (arith, h.few, h.count_is) in
    (h.items, subst (λ (f : Form). WholeItems f job.kind given h.items) (sym h.form) (lines, begun, record { text_is = refl; are_lines = h.are_lines; are_items = h.are_items; few = few }, l), (after, h.text))

-- and that text was written
pub hex_said : (job : Job) (reader : ReaderValue) (after : Reported) (lines : List (List ℕ)) (output : List ℕ) → HexTook job reader after lines output → Says job.command nothing_reported after [] output
hex_said job reader after lines output h =
    record { reported = h.items.items; added = output; after = after; added_is = h.items.text; text_is = refl; counted = omega arith }

pub json_said : (job : Job) (after : Reported) (lines : List (List ℕ)) (output : List ℕ) → JsonTook job after lines output → Says job.command nothing_reported after [] output
json_said job after lines output h =
    record { reported = h.items; added = output; after = after; added_is = h.text; text_is = refl; counted = omega arith }

-- ---- A line that is too long.

pub long_bad : (line : List ℕ) → 4096 < length line → bad_place line ≡ Some 4096
long_bad line h = let t : ltb 4096 (length line) ≡ true = lt-ltb 4096 (length line) h in rw t refl

pub stripped : (b : Bool) (line : List ℕ) → length line ≤ length (cond b (take (length line - 1) line) line) + 1
stripped true line = omega (arith, length-take-le (length line - 1) line (omega arith))
stripped false line = omega arith

pub long_bad_stripped : (line : List ℕ) → 4097 < length line → bad_place (strip_cr line) ≡ Some 4096
long_bad_stripped line h = long_bad (strip_cr line) (omega (arith, stripped (ends_with_byte 13 line) line))

-- no such line is good
good_last : (lines : List (List ℕ)) (part : List ℕ) → AreGood (lines ++ part ∷ []) → bad_place (strip_cr part) ≡ None
good_last [] part h = h.0
good_last (line ∷ lines) part h = good_last lines part h.1

pub hex_short : (job : Job) (reader : ReaderValue) (after : Reported) (lines : List (List ℕ)) (part output : List ℕ) → HexTook job reader after (lines ++ part ∷ []) output → most_characters job.from + 1 < length part → ⊥
hex_short job reader after lines part output h long =
    let most : 4097 < length part = subst (λ (f : Form). most_characters f + 1 < length part) h.form long in
    let bad : ◌≡◌ {A = Option ℕ} None (Some 4096) = sym (good_last lines part h.lines_good) ∙ long_bad_stripped part most in
    absurd cc

-- nor has such a line an item
last_short : (kind : Kind) (lines : List (List ℕ)) (part : List ℕ) (es : List EntryValue) → AreItemLines kind (map strip_cr (lines ++ part ∷ [])) es → length (strip_cr part) ≤ 1048576
last_short kind [] part es (inl h) = omega (arith, ap length h.0)
last_short kind [] part es (inr (e, beyond, is, item, h)) = item.1
last_short kind (line ∷ lines) part es (inl h) = last_short kind lines part es h.1
last_short kind (line ∷ lines) part es (inr (e, beyond, is, item, h)) = last_short kind lines part beyond h

pub json_short : (job : Job) (after : Reported) (lines : List (List ℕ)) (part output : List ℕ) → JsonTook job after (lines ++ part ∷ []) output → most_characters job.from + 1 < length part → ⊥
json_short job after lines part output h long =
    let most : 1048577 < length part = subst (λ (f : Form). most_characters f + 1 < length part) h.form long in
    omega (arith, most, stripped (ends_with_byte 13 part) part, last_short job.kind lines part h.items h.are_items)

pub hex_long : (job : Job) (reader : ReaderValue) (after : Reported) (lines : List (List ℕ)) (part output : List ℕ) → HexTook job reader after (lines ++ part ∷ []) output → IsLine part → most_characters job.from + 1 < length part → Outputs job (lines_text lines ++ part) output
hex_long job reader after lines part output h l long = absurd (hex_short job reader after lines part output h long)

pub json_long : (job : Job) (after : Reported) (lines : List (List ℕ)) (part output : List ℕ) → JsonTook job after (lines ++ part ∷ []) output → IsLine part → most_characters job.from + 1 < length part → Outputs job (lines_text lines ++ part) output
json_long job after lines part output h l long = absurd (json_short job after lines part output h long)
