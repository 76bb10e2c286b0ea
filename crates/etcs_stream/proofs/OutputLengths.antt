-- What is written of items is short.
use Rattle.std.proofs.Common.{◌≡◌, ℕ, ◌+◌, ◌*◌, ◌^◌, ◌<◌, ◌≤◌, Bool, List, [], ◌∷◌, length, ap, ◌∙◌, arith}
use Rattle.std.proofs.lemmas.List.{length-append}
use Rattle.hex.specs.Hex.{encode_upper, upper_digits}
use Rattle.hex.proofs.HexLemmas.{length-encode_with}
use Rattle.serde_json.specs.Written.{compact_text}
use Rattle.etcs_vars.specs.Reading.{Reading}
use Rattle.etcs_text.specs.declared.entry.Kind.{Kind}
use Rattle.etcs_text.specs.Entries.{EntryValue, of_telegram, of_message, EntryReads}
use Rattle.etcs_text.proofs.TextLengths.{entry_short, check_short, encoded_short, json_short}
use Rattle.etcs_text.specs.Trees.{json_tree}
use Rattle.etcs_stream.specs.declared.job.Command.{Command}
use Rattle.etcs_stream.specs.declared.job.Command.TheVariants.{Show, Check, Convert, Group}
use Rattle.etcs_runs.specs.declared.form.Form.TheVariants.{Hex, Bin, Json}
use Rattle.etcs_stream.specs.declared.job.Tally.{Tally}
use Rattle.etcs_stream.specs.Streams.{AreSpelled}
use Rattle.etcs_stream.specs.Reported.{Reported}
use Rattle.etcs_stream.specs.Printers.{OutputsItem, OutputsItems, Closes, nothing_reported}
use Rattle.etcs_stream.proofs.OutputLemmas.{one_count}
use Rattle.etcs_stream.proofs.GroupLengths.{group_item_short, last_lines_short}

-- what is written of one item
output_short : (command : Command) (kind : Kind) (e : EntryValue) (r : Reading) (s : Reported) (text : List ℕ) (s' : Reported) → EntryReads kind e r → s.count + 1 < 2 ^ 64 → OutputsItem command e s text s' → length text ≤ 2097152
output_short Show kind e r s text s' x h is = let l = entry_short e r (s.count + 1) x.1 h in rw is.0 (omega (arith, l))
output_short Check kind e r s text s' x h is = let l = check_short e r (s.count + 1) x.1 h in rw is.0 (omega (arith, l))
output_short (Convert Hex) kind e r s text s' x h ((bytes, encoded, is), more) =
    let l = length-append (encode_upper bytes) (10 ∷ []) in
    let d = length-encode_with upper_digits bytes in
    rw is (omega (arith, l, d, encoded_short e bytes encoded))
output_short (Convert Bin) kind e r s text s' x h is = omega (arith, encoded_short e text is.0)
output_short (Convert Json) kind e r s text s' x h is =
    let l = length-append (compact_text (json_tree e)) (10 ∷ []) in
    rw is.0 (omega (arith, l, json_short e r x.1))
output_short Group kind (of_telegram t) r s text s' x h is = group_item_short t s text s' h is
output_short Group kind (of_message way m) r s text s' x h is = absurd is

-- each item has a reading of this kind
abbrev pub AreRead : Kind → List EntryValue → Type 0
AreRead kind [] = Unit {0}
AreRead kind (e ∷ es) = (r : Reading) × EntryReads kind e r × AreRead kind es

-- the items of a spelling have readings
pub are_read : (kind : Kind) (es : List EntryValue) (b : List Bool) → AreSpelled kind es b → AreRead kind es
are_read kind [] b h = tt
are_read kind (e ∷ es) b h = (h.0, h.2, are_read kind es h.1 h.4)

-- what is written of items one after another
pub items_short : (command : Command) (kind : Kind) (s : Reported) (es : List EntryValue) (text : List ℕ) (s' : Reported) → AreRead kind es → s.count + length es ≤ 1000000 → OutputsItems command s es text s' → length text ≤ 2097152 * length es
items_short command kind s [] text s' reads h is = rw is.0 (omega arith)
items_short command kind s (e ∷ es) text s' (r, reads, others) h (mid, first, rest, is, outputs, beyond) =
    let one = output_short command kind e r s first mid reads (omega (arith, h)) outputs in
    let n = one_count command e s first mid outputs in
    let more = items_short command kind mid es rest s' others (omega (arith, h, n)) beyond in
    let l : length text ≡ length first + length rest = ap length is ∙ length-append first rest in
    omega (arith, one, more, l)

-- what is written at the end of the input
pub last_short : (command : Command) (es : List EntryValue) (lines : List ℕ) (s : Reported) (last : List ℕ) (tally : Tally) → OutputsItems command nothing_reported es lines s → Closes command s last tally → length last ≤ 2 ^ 40
last_short Show es lines s last tally h closes = rw closes.0 (omega arith)
last_short Check es lines s last tally h closes = rw closes.0 (omega arith)
last_short (Convert form) es lines s last tally h closes = rw closes.0 (omega arith)
last_short Group es lines s last tally h closes = last_lines_short es lines s last h closes.0
