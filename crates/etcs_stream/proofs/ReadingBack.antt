-- What a conversion writes is read again.
use Rattle.std.proofs.Common.{◌≡◌, ℕ, ◌-◌, ◌%◌, ◌<◌, ◌≤◌, Bool, true, false, cond, eqb, ltb, not, List, [], ◌∷◌, ◌++◌, map, length, take, get_or, None, Result, refl, sym, ap, subst, ◌∙◌, arith, inl, inr}
use Rattle.std.specs.Prelude.{All, slice_index}
use Rattle.std.specs.Io.BufRead.{ends_with_byte}
use Rattle.std.specs.List.{AllPass, position_or_len}
use Rattle.std.specs.Result.{result_unwrap_or}
use Rattle.std.proofs.lemmas.Bool.{eqb-true}
use Rattle.std.proofs.lemmas.Bool.Decides.{nat_tests}
use Rattle.std.proofs.lemmas.List.{append-nil}
use Rattle.std.proofs.lemmas.List.Elements.{All-cons, All-nil}
use Rattle.std.proofs.lemmas.List.Sums.{position_or_len_is}
use Rattle.hex.specs.Hex.{decode_pairs, encode_upper, is_hex_digit}
use Rattle.hex.specs.declared.error.FromHexError.{FromHexError}
use Rattle.hex.proofs.HexLemmas.{decode_of-encode_upper, decode_of-ok}
use Rattle.serde_json.specs.Data.{Members, object}
use Rattle.serde_json.specs.Written.{compact_text}
use Rattle.etcs_bits.specs.Bits.{bits}
use Rattle.etcs_bits.proofs.ByteBits.{bits-append}
use Rattle.etcs_vars.specs.Reading.{Reading}
use Rattle.etcs_text.specs.declared.entry.Kind.{Kind}
use Rattle.etcs_text.specs.Encodings.{IsEncoded}
use Rattle.etcs_text.specs.Entries.{EntryValue, of_telegram, of_message, EntryReads}
use Rattle.etcs_text.proofs.TextLengths.{encoded_short, json_short}
use Rattle.etcs_text.specs.Trees.{json_tree}
use Rattle.etcs_messages.specs.Messages.{typed_message, kept_message}
use Rattle.etcs_json.proofs.OwnStored.{says_itself}
use Rattle.etcs_json.proofs.PlainTrees.{read_tree, tree_without, utf8_tree}
use Rattle.etcs_stream.specs.declared.job.Command.TheVariants.{Convert}
use Rattle.etcs_runs.specs.declared.form.Form.TheVariants.{Hex, Bin, Json}
use Rattle.etcs_stream.specs.Inputs.{BitItems, ended}
use Rattle.etcs_stream.specs.JsonItems.{AreItemLines, EndedJson, IsItemLine}
use Rattle.etcs_runs.specs.Lines.{IsLine, lines_text, strip_cr}
use Rattle.etcs_stream.specs.Lines.{AreGood, IsHexText, bad_place, line_bytes, lines_bytes}
use Rattle.etcs_stream.specs.ReadBacks.{ReadBack}
use Rattle.etcs_stream.specs.Streams.{AreSpelled}
use Rattle.etcs_stream.specs.Printers.{OutputsItems, nothing_reported}
use Rattle.etcs_stream.specs.Reported.{Reported}
use Rattle.etcs_stream.proofs.OneLines.{both_true}
use Rattle.etcs_stream.proofs.OneTexts.{all_small}

-- ---- A line without a CR keeps all its characters.

not_empty : (n : ℕ) → ltb 0 n ≡ true → 0 < n
not_empty n h = grind (arith, nat_tests)

whole : (line : List ℕ) (b : Bool) → ends_with_byte 13 line ≡ b → All (λ c. c ≡ 13 → ⊥) line → cond b (take (length line - 1) line) line ≡ line
whole line false e h = refl
whole line true e h =
    let tests = both_true (ltb 0 (length line)) (eqb (slice_index line (length line - 1)) 13) e in
    let some = not_empty (length line) tests.0 in
    absurd (h (length line - 1) 0 (omega (arith, some)) (eqb-true (slice_index line (length line - 1)) 13 tests.1))

pub without_cr : (line : List ℕ) → All (λ c. c ≡ 13 → ⊥) line → strip_cr line ≡ line
without_cr line h = whole line (ends_with_byte 13 line) refl h

-- ---- Bytes.

-- the bits of encodings one after another are the items
bytes_spelled : (kind : Kind) (s : Reported) (es : List EntryValue) (spelt : List Bool) (text : List ℕ) (s' : Reported) → AreSpelled kind es spelt → OutputsItems (Convert Bin) s es text s' → AreSpelled kind es (bits text)
unfolding bits
bytes_spelled kind s [] spelt text s' are is = ap bits is.0
bytes_spelled kind s (e ∷ es) spelt text s' (r, beyond, reads, b, more) (mid, first, rest, is, (x, n), others) = (
  x.reading,
  bits rest,
  (reads.0, x.reads),
  ap bits is ∙ bits-append first rest ∙ ap (λ (z : List Bool). z ++ bits rest) x.bits_are,
  bytes_spelled kind mid es beyond rest s' more others,
)

-- nothing is after them
all_bits : (kind : Kind) (b : List Bool) (es : List EntryValue) → AreSpelled kind es b → length es ≤ 1000000 → BitItems kind b es ended
all_bits kind b es are few = record { spelt = b; rest = []; are_spelled = are; bits_are = sym (append-nil b); few = few; ends = refl }

-- ---- Lines of digits.

not_above : (m n : ℕ) → n ≤ m → ltb m n ≡ false
not_above m n h = grind (arith, nat_tests)

digits_good : (line : List ℕ) → length line ≤ 4096 → length line % 2 ≡ 0 → AllPass is_hex_digit line → bad_place line ≡ None
digits_good line short even digits =
    let other = λ (c : ℕ). not (is_hex_digit c) in
    let none : position_or_len other line ≡ length line = position_or_len_is other line (length line) 0 (omega arith) (λ k lt. ap not (digits k 0 lt)) (λ lt. absurd (omega arith)) in
    let size : ltb 4096 (length line) ≡ false = not_above 4096 (length line) short in
    let past : ltb (position_or_len other line) (length line) ≡ false = not_above (position_or_len other line) (length line) (omega (arith, none)) in
    rw (size, even, past) refl

no_cr : (c : ℕ) → c ≡ 13 → is_hex_digit c ≡ true → ⊥
no_cr c e h = let t : is_hex_digit 13 ≡ true = subst (λ (n : ℕ). is_hex_digit n ≡ true) e h in absurd cc

-- the digits of bytes are a good line that says them
record SaysBytes (bytes : List ℕ) : Type 0 where
  good : bad_place (strip_cr (encode_upper bytes)) ≡ None
  says : line_bytes (strip_cr (encode_upper bytes)) ≡ bytes

says_bytes : (e : EntryValue) (bytes : List ℕ) → IsEncoded e bytes → SaysBytes bytes
says_bytes e bytes x =
    let decodes = decode_of-encode_upper bytes (all_small bytes x.small) in
    let (even, digits, twice, small) = decode_of-ok (encode_upper bytes) bytes decodes in
    let same = without_cr (encode_upper bytes) (λ k d lt is. no_cr (get_or (encode_upper bytes) k d) is (digits k d lt)) in
    record {
      good = ap bad_place same ∙ digits_good (encode_upper bytes) (omega (arith, twice, encoded_short e bytes x)) even digits;
      says = ap line_bytes same ∙ ap (λ (z : Result (List ℕ) FromHexError). result_unwrap_or z []) decodes;
    }

-- a text is good lines, and what they say is the items
record GoodLines (kind : Kind) (es : List EntryValue) (text : List ℕ) : Type 0 where
  lines : List (List ℕ)
  text_is : text ≡ lines_text lines
  good : AreGood lines
  are_spelled : AreSpelled kind es (bits (lines_bytes lines))

good_lines : (kind : Kind) (s : Reported) (es : List EntryValue) (spelt : List Bool) (text : List ℕ) (s' : Reported) → AreSpelled kind es spelt → OutputsItems (Convert Hex) s es text s' → GoodLines kind es text
unfolding bits
good_lines kind s [] spelt text s' are is = record { lines = []; text_is = is.0; good = tt; are_spelled = refl }
good_lines kind s (e ∷ es) spelt text s' (r, beyond, reads, b, more) (mid, first, rest, is, ((bytes, x, line), n), others) =
    let h = good_lines kind mid es beyond rest s' more others in
    let own = says_bytes e bytes x in
    record {
      lines = encode_upper bytes ∷ h.lines;
      text_is = is ∙ ap (λ (z : List ℕ). z ++ rest) line ∙ ap (λ (z : List ℕ). (encode_upper bytes ++ 10 ∷ []) ++ z) h.text_is;
      good = (own.good, h.good);
      are_spelled = (
        x.reading,
        bits (lines_bytes h.lines),
        (reads.0, x.reads),
        ap (λ (z : List ℕ). bits (z ++ lines_bytes h.lines)) own.says ∙ bits-append bytes (lines_bytes h.lines) ∙ ap (λ (z : List Bool). z ++ bits (lines_bytes h.lines)) x.bits_are,
        h.are_spelled,
      );
    }

empty_says : line_bytes [] ≡ []
unfolding decode_pairs
empty_says = refl

hex_text : (lines : List (List ℕ)) (text : List ℕ) → text ≡ lines_text lines → AreGood lines → IsHexText text (lines_bytes lines)
hex_text lines text is good = record {
  lines = lines;
  last = [];
  text_is = is ∙ sym (append-nil (lines_text lines));
  lines_good = good;
  last_good = refl;
  bytes_are = sym (ap (λ (z : List ℕ). lines_bytes lines ++ z) empty_says ∙ append-nil (lines_bytes lines));
}

-- ---- Lines of JSON.

is_object : (e : EntryValue) → (ms : Members) × (json_tree e ≡ object ms)
is_object (of_telegram t) = (_, refl)
is_object (of_message way (typed_message nid head body vs padding)) = (_, refl)
is_object (of_message way (kept_message nid b)) = (_, refl)

some_json : (e : EntryValue) → 0 < length (compact_text (json_tree e))
some_json e = let (ms, is) = is_object e in rw is (omega arith)

pub item_line : (kind : Kind) (e : EntryValue) (r : Reading) → EntryReads kind e r → IsItemLine kind (strip_cr (compact_text (json_tree e))) e
item_line kind e r reads =
    let line = compact_text (json_tree e) in
    let short : length line ≤ 1048576 = omega (arith, json_short e r reads.1) in
    subst (λ (z : List ℕ). IsItemLine kind z e) (sym (without_cr line (tree_without 13 (omega arith) e r reads.1)))
    (some_json e, short, (json_tree e, utf8_tree e r reads.1, read_tree e r reads.1, says_itself kind e r reads))

-- a text is lines, and they are the items
record ItemLines (kind : Kind) (es : List EntryValue) (text : List ℕ) : Type 0 where
  lines : List (List ℕ)
  text_is : text ≡ lines_text lines
  are_lines : All IsLine lines
  are_items : AreItemLines kind (map strip_cr lines) es

item_lines : (kind : Kind) (s : Reported) (es : List EntryValue) (spelt : List Bool) (text : List ℕ) (s' : Reported) → AreSpelled kind es spelt → OutputsItems (Convert Json) s es text s' → ItemLines kind es text
item_lines kind s [] spelt text s' are is = record { lines = []; text_is = is.0; are_lines = All-nil IsLine; are_items = refl }
item_lines kind s (e ∷ es) spelt text s' (r, beyond, reads, b, more) (mid, first, rest, is, (own, n), others) =
    let h = item_lines kind mid es beyond rest s' more others in
    let line = compact_text (json_tree e) in
    record {
      lines = line ∷ h.lines;
      text_is = is ∙ ap (λ (z : List ℕ). z ++ rest) own ∙ ap (λ (z : List ℕ). (line ++ 10 ∷ []) ++ z) h.text_is;
      are_lines = All-cons IsLine line h.lines (tree_without 10 (omega arith) e r reads.1) h.are_lines;
      are_items = inr (e, es, refl, item_line kind e r reads, h.are_items);
    }

ended_lines : (kind : Kind) (es : List EntryValue) (text : List ℕ) → ItemLines kind es text → length es ≤ 1000000 → EndedJson kind text es
ended_lines kind es text h few = record {
  lines = h.lines;
  last = [];
  front = es;
  beyond = [];
  lines_are = record { text_is = h.text_is ∙ sym (append-nil (lines_text h.lines)); are_lines = h.are_lines; are_items = h.are_items; few = few };
  is_line = All-nil (λ c. c ≡ 10 → ⊥);
  last_is = inl (refl, refl);
  items_are = sym (append-nil es);
  few = few;
}

-- ---- Each form.

pub read_back : ReadBack
read_back Bin kind es spelt text are few (s, outputs) =
    all_bits kind (bits text) es (bytes_spelled kind nothing_reported es spelt text s are outputs) few
read_back Hex kind es spelt text are few (s, outputs) =
    let h = good_lines kind nothing_reported es spelt text s are outputs in
    inl (lines_bytes h.lines, hex_text h.lines text h.text_is h.good, all_bits kind (bits (lines_bytes h.lines)) es h.are_spelled few)
read_back Json kind es spelt text are few (s, outputs) =
    ended_lines kind es text (item_lines kind nothing_reported es spelt text s are outputs) few
