-- An item by its bits, and the line that is its JSON.
use Rattle.std.proofs.Common.{◌≡◌, ℕ, ◌+◌, ◌-◌, ◌*◌, ◌/◌, ◌<◌, ◌≤◌, Bool, true, false, cond, eqb, ltb, List, [], ◌∷◌, ◌++◌, length, take, drop, Ok, refl, sym, ap, subst, ◌∙◌, arith, append_assoc, length-append, length-drop, lt-ltb, get_or-append-add, take_all, take_at, inl, inr}
use Rattle.std.specs.Prelude.{◌⊎◌, ◌&&◌, All, slice_index}
use Rattle.std.specs.Io.BufRead.{ends_with_byte}
use Rattle.std.proofs.lemmas.List.{append-nil, length-take-le, take-append-drop}
use Rattle.std.proofs.lemmas.List.Elements.{All-append, All-cons, All-nil, All-same, All-take}
use Rattle.serde_json.specs.Written.{compact_text}
use Rattle.etcs_bits.specs.Bits.{bits}
use Rattle.etcs_bits.proofs.Owned.{bits-take}
use Rattle.etcs_bits.proofs.Positions.{length-bits}
use Rattle.etcs_vars.specs.Reading.{IsOutcome, Reading, done, spelled}
use Rattle.etcs_telegram.specs.declared.size.Size.{Size}
use Rattle.etcs_telegram.specs.declared.size.Size.TheVariants.{Long, Short}
use Rattle.etcs_telegram.specs.Telegrams.{pad_bits, user_bits}
use Rattle.etcs_telegram.proofs.Spellings.{whole_length}
use Rattle.etcs_text.specs.declared.entry.Kind.{Kind}
use Rattle.etcs_text.specs.Encodings.{IsEncoded}
use Rattle.etcs_text.specs.Entries.{EntryReads, EntryValue, Spells, of_message, of_telegram}
use Rattle.etcs_text.specs.Messages.{message_bytes}
use Rattle.etcs_text.specs.Trees.{json_tree}
use Rattle.etcs_text.proofs.TextLengths.{whole_message}
use Rattle.etcs_json.proofs.PlainTrees.{tree_without}
use Rattle.etcs_runs.specs.Handling.{LinesTaken}
use Rattle.etcs_runs.specs.Lines.{IsAfterLf, IsLine, strip_cr}
use Rattle.etcs_runs.proofs.Several.{first_taken, lf_after, more_taken}
use Rattle.etcs_stream.specs.declared.job.Job.{Job}
use Rattle.etcs_stream.specs.JsonItems.{IsItemLine}
use Rattle.etcs_stream.specs.Printers.{OutputsItem}
use Rattle.etcs_stream.specs.Reported.{Reported}
use Rattle.etcs_stream.specs.Stands.{JsonTook}
use Rattle.etcs_stream.specs.Taking.{TakesFirst, item_line}
use Rattle.etcs_stream.proofs.JsonSteps.{json_line_took, line_output}
use Rattle.etcs_stream.proofs.OneItems.{first_same}
use Rattle.etcs_stream.proofs.ReadingBack as back
use Rattle.etcs_stream.proofs.ReadingBack.{without_cr}

-- ---- The bits.

sized : (s : Size) → (n : ℕ) × (user_bits s + pad_bits s ≡ 8 * n) × (n < 1024)
sized Long = (104, refl, omega arith)
sized Short = (27, refl, omega arith)

-- an item has whole bytes, fewer than 1,024
whole_bytes : (e : EntryValue) (r : Reading) → Spells e r → (n : ℕ) × (length (spelled r) ≡ 8 * n) × (n < 1024)
whole_bytes (of_telegram t) r x =
    let (n, is, few) = sized t.size in
    (n, whole_length t.size r (t, (refl, x)) ∙ is, few)
whole_bytes (of_message way m) r x =
    let (few, bytes, all) = whole_message way m r x in
    (message_bytes way m, all ∙ sym bytes, omega (arith, few, bytes))

-- the first `count` of these bytes are those of the item
pub record OfBytes (kind : Kind) (e : EntryValue) (bytes : List ℕ) (count : ℕ) : Type 0 where
  pub short : count < 1024
  pub within : count ≤ length bytes
  pub outcome : IsOutcome (EntryReads kind) (bits bytes) (done e (8 * count))
  pub encoded : IsEncoded e (take count bytes)

pub of_bits : (kind : Kind) (e : EntryValue) (r : Reading) (page : List Bool) (bytes : List ℕ) (count : ℕ) → EntryReads kind e r → page ≡ spelled r → length page ≤ length (bits bytes) → take (length page) (bits bytes) ≡ page → count ≡ length page / 8 → All (λ b. b < 256) bytes → OfBytes kind e bytes count
of_bits kind e r page bytes count reads is fits first half small =
    let (n, long, few) = whole_bytes e r reads.1 in
    let len : length page ≡ 8 * n = ap length is ∙ long in
    let same : count ≡ n = omega (arith, half, len) in
    let all : length page ≡ 8 * count = omega (arith, len, same) in
    let inside : count ≤ length bytes = omega (arith, fits, all, length-bits bytes) in
    let front : spelled r ≡ take (8 * count) (bits bytes) = sym is ∙ sym first ∙ ap (λ (k : ℕ). take k (bits bytes)) all in
    record {
      short = omega (arith, few, same);
      within = inside;
      outcome = (omega (arith, fits, all), r, reads, front);
      encoded = record { reading = r; reads = reads.1; small = All-take (λ b. b < 256) count bytes small; bits_are = bits-take bytes count inside ∙ sym front };
    }

-- they begin with one item
pub one_outcome : (kind : Kind) (e f : EntryValue) (b : List Bool) (n m : ℕ) → IsOutcome (EntryReads kind) b (done e n) → IsOutcome (EntryReads kind) b (done f m) → e ≡ f
one_outcome kind e f b n m (fits, r, reads, is) (fits', q, reads', is') =
    (first_same kind e f r q (drop n b) (drop m b) reads reads'
    (ap (λ (z : List Bool). z ++ drop n b) is ∙ take-append-drop n b ∙ sym (take-append-drop m b) ∙ ap (λ (z : List Bool). z ++ drop m b) (sym is'))).0

-- ---- The line.

both_true : (a b : Bool) → a ≡ true → b ≡ true → a && b ≡ true
both_true true b h g = g
both_true false b h g = absurd cc

last_cr : (line : List ℕ) → strip_cr (line ++ 13 ∷ []) ≡ line
last_cr line =
    let raw = line ++ 13 ∷ [] in
    let long : length raw ≡ length line + 1 = length-append line (13 ∷ []) in
    let place : length raw - 1 ≡ length line + 0 = omega (arith, long) in
    let last : slice_index raw (length raw - 1) ≡ 13 = ap (λ (n : ℕ). slice_index raw n) place ∙ get_or-append-add line (13 ∷ []) 0 0 in
    let some : ltb 0 (length raw) ≡ true = lt-ltb 0 (length raw) (omega (arith, long)) in
    let is : eqb (slice_index raw (length raw - 1)) 13 ≡ true = ap (λ (c : ℕ). eqb c 13) last in
    let ends : ends_with_byte 13 raw ≡ true = both_true (ltb 0 (length raw)) (eqb (slice_index raw (length raw - 1)) 13) some is in
    ap (λ (b : Bool). cond b (take (length raw - 1) raw) raw) ends ∙ take_at line (13 ∷ []) (length raw - 1) (omega (arith, long))

no_lf : ◌≡◌ {A = ℕ} 13 10 → ⊥
no_lf e = omega (arith, e)

-- with a CR at its end or none
pub record IsEnded (line cr : List ℕ) : Type 0 where
  pub is_line : IsLine (line ++ cr)
  pub stripped : strip_cr (line ++ cr) ≡ line

ended : (line cr : List ℕ) → IsLine line → All (λ c. c ≡ 13 → ⊥) line → (cr ≡ []) ⊎ (cr ≡ 13 ∷ []) → IsEnded line cr
ended line cr l none (inl e) = subst (IsEnded line) (sym e) (record {
  is_line = All-append (λ c. c ≡ 10 → ⊥) line [] l (All-nil (λ c. c ≡ 10 → ⊥));
  stripped = ap (λ (z : List ℕ). strip_cr z) (append-nil line) ∙ without_cr line none;
})
ended line cr l none (inr e) = subst (IsEnded line) (sym e) (record {
  is_line = All-append (λ c. c ≡ 10 → ⊥) line (13 ∷ []) l (All-cons (λ c. c ≡ 10 → ⊥) 13 [] no_lf (All-nil (λ c. c ≡ 10 → ⊥)));
  stripped = last_cr line;
})

-- what ends a line
abbrev pub EndsBy : List ℕ → ℕ → Type 0
EndsBy text n = (cr : List ℕ) × (beyond : List ℕ) × ((cr ≡ []) ⊎ (cr ≡ 13 ∷ [])) × (text ≡ cr ++ 10 ∷ beyond) × (n ≡ length cr + 1)

-- the first line of a text is an item's, which was reported
pub first_line : (job : Job) (e : EntryValue) (r : Reading) (rest : List ℕ) (count end : ℕ) (before after : Reported) (text text' : List ℕ) → EntryReads job.kind e r → count ≤ length rest → take count rest ≡ compact_text (json_tree e) → EndsBy (drop count rest) end → before.count < 1000000 → (added : List ℕ) × OutputsItem job.command e before added after × (text' ≡ text ++ added) → TakesFirst job rest before after text text' (count + end)
first_line job e r rest count end before after text text' reads fits is (cr, beyond, kind, tail, long) few (added, outputs, text_is) =
    let line = take count rest in
    let l : IsLine line = All-same (λ c. c ≡ 10 → ⊥) line (compact_text (json_tree e)) is (tree_without 10 (omega arith) e r reads.1) in
    let none : All (λ c. c ≡ 13 → ⊥) line = All-same (λ c. c ≡ 13 → ⊥) line (compact_text (json_tree e)) is (tree_without 13 (omega arith) e r reads.1) in
    let k = ended line cr l none kind in
    let own : IsItemLine job.kind line e = subst (λ (z : List ℕ). IsItemLine job.kind z e) (ap (λ (z : List ℕ). strip_cr z) (sym is) ∙ without_cr line none) (back.item_line job.kind e r reads) in
    record {
      raw = line ++ cr;
      beyond = beyond;
      rest_is = sym (take-append-drop count rest) ∙ ap (λ (z : List ℕ). line ++ z) tail ∙ sym (append_assoc line cr (10 ∷ beyond));
      is_line = k.is_line;
      bytes_is = omega (arith, long, length-append line cr, length-take-le count rest fits);
      takes = item_line e added (subst (λ (z : List ℕ). IsItemLine job.kind z e) (sym k.stripped) own) few outputs text_is;
    }

-- ---- Lines one after another.

-- one line is taken
pub first_lines : (job : Job) (rest : List ℕ) (whole : ℕ) (before after : Reported) (text text' : List ℕ) (n : ℕ) → IsAfterLf rest whole → TakesFirst job rest before after text text' n → LinesTaken (JsonTook job before) (JsonTook job after) rest whole text text' n 1
first_lines job rest whole before after text text' n lf h =
    first_taken rest h.raw h.beyond whole text text' n lf h.rest_is h.is_line h.bytes_is
    (λ lines output x. json_line_took job before lines output text x h.raw (strip_cr h.raw) after text' (Ok tt) h.is_line refl h.takes)

-- no more items are reported than a run may have
pub first_few : (job : Job) (rest : List ℕ) (before after : Reported) (text text' : List ℕ) (n : ℕ) → TakesFirst job rest before after text text' n → before.count ≤ 1000000 → after.count ≤ 1000000
first_few job rest before after text text' n h few =
    let one = line_output job (strip_cr h.raw) before after text text' h.takes in
    one.few few

-- the rest of a slice
pub slice_rest : (text : List ℕ) (at : ℕ) → take (length text - at) (drop at text) ≡ drop at text
slice_rest text at = take_all (length text - at) (drop at text) (omega (arith, length-drop at text))

-- and one line more, of the rest
pub next_lines : (job : Job) (rest : List ℕ) (whole : ℕ) (start before after : Reported) (first text text' : List ℕ) (at lines n : ℕ) → IsAfterLf rest whole → at < whole → LinesTaken (JsonTook job start) (JsonTook job before) rest whole first text at lines → TakesFirst job (take (length rest - at) (drop at rest)) before after text text' n → LinesTaken (JsonTook job start) (JsonTook job after) rest whole first text' (at + n) (lines + 1)
next_lines job rest whole start before after first text text' at lines n lf below h next =
    let k : TakesFirst job (drop at rest) before after text text' n = subst (λ (z : List ℕ). TakesFirst job z before after text text' n) (slice_rest rest at) next in
    more_taken rest whole first text text' at lines n 1 h (first_lines job (drop at rest) (whole - at) before after text text' n (lf_after h lf below) k)
