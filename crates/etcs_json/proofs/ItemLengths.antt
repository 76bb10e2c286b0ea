-- Bits that are as long as the items that may begin with them, and what a reader returns for them.
use Rattle.std.proofs.Common.{◌≡◌, ℕ, ◌+◌, ◌*◌, ◌/◌, ◌%◌, ◌^◌, ◌<◌, ◌≤◌, Bool, List, [], ◌∷◌, ◌++◌, length, drop, take, Result, Err, refl, sym, ap, subst, ◌∙◌, arith, append_assoc, append-nil}
use Rattle.std.proofs.lemmas.List.{length-append, length-drop, take_all, take-append-drop, nil_from_length}
use Rattle.etcs_bits.specs.Bits.{bits, num}
use Rattle.etcs_bits.proofs.Numbers.{length-num, num_same}
use Rattle.etcs_bits.proofs.Owned.{bits-take}
use Rattle.etcs_bits.proofs.Positions.{length-bits}
use Rattle.etcs_vars.specs.declared.var.Var.{Var}
use Rattle.etcs_vars.specs.declared.var.Var.TheVariants.{NID_MESSAGE, L_MESSAGE, OTHER_DATA, PADDING}
use Rattle.etcs_vars.specs.Reading.{Reading, spelled, kept, IsOutcome, more, refused}
use Rattle.etcs_vars.proofs.Apart.{apart, cut}
use Rattle.etcs_vars.proofs.Prefixes.{admits_parts}
use Rattle.etcs_tables.specs.declared.row.Way.{Way}
use Rattle.etcs_packets.specs.PacketReadings.{readings_to}
use Rattle.etcs_messages.specs.Messages.{MessageValue, typed_message, kept_message, MessageReads}
use Rattle.etcs_messages.proofs.Bytes.{kept_length, message_bytes, typed_length}
use Rattle.etcs_telegram.specs.declared.size.Size.{Size}
use Rattle.etcs_telegram.specs.Telegrams.{user_bits, pad_bits}
use Rattle.etcs_telegram.proofs.Encoding.{whole_bytes}
use Rattle.etcs_telegram.proofs.Spellings.{whole_length}
use Rattle.etcs_text.specs.declared.entry.Kind.{Kind}
use Rattle.etcs_text.specs.Entries.{EntryValue, of_telegram, of_message, kind_of, message_kind, EntryReads}
use Rattle.etcs_text.specs.Verdicts.{IsBegun}
use Rattle.etcs_text.proofs.ItemKinds.{kind_regular, same_messages, same_telegrams}
use Rattle.etcs_json.specs.declared.fault.JsonFault.{JsonFault}
use Rattle.etcs_json.specs.declared.fault.JsonFault.TheVariants.{Refused}
use Rattle.etcs_json.specs.Loose.{HasLength}

-- ---- How long they are.

-- the bits of an item
item_long : (kind : Kind) (e : EntryValue) (r : Reading) → EntryReads kind e r → HasLength kind (spelled r)
item_long kind e r reads f q c d other same =
    let regular = kind_regular kind in
    ap (λ (z : Reading). length (spelled z)) (apart q r c d (regular.agree q r (f, other) (e, reads)) (regular.fit q (f, other)) (regular.fit r (e, reads)) same).0

pub telegram_long : (s : Size) (b : List Bool) → length b ≡ user_bits s + pad_bits s → HasLength (kind_of s) b
telegram_long s b long e r c d reads same = whole_length s r ((same_telegrams s r).1 (e, reads)) ∙ sym long

-- what the first 18 bits of a message say
pub record Headed (r : Reading) : Type 0 where
  pub nid : ℕ
  pub len : ℕ
  pub rest : Reading
  pub is : r ≡ (NID_MESSAGE, nid) ∷ (L_MESSAGE, len) ∷ rest
  pub small : len < 2 ^ 10
  pub long : length (spelled r) ≡ 8 * len

pub headed : (way : Way) (m : MessageValue) (r : Reading) → MessageReads way m r → Headed r
headed way (typed_message nid h body vs padding) r x = record {
  nid = nid;
  len = x.len;
  rest = h ++ body ++ readings_to way vs ++ kept PADDING padding;
  is = x.reading_is;
  small = (admits_parts L_MESSAGE x.len x.head_admitted.1.0).1;
  long = omega (arith, ap (λ (q : Reading). length (spelled q)) x.reading_is ∙ typed_length way nid x.len h body vs padding x.head_reads, x.bytes);
}
headed way (kept_message nid b) r x = record {
  nid = nid;
  len = x.len;
  rest = kept OTHER_DATA b;
  is = x.reading_is;
  small = x.most;
  long = omega (arith, ap (λ (q : Reading). length (spelled q)) x.reading_is ∙ kept_length nid x.len b, x.bytes);
}

-- L_MESSAGE of bits that begin alike
same_len : (nid nid' len len' : ℕ) (r r' : Reading) (c d : List Bool) → len < 2 ^ 10 → len' < 2 ^ 10 → spelled ((NID_MESSAGE, nid) ∷ (L_MESSAGE, len) ∷ r) ++ c ≡ spelled ((NID_MESSAGE, nid') ∷ (L_MESSAGE, len') ∷ r') ++ d → len ≡ len'
same_len nid nid' len len' r r' c d small small' e =
    let shape : (n l : ℕ) (q : Reading) (b : List Bool) → spelled ((NID_MESSAGE, n) ∷ (L_MESSAGE, l) ∷ q) ++ b ≡ num 8 n ++ (num 10 l ++ (spelled q ++ b)) = λ n l q b. append_assoc (num 8 n) (num 10 l ++ spelled q) b ∙ ap (λ (x : List Bool). num 8 n ++ x) (append_assoc (num 10 l) (spelled q) b) in
    let both : num 8 nid ++ (num 10 len ++ (spelled r ++ c)) ≡ num 8 nid' ++ (num 10 len' ++ (spelled r' ++ d)) = sym (shape nid len r c) ∙ e ∙ shape nid' len' r' d in
    let first = cut (num 8 nid) (num 8 nid') (num 10 len ++ (spelled r ++ c)) (num 10 len' ++ (spelled r' ++ d)) (length-num 8 nid ∙ sym (length-num 8 nid')) both in
    let second = cut (num 10 len) (num 10 len') (spelled r ++ c) (spelled r' ++ d) (length-num 10 len ∙ sym (length-num 10 len')) first.1 in
    num_same 10 len len' small small' second.0

pub message_long : (way : Way) (q : Reading) (nid len : ℕ) (rest : Reading) → q ≡ (NID_MESSAGE, nid) ∷ (L_MESSAGE, len) ∷ rest → len < 2 ^ 10 → length (spelled q) ≡ 8 * len → HasLength (message_kind way) (spelled q)
message_long way q nid len rest is small long e r c d reads same =
    let (m, x) = (same_messages way r).1 (e, reads) in
    let h = headed way m r x in
    let both : spelled ((NID_MESSAGE, h.nid) ∷ (L_MESSAGE, h.len) ∷ h.rest) ++ c ≡ spelled ((NID_MESSAGE, nid) ∷ (L_MESSAGE, len) ∷ rest) ++ d = ap (λ (p : Reading). spelled p ++ c) (sym h.is) ∙ same ∙ ap (λ (p : Reading). spelled p ++ d) is in
    let lens = same_len h.nid nid h.len len h.rest rest c d h.small small both in
    omega (arith, h.long, long, lens)

-- ---- What a reader returns.

-- no item of the kind is longer or shorter than the bits
all_taken : (kind : Kind) (b : List Bool) (e : EntryValue) (r : Reading) (d : List Bool) → HasLength kind b → EntryReads kind e r → spelled r ≡ b ++ d → spelled r ≡ b
all_taken kind b e r d long reads is =
    let same : length (spelled r) ≡ length b = long e r [] d reads (append-nil (spelled r) ∙ is) in
    let none : d ≡ [] = nil_from_length d (omega (arith, same, ap (λ (x : List Bool). length x) is, length-append b d)) in
    is ∙ ap (λ (x : List Bool). b ++ x) none ∙ append-nil b

pub not_shorter : (kind : Kind) (b : List Bool) → HasLength kind b → IsOutcome (EntryReads kind) b more → ⊥
not_shorter kind b long (none, (r, c, (e, reads), is)) =
    let whole = all_taken kind b e r c long reads is in
    none (length b) (omega arith) (r, (e, reads), whole ∙ sym (take_all (length b) b (omega arith)))

pub not_longer : (kind : Kind) (bytes : List ℕ) → HasLength kind (bits bytes) → IsBegun kind bytes → ⊥
not_longer kind bytes long (e, k, less, (within, r, reads, is)) =
    let b = bits bytes in
    let rest = drop (8 * k) b in
    let all : spelled r ++ rest ≡ b = ap (λ (x : List Bool). x ++ rest) is ∙ take-append-drop (8 * k) b in
    let same : length (spelled r) ≡ length b = long e r rest [] reads (all ∙ sym (append-nil b)) in
    omega (arith, less, same, ap (λ (x : List Bool). length x) all, length-append (spelled r) rest, length-drop (8 * k) b, length-bits bytes)

pub refused_same : {A : Type 0} (kind : Kind) (b : List Bool) (i j : ℕ) (x y : Var) → ◌≡◌ {A = Result A JsonFault} (Err (Refused i x)) (Err (Refused j y)) → IsOutcome (EntryReads kind) b (refused i x) → IsOutcome (EntryReads kind) b (refused j y)
refused_same kind b i j x y e h =
    let bit : i ≡ j = cc in
    let var : x ≡ y = cc in
    subst (λ (v : Var). IsOutcome (EntryReads kind) b (refused j v)) var (subst (λ (k : ℕ). IsOutcome (EntryReads kind) b (refused k x)) bit h)

-- ---- Bytes that begin with bits.

whole_item : (e : EntryValue) (kind : Kind) (r : Reading) → EntryReads kind e r → length (spelled r) % 8 ≡ 0
whole_item (of_telegram t) kind r (is, x) = omega (arith, whole_length t.size r (t, (refl, x)), whole_bytes t.size)
whole_item (of_message way m) kind r (is, x) = (message_bytes way r (m, x)).0

-- the bits of an item on a page
pub item_whole : (kind : Kind) (e : EntryValue) (r : Reading) (page : List Bool) → EntryReads kind e r → page ≡ spelled r → length page % 8 ≡ 0
item_whole kind e r page reads is = ap (λ (b : List Bool). length b % 8) is ∙ whole_item e kind r reads

pub item_long_at : (kind : Kind) (e : EntryValue) (r : Reading) (page : List Bool) → EntryReads kind e r → page ≡ spelled r → HasLength kind page
item_long_at kind e r page reads is = subst (λ (b : List Bool). HasLength kind b) (sym is) (item_long kind e r reads)

-- the bytes of a page whose bits are whole bytes
pub page_bytes : (page : List Bool) (bytes : List ℕ) → length page % 8 ≡ 0 → length page ≤ length (bits bytes) → take (length page) (bits bytes) ≡ page → (length page / 8 ≤ length bytes) × (bits (take (length page / 8) bytes) ≡ page)
page_bytes page bytes is within first =
    let whole : 8 * (length page / 8) ≡ length page = omega (arith, is) in
    let inside : length page / 8 ≤ length bytes = omega (arith, whole, within, length-bits bytes) in
    (inside, bits-take bytes (length page / 8) inside ∙ ap (λ (k : ℕ). take k (bits bytes)) whole ∙ first)
