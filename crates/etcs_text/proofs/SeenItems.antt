-- Items that are seen in the first bytes of others.
use Rattle.std.proofs.Common.{◌≡◌, ◌⊎◌, inl, inr, ℕ, ◌*◌, ◌<◌, ◌≤◌, Bool, List, ◌++◌, length, take, Option, Some, None, refl, sym, ap, ◌∙◌, arith}
use Rattle.std.specs.Prelude.{All, IfSome}
use Rattle.std.proofs.lemmas.List.{length-take, take-take, take-append-le}
use Rattle.std.proofs.lemmas.List.Elements.{All-take}
use Rattle.etcs_bits.specs.Bits.{bits, part}
use Rattle.etcs_bits.proofs.ByteBits.{bits-append}
use Rattle.etcs_bits.proofs.Positions.{length-bits}
use Rattle.etcs_bits.proofs.Owned.{bits-take}
use Rattle.etcs_vars.specs.Reading.{Reading, IsOutcome, done, spelled}
use Rattle.etcs_tables.specs.declared.row.Way.{Way}
use Rattle.etcs_tables.specs.declared.row.Way.TheVariants.{ToTrain, ToTrack}
use Rattle.etcs_messages.specs.Messages.{MessageReads, MessageValue}
use Rattle.etcs_telegram.specs.declared.size.Size.{Size}
use Rattle.etcs_telegram.specs.Telegrams.{TelegramValue, ReadsAs, user_bits}
use Rattle.etcs_text.specs.declared.entry.Kind.{Kind}
use Rattle.etcs_text.specs.declared.entry.Kind.TheVariants.{Radio, Train}
use Rattle.etcs_text.specs.Encodings.{IsEncoded}
use Rattle.etcs_text.specs.Entries.{EntryValue, EntryReads, of_telegram, of_message, entry_bits, kind_of, message_kind}
use Rattle.etcs_text.proofs.ItemKinds.{item_bits, kind_same, telegram_message}
use Rattle.etcs_text.proofs.TextLengths.{whole_message}

-- the first n bytes are those of an item of the kind
abbrev pub BeginsWith : Kind → List ℕ → ℕ → Type 0
BeginsWith kind bytes n = (e : EntryValue) × (r : Reading) × EntryReads kind e r × (spelled r ≡ part 0 (8 * n) (bits bytes))

pub telegram_front : (s : Size) (bytes : List ℕ) (n : ℕ) → ((t : TelegramValue) × (r : Reading) × ReadsAs s t r × (spelled r ≡ part 0 (8 * n) (bits bytes))) → BeginsWith (kind_of s) bytes n
telegram_front s bytes n (t, r, reads, is) = (of_telegram t, r, (ap kind_of reads.0, reads.1), is)

pub message_front : (way : Way) (bytes : List ℕ) (n : ℕ) → ((m : MessageValue) × (r : Reading) × MessageReads way m r × (spelled r ≡ part 0 (8 * n) (bits bytes))) → BeginsWith (message_kind way) bytes n
message_front way bytes n (m, r, reads, is) = (of_message way m, r, (refl, reads), is)

-- an item with which the first m bytes begin is one with which all begin
module _ (kind : Kind) (bytes : List ℕ) (m n : ℕ) (inside : m ≤ length bytes) (short : n ≤ m) where
  pub seen_item : All (λ b. b < 256) bytes → BeginsWith kind (take m bytes) n → (e : EntryValue) × IsOutcome (EntryReads kind) (bits bytes) (done e (8 * n)) × IsEncoded e (take n bytes)
  seen_item small (e, r, reads, is) =
      let same : spelled r ≡ take (8 * n) (bits bytes) = is ∙ ap (take (8 * n)) (bits-take bytes m inside) ∙ take-take (8 * n) (8 * m) (bits bytes) (omega (arith, short)) in
      let outcome : IsOutcome (EntryReads kind) (bits bytes) (done e (8 * n)) = (omega (arith, length-bits bytes, inside, short), r, reads, same) in
      let encoded : IsEncoded e (take n bytes) = record { reading = r; reads = reads.1; small = All-take (λ b. b < 256) n bytes small; bits_are = bits-take bytes n (omega (arith, inside, short)) ∙ sym same } in
      (e, outcome, encoded)

  -- which has some bytes
  pub seen_some : BeginsWith kind (take m bytes) n → 0 < n
  seen_some (e, r, reads, is) =
      let all : length (spelled r) ≤ 8 * n = omega (arith, ap length is, length-take (8 * n) (bits (take m bytes))) in
      omega (arith, item_bits kind r (e, reads), all)

-- of one that may be there
module _ (kind : Kind) (bytes : List ℕ) (m : ℕ) (o : Option ℕ) (inside : m ≤ length bytes) where
  pub seen_items : All (λ b. b < 256) bytes → IfSome o (λ n. n ≤ length (take m bytes)) → IfSome o (BeginsWith kind (take m bytes)) → IfSome o (λ n. (e : EntryValue) × IsOutcome (EntryReads kind) (bits bytes) (done e (8 * n)) × IsEncoded e (take n bytes))
  seen_items small within there = by o within there
    where
      by : (r : Option ℕ) → IfSome r (λ n. n ≤ length (take m bytes)) → IfSome r (BeginsWith kind (take m bytes)) → IfSome r (λ n. (e : EntryValue) × IsOutcome (EntryReads kind) (bits bytes) (done e (8 * n)) × IsEncoded e (take n bytes))
      by None h is = tt
      by (Some n) h is = seen_item kind bytes m n inside (omega (arith, h, length-take m bytes)) small is

  pub all_some : IfSome o (λ n. n ≤ length (take m bytes)) → IfSome o (BeginsWith kind (take m bytes)) → IfSome o (λ n. 0 < n)
  all_some within there = by o within there
    where
      by : (r : Option ℕ) → IfSome r (λ n. n ≤ length (take m bytes)) → IfSome r (BeginsWith kind (take m bytes)) → IfSome r (λ n. 0 < n)
      by None h is = tt
      by (Some n) h is = seen_some kind bytes m n inside (omega (arith, h, length-take m bytes)) is

-- ---- Copied bytes.

-- the first bits of bytes are those of a copy that others follow
pub copied_front : (bytes copy rest : List ℕ) (n : ℕ) → copy ≡ bytes → n ≤ length bytes → part 0 (8 * n) (bits (copy ++ rest)) ≡ part 0 (8 * n) (bits bytes)
copied_front bytes copy rest n same within =
    ap (take (8 * n)) (bits-append copy rest ∙ ap (λ l. bits l ++ bits rest) same) ∙ take-append-le (8 * n) (bits bytes) (bits rest) (omega (arith, length-bits bytes, within))

-- ---- How many bits it has.

long_front : {V : Type 0} (Reads : V → Reading → Type 0) (b : List Bool) (v : V) (n : ℕ) → IsOutcome Reads b (done v n) → (r : Reading) × Reads v r × (length (spelled r) ≡ n)
long_front Reads b v n (inside, r, reads, is) = (r, reads, omega (arith, ap length is, length-take n b, inside))

-- a telegram has the user bits of its size
pub telegram_bits : (s : Size) (b : List Bool) (n : ℕ) (e : EntryValue) → IsOutcome (EntryReads (kind_of s)) b (done e n) → user_bits s ≡ entry_bits e
telegram_bits s b n (of_telegram t) is = let (r, reads, long) = long_front (EntryReads (kind_of s)) b (of_telegram t) n is in ap user_bits (sym (kind_same t.size s reads.0))
telegram_bits s b n (of_message way m) is = let (r, reads, long) = long_front (EntryReads (kind_of s)) b (of_message way m) n is in absurd (telegram_message s way (sym reads.0))

-- a message has all
message_bits : (way : Way) (b : List Bool) (n : ℕ) (e : EntryValue) → IsOutcome (EntryReads (message_kind way)) b (done e n) → n ≡ entry_bits e
message_bits way b n (of_telegram t) is = let (r, reads, long) = long_front (EntryReads (message_kind way)) b (of_telegram t) n is in absurd (telegram_message t.size way reads.0)
message_bits way b n (of_message w m) is = let (r, reads, long) = long_front (EntryReads (message_kind way)) b (of_message w m) n is in sym long ∙ (whole_message w m r reads.1).2

pub either_bits : (kind : Kind) (b : List Bool) (n : ℕ) (e : EntryValue) → (kind ≡ Radio) ⊎ (kind ≡ Train) → IsOutcome (EntryReads kind) b (done e n) → n ≡ entry_bits e
either_bits kind b n e (inl k) is = message_bits ToTrain b n e (rw k at is)
either_bits kind b n e (inr k) is = message_bits ToTrack b n e (rw k at is)
