-- What a feed of the reader of a kind returns.
use Rattle.std.proofs.Common.{◌≡◌, ℕ, Bool, List, Result, Ok, Err, ap, sym, refl, ◌∙◌}
use Rattle.etcs_vars.specs.declared.var.Var.{Var}
use Rattle.etcs_vars.specs.declared.feed.Fed.{Fed}
use Rattle.etcs_vars.specs.declared.feed.Fed.TheVariants.{More, Done}
use Rattle.etcs_vars.specs.declared.feed.ReadFault.{ReadFault}
use Rattle.etcs_vars.specs.declared.feed.ReadFault.TheVariants.{Refused, Ended, Memory}
use Rattle.etcs_vars.specs.Reading.{Reading, NoneYet, readings_of, IsOutcome, refused, more}
use Rattle.etcs_vars.proofs.Languages.{Same, same_back}
use Rattle.etcs_telegram.specs.declared.size.Size.{Size}
use Rattle.etcs_telegram.specs.declared.size.Size.TheVariants.{Short, Long}
use Rattle.etcs_telegram.specs.Telegrams.{TelegramContent, ReadsAs, IsTelegram, telegram_value}
use Rattle.etcs_rows.proofs.SameReadings.{viable_along, owner_along}
use Rattle.etcs_sequence.specs.Progress as inner
use Rattle.etcs_tables.specs.declared.row.Way.{Way}
use Rattle.etcs_tables.specs.declared.row.Way.TheVariants.{ToTrain, ToTrack}
use Rattle.etcs_messages.specs.Messages.{MessageReads, MessageValue}
use Rattle.etcs_text.specs.declared.entry.Kind.{Kind}
use Rattle.etcs_text.specs.Entries.{EntryValue, of_telegram, of_message, kind_of, message_kind, EntryReads}
use Rattle.etcs_text.proofs.ItemKinds.{Language, same_telegrams, same_messages}
use Rattle.etcs_text.specs.Readers.{progress_of, telegram_item, reading, IsReading, fault_of, Feeds}

module _ {V : Type 0} (Reads : V → Reading → Type 0) (kind : Kind) (same : Same (readings_of Reads) (Language kind)) where
  none_along : (b : List Bool) → NoneYet (readings_of Reads) b → NoneYet (Language kind) b
  none_along b h k le (r, l, e) = h k le (r, (same r).1 l, e)

  more_along : (b : List Bool) → IsOutcome Reads b more → IsOutcome (EntryReads kind) b more
  more_along b o = (none_along b o.0, viable_along (readings_of Reads) (Language kind) same b o.1)

  refused_along : (b : List Bool) (i : ℕ) (x : Var) → IsOutcome Reads b (refused i x) → IsOutcome (EntryReads kind) b (refused i x)
  refused_along b i x o =
      let back = same_back (readings_of Reads) (Language kind) same in (
        (none_along b o.0.0, o.0.1, λ v. o.0.2 (viable_along (Language kind) (readings_of Reads) back _ v)),
        owner_along (readings_of Reads) (Language kind) same _ x o.1,
      )

-- by what a feed of the reader inside returns, whose values are items of the kind
module _ {V W : Type 0} (Reads : W → Reading → Type 0) (value : V → W) (IsValue : V → Type 0) (least : ℕ) (item : W → EntryValue) (kind : Kind) (same : Same (readings_of Reads) (Language kind)) (reads : (w : W) (r : Reading) → Reads w r → EntryReads kind (item w) r) where
  abbrev as_item : V → EntryValue
  as_item v = item (value v)

  inner_feeds : (seen new : List Bool) (answer : Result Fed ReadFault) (at : inner.Progress V) → inner.Feeds Reads value IsValue least seen new answer at → inner.Feeds (EntryReads kind) (λ (e : EntryValue). e) (λ e. Unit {0}) least seen new answer (progress_of as_item at)
  inner_feeds seen new (Ok More) at f = (ap (progress_of as_item) f.0, more_along Reads kind same _ f.1)
  inner_feeds seen new (Ok (Done k)) at f = (as_item f.0, ap (progress_of as_item) f.1, tt, f.3, (f.4.0, f.4.1, reads (value f.0) f.4.1 f.4.2, f.4.3))
  inner_feeds seen new (Err (Refused i x)) at f = (ap (progress_of as_item) f.0, refused_along Reads kind same _ i x f.1)
  inner_feeds seen new (Err Memory) at (n, at_is, from, below, viable, front, x, owner, asks, beyond) =
      (n, ap (progress_of as_item) at_is, from, below, viable_along (readings_of Reads) (Language kind) same _ viable, front, x, owner_along (readings_of Reads) (Language kind) same _ x owner, asks, beyond)
  inner_feeds seen new (Err Ended) at f = absurd f

pub telegram_feeds : (s : Size) (seen new : List Bool) (answer : Result Fed ReadFault) (at : inner.Progress TelegramContent) → inner.Feeds (ReadsAs s) telegram_value IsTelegram 50 seen new answer at → Feeds (kind_of s) seen new answer (progress_of telegram_item at)
telegram_feeds Short = inner_feeds (ReadsAs Short) telegram_value IsTelegram 50 of_telegram (kind_of Short) (same_telegrams Short) (λ t r h. (ap kind_of h.0, h.1))
telegram_feeds Long = inner_feeds (ReadsAs Long) telegram_value IsTelegram 50 of_telegram (kind_of Long) (same_telegrams Long) (λ t r h. (ap kind_of h.0, h.1))

pub message_feeds : {V : Type 0} (way : Way) (value : V → MessageValue) (IsMessage : V → Type 0) (seen new : List Bool) (answer : Result Fed ReadFault) (at : inner.Progress V) → inner.Feeds (MessageReads way) value IsMessage 18 seen new answer at → Feeds (message_kind way) seen new answer (progress_of (λ (v : V). of_message way (value v)) at)
message_feeds ToTrain value IsMessage = inner_feeds (MessageReads ToTrain) value IsMessage 18 (of_message ToTrain) (message_kind ToTrain) (same_messages ToTrain) (λ m r h. (refl, h))
message_feeds ToTrack value IsMessage = inner_feeds (MessageReads ToTrack) value IsMessage 18 (of_message ToTrack) (message_kind ToTrack) (same_messages ToTrack) (λ m r h. (refl, h))

-- ---- The progress of the reader inside.

pub inner_reading : {V : Type 0} (item : V → EntryValue) (s : inner.Progress V) (seen : List Bool) → progress_of item s ≡ reading seen → s ≡ inner.reading seen
inner_reading item (inner.reading b) seen h = let e : b ≡ seen = cc in ap inner.reading e
inner_reading item (inner.finished v) seen h = absurd cc
inner_reading item (inner.stopped i x) seen h = absurd cc
inner_reading item (inner.starved n) seen h = absurd cc

-- ---- After the end.

module _ {V : Type 0} (item : V → EntryValue) where
  ended : (at : inner.Progress V) → (IsReading (progress_of item at) → ⊥) → IsReading at → ⊥
  ended (inner.reading b) h r = h tt
  ended (inner.finished v) h r = r
  ended (inner.stopped i x) h r = r
  ended (inner.starved n) h r = r

  same_fault : (at : inner.Progress V) → fault_of (progress_of item at) ≡ fault_of at
  same_fault (inner.reading b) = refl
  same_fault (inner.finished v) = refl
  same_fault (inner.stopped i x) = refl
  same_fault (inner.starved n) = refl

  pub inner_after : (at : inner.Progress V) (answer : Result Fed ReadFault) {Same : Type 0} → ((IsReading at → ⊥) → Same × (answer ≡ Err (fault_of at))) → (IsReading (progress_of item at) → ⊥) → Same × (answer ≡ Err (fault_of (progress_of item at)))
  inner_after at answer after h =
      let (same, is) = after (ended at h) in
      (same, is ∙ ap Err (sym (same_fault at)))
