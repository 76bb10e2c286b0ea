-- Items that have the same pairs, and the pairs of an item's encoding.
use Rattle.std.proofs.Common.{◌≡◌, ℕ, Bool, List, [], ◌++◌, Result, Ok, Err, refl, sym, ap, ◌∙◌}
use Rattle.std.specs.Prelude.{IfOk}
use Rattle.std.specs.Bool.{Decides}
use Rattle.std.proofs.lemmas.Bool.Decides.{Decides-like}
use Rattle.std.proofs.lemmas.List.{append-nil}
use Rattle.etcs_bits.specs.Bits.{bits}
use Rattle.etcs_vars.specs.Reading.{Reading, spelled, IsOutcome}
use Rattle.etcs_bodies.specs.Equality.{IsExact}
use Rattle.etcs_bodies.specs.laws.Equality.{number_exact, flag_exact, list_exact, both_exact, fields_exact}
use Rattle.etcs_packets.specs.contracts.packet.Packet as packet
use Rattle.etcs_packets.specs.PacketValues.{form}
use Rattle.etcs_packets.specs.laws.OnePacket as to_train
use Rattle.etcs_packets.proofs.Equality.{packet_exact}
use Rattle.etcs_track.specs.contracts.train_packet.TrainPacket as train_packet
use Rattle.etcs_track.specs.TrackPackets.{track_form}
use Rattle.etcs_track.specs.laws.Equality.{train_packet_exact}
use Rattle.etcs_track.specs.laws.OneTrackPacket as to_track
use Rattle.etcs_tables.specs.declared.row.Way.TheVariants.{ToTrain, ToTrack}
use Rattle.etcs_telegram.specs.Telegrams.{IsTelegram, TelegramContent, telegram_value}
use Rattle.etcs_telegram.specs.Writing.{telegram_reading}
use Rattle.etcs_telegram.proofs.Encoding.{telegram_reads}
use Rattle.etcs_telegram.proofs.Equality.{telegram_exact}
use Rattle.etcs_telegram.proofs.Spellings.{one_spelling}
use Rattle.etcs_messages.specs.contracts.message.Content as content
use Rattle.etcs_messages.specs.Readings.{bytes_of}
use Rattle.etcs_messages.proofs.Equality.{enum_exact, one, two, four}
use Rattle.etcs_messages.proofs.OneReading.{message_reads}
use Rattle.etcs_messages.proofs.RoundTrips.{one_reading}
use Rattle.etcs_messages.proofs.Spelling.{one_spelled}
use Rattle.etcs_radio.specs.contracts.body.Body as body_type
use Rattle.etcs_radio.specs.contracts.body.RadioHead as head_type
use Rattle.etcs_radio.specs.Bodies.{radio_head, radio_body}
use Rattle.etcs_radio.specs.Messages as radio
use Rattle.etcs_radio.specs.laws.Bodies as radio_bodies
use Rattle.etcs_radio.specs.laws.Heads as radio_heads
use Rattle.etcs_radio.proofs.Equality as radio_equality
use Rattle.etcs_train.specs.contracts.body.TrainBody as train_body_type
use Rattle.etcs_train.specs.contracts.body.TrainHead as train_head_type
use Rattle.etcs_train.specs.Bodies.{train_head, train_body}
use Rattle.etcs_train.specs.Messages as train
use Rattle.etcs_train.specs.laws.Bodies as train_bodies
use Rattle.etcs_train.specs.laws.Heads as train_heads
use Rattle.etcs_train.proofs.Equality as train_equality
use Rattle.etcs_text.specs.contracts.entry.Entry as entry
use Rattle.etcs_text.specs.contracts.entry.EntryPartialEq.TheImpl as entry_eq
use Rattle.etcs_text.specs.declared.entry.Entry.{Entry}
use Rattle.etcs_text.specs.declared.entry.Entry.TheVariants.{Telegram, Message, Train}
use Rattle.etcs_text.specs.declared.account.Account.{Account}
use Rattle.etcs_text.specs.declared.account.End.{End}
use Rattle.etcs_text.specs.declared.account.End.TheVariants as end
use Rattle.etcs_text.specs.declared.entry.Kind.{Kind}
use Rattle.etcs_text.specs.Encodings.{IsEncoded}
use Rattle.etcs_text.specs.Entries.{Spells, entry_kind, entry_value}
use Rattle.etcs_text.specs.Pairs.{IsEntry, ItemLanguage, PairsRead, entry_reading, outcome_of}
use Rattle.etcs_text.proofs.AccountOutcomes.{same_items}
use Rattle.etcs_text.proofs.ItemKinds.{kind_same, telegram_message}
use Rattle.etcs_text.proofs.Written.{none_item, one_item}

-- ---- `==` of items is equality of their values.

entry_exact : IsExact entry_eq.ghosts.eq
entry_exact a b =
    enum_exact entry.enum _ (
      one telegram_exact,
      (
        one (fields_exact (λ (m : radio.Content). (m, bytes_of ToTrain radio_body form m)) (λ p. p.0) (λ m. refl)
            (both_exact (enum_exact (content.enum head_type.the_row body_type.the_row packet.the_row) _ (four radio_equality.head_exact radio_equality.body_exact (list_exact packet_exact) number_exact, (two number_exact (list_exact flag_exact), tt))) number_exact)),
        (
          one (fields_exact (λ (m : train.Content). (m, bytes_of ToTrack train_body track_form m)) (λ p. p.0) (λ m. refl)
              (both_exact (enum_exact (content.enum train_head_type.the_row train_body_type.the_row train_packet.the_row) _ (four train_equality.head_exact train_equality.body_exact (list_exact train_packet_exact) number_exact, (two number_exact (list_exact flag_exact), tt))) number_exact)),
          tt,
        ),
      ),
    ) a b

-- ---- Equal readings are of equal items.

spelled_same : (r q : Reading) → r ≡ q → spelled q ≡ spelled r ++ []
spelled_same r q e = ap spelled (sym e) ∙ sym (append-nil (spelled r))

telegrams_one : (t u : TelegramContent) → IsTelegram t → IsTelegram u → t.size ≡ u.size → telegram_reading (telegram_value t) ≡ telegram_reading (telegram_value u) → t ≡ u
telegrams_one t u it iu size same =
    (one_spelling u.size t u (telegram_reading (telegram_value t)) (telegram_reading (telegram_value u)) [] it iu (size, telegram_reads t it) (refl, telegram_reads u iu) (spelled_same (telegram_reading (telegram_value t)) (telegram_reading (telegram_value u)) same)).0

one_entry : (a b : Entry) → IsEntry a → IsEntry b → entry_kind (entry_value a) ≡ entry_kind (entry_value b) → entry_reading a ≡ entry_reading b → a ≡ b
one_entry (Telegram t) (Telegram u) it iu kind same = ap Telegram (telegrams_one t u it iu (kind_same t.size u.size kind) same)
one_entry (Telegram t) (Message n) it iu kind same = absurd (telegram_message t.size ToTrain kind)
one_entry (Telegram t) (Train n) it iu kind same = absurd (telegram_message t.size ToTrack kind)
one_entry (Message m) (Telegram u) it iu kind same = absurd (telegram_message u.size ToTrain (sym kind))
one_entry (Message m) (Message n) it iu kind same =
    let reads = message_reads ToTrain radio_head radio_body form radio_heads.head_laws radio_bodies.body_laws in
    ap Message (one_spelled ToTrain radio_head radio_body form radio_heads.head_laws radio_bodies.body_laws to_train.one_packet m n (entry_reading (Message m)) (entry_reading (Message n)) [] it iu (reads m it) (reads n iu) (spelled_same (entry_reading (Message m)) (entry_reading (Message n)) same)).0
one_entry (Message m) (Train n) it iu kind same = absurd cc
one_entry (Train m) (Telegram u) it iu kind same = absurd (telegram_message u.size ToTrack (sym kind))
one_entry (Train m) (Message n) it iu kind same = absurd cc
one_entry (Train m) (Train n) it iu kind same =
    let reads = message_reads ToTrack train_head train_body track_form train_heads.head_laws train_bodies.body_laws in
    ap Train (one_spelled ToTrack train_head train_body track_form train_heads.head_laws train_bodies.body_laws to_track.one_packet m n (entry_reading (Train m)) (entry_reading (Train n)) [] it iu (reads m it) (reads n iu) (spelled_same (entry_reading (Train m)) (entry_reading (Train n)) same)).0

pub same_decided : (a b : Entry) (same : Bool) → same ≡ entry_eq.ghosts.eq a b → IsEntry a → IsEntry b → Decides same ((entry_kind (entry_value a) ≡ entry_kind (entry_value b)) × (entry_reading a ≡ entry_reading b))
same_decided a b same is ia ib =
    rw is (Decides-like (entry_eq.ghosts.eq a b) (λ e. (ap (λ (x : Entry). entry_kind (entry_value x)) e, ap entry_reading e)) (λ h. one_entry a b ia ib h.0 h.1) (entry_exact a b))

-- ---- The pairs of an encoding.

entry_reads : (e : Entry) → IsEntry e → Spells (entry_value e) (entry_reading e)
entry_reads (Telegram t) h = telegram_reads t h
entry_reads (Message m) h = message_reads ToTrain radio_head radio_body form radio_heads.head_laws radio_bodies.body_laws m h
entry_reads (Train m) h = message_reads ToTrack train_head train_body track_form train_heads.head_laws train_bodies.body_laws m h

entry_once : (e : Entry) (r : Reading) → IsEntry e → Spells (entry_value e) r → r ≡ entry_reading e
entry_once (Telegram t) r h x = x.reading_is
entry_once (Message m) r h x = one_reading ToTrain (radio.message_value m) r (entry_reading (Message m)) x (entry_reads (Message m) h)
entry_once (Train m) r h x = one_reading ToTrack (train.message_value m) r (entry_reading (Train m)) x (entry_reads (Train m) h)

pub entry_item : (e : Entry) → IsEntry e → ItemLanguage (entry_kind (entry_value e)) (entry_reading e)
entry_item e h = (same_items (entry_kind (entry_value e)) (entry_reading e)).1 (entry_value e, (refl, entry_reads e h))

module _ (e : Entry) (h : IsEntry e) where
  abbrev kind : Kind
  kind = entry_kind (entry_value e)

  again : (bytes : List ℕ) (p : Reading) (at : End) → bits bytes ≡ spelled (entry_reading e) → IsOutcome (PairsRead kind) (bits bytes) (outcome_of p at) → (at ≡ end.Whole) × (p ≡ entry_reading e)
  again bytes p end.Whole is o = (refl, one_item kind (entry_reading e) p (bits bytes) is o (entry_item e h))
  again bytes p (end.Open part) is o = absurd (none_item kind (entry_reading e) (bits bytes) is o.0 (entry_item e h))
  again bytes p (end.Refused bit part) is o = absurd (none_item kind (entry_reading e) (bits bytes) is o.0.0 (entry_item e h))

  -- what is read of bytes that are its encoding
  pub pairs_again : {E : Type 0} (bytes : List ℕ) (own : Kind) (answer : Result Account E) → own ≡ kind → IsEncoded (entry_value e) bytes → IfOk answer (λ a. IsOutcome (PairsRead own) (bits bytes) (outcome_of a.fields.items a.end)) → IfOk answer (λ a. (a.end ≡ end.Whole) × (a.fields.items ≡ entry_reading e))
  pairs_again bytes own (Ok a) same encoded o =
      again bytes a.fields.items a.end (encoded.bits_are ∙ ap spelled (entry_once e encoded.reading h encoded.reads)) (rw same at o)
  pairs_again bytes own (Err x) same encoded o = tt
