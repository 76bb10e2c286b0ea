use Rattle.std.proofs.Common.{◌≡◌, List, Bool, Result, Err, ap, sym, ◌∙◌}
use Rattle.etcs_bits.specs.Bits.{bits}
use Rattle.etcs_vars.specs.declared.feed.Fed.{Fed}
use Rattle.etcs_vars.specs.declared.feed.ReadFault.{ReadFault}
use Rattle.etcs_tables.specs.declared.row.Way.TheVariants.{ToTrain, ToTrack}
use Rattle.etcs_radio.specs.Messages as radio
use Rattle.etcs_train.specs.Messages as train
use Rattle.etcs_telegram.specs.Readers as telegram
use Rattle.etcs_text.specs.declared.entries.EntryReader.TheInside.{Inside}
use Rattle.etcs_text.specs.declared.entries.Inner.{Inner}
use Rattle.etcs_text.specs.declared.entries.Inner.TheVariants.{Telegram, Message, Train}
use Rattle.etcs_text.specs.Readers.{ReaderValue, Feeds, IsReading, fault_of, telegram_item, message_item, train_item, value_of}
use Rattle.etcs_text.proofs.ItemFeeds.{telegram_feeds, message_feeds, inner_after, inner_reading}
use Rattle.etcs_text.proofs.entries.EntryReader.feed.Goals.{in-Telegram, in-Message, in-Train}
use Rattle.etcs_text.proofs.entries.EntryReader.feed.Goals as goal

-- what holds for the reader inside holds for the whole one
of_inside : (inner inner' : Inner) (v u : ReaderValue) (seen new : List Bool) (answer wanted : Result Fed ReadFault) → value_of inner ≡ v → value_of inner' ≡ u → wanted ≡ answer → Feeds (value_of inner).kind seen new answer (value_of inner').progress → Feeds v.kind seen new wanted u.progress
of_inside inner inner' v u seen new answer wanted is is' same f = rw (sym is, sym is', same) f

pub returns-clause-answer : goal.returns-clause-answer
returns-clause-answer c seen h =
    let b = bits c.args.piece.now in
    elim c.match-self.branch [
      | in-Telegram w ↦
          let r = w.in-Telegram.reader in
          let before : value_of (Telegram r) ≡ c.args.self.now = ap value_of (sym w.in-Telegram.is) ∙ c.self.view_is in
          let at = inner_reading telegram_item r.progress seen (ap (λ (v : ReaderValue). v.progress) before ∙ h) in
          of_inside (Telegram r) (Telegram w.feed.new.self) c.args.self.now (value_of c.match-self.self-inside.inner) seen b w.feed.result c.match-self.result before (sym (ap (λ (i : Inside). value_of i.inner) w.self-inside-is)) w.result-is
          (telegram_feeds r.size seen b w.feed.result w.feed.new.self.progress (w.feed.ensures.answer seen at))
      | in-Message w ↦
          let r = w.in-Message.reader in
          let before : value_of (Message r) ≡ c.args.self.now = ap value_of (sym w.in-Message.is) ∙ c.self.view_is in
          let at = inner_reading message_item r seen (ap (λ (v : ReaderValue). v.progress) before ∙ h) in
          of_inside (Message r) (Message w.feed-in-Message.new.self) c.args.self.now (value_of c.match-self.self-inside.inner) seen b w.feed-in-Message.result c.match-self.result before (sym (ap (λ (i : Inside). value_of i.inner) w.self-inside-is)) w.result-is
          (message_feeds ToTrain radio.message_value radio.IsMessage seen b w.feed-in-Message.result w.feed-in-Message.new.self (w.feed-in-Message.ensures.answer seen at))
      | in-Train w ↦
          let r = w.in-Train.reader in
          let before : value_of (Train r) ≡ c.args.self.now = ap value_of (sym w.in-Train.is) ∙ c.self.view_is in
          let at = inner_reading train_item r seen (ap (λ (v : ReaderValue). v.progress) before ∙ h) in
          of_inside (Train r) (Train w.feed-in-Train.new.self) c.args.self.now (value_of c.match-self.self-inside.inner) seen b w.feed-in-Train.result c.match-self.result before (sym (ap (λ (i : Inside). value_of i.inner) w.self-inside-is)) w.result-is
          (message_feeds ToTrack train.message_value train.IsMessage seen b w.feed-in-Train.result w.feed-in-Train.new.self (w.feed-in-Train.ensures.answer seen at))
    ]

-- ---- After the end.

after_inside : (inner inner' : Inner) (v u : ReaderValue) (answer wanted : Result Fed ReadFault) → value_of inner ≡ v → value_of inner' ≡ u → wanted ≡ answer → ((IsReading (value_of inner).progress → ⊥) → (value_of inner' ≡ value_of inner) × (answer ≡ Err (fault_of (value_of inner).progress))) → (IsReading v.progress → ⊥) → (u ≡ v) × (wanted ≡ Err (fault_of v.progress))
after_inside inner inner' v u answer wanted is is' same f = rw (sym is, sym is', same) f

pub returns-clause-after : goal.returns-clause-after
returns-clause-after c =
    elim c.match-self.branch [
      | in-Telegram w ↦
          let r = w.in-Telegram.reader in
          after_inside (Telegram r) (Telegram w.feed.new.self) c.args.self.now (value_of c.match-self.self-inside.inner) w.feed.result c.match-self.result (ap value_of (sym w.in-Telegram.is) ∙ c.self.view_is) (sym (ap (λ (i : Inside). value_of i.inner) w.self-inside-is)) w.result-is
          (inner_after telegram_item r.progress w.feed.result (λ h. let (same, is) = w.feed.ensures.after h in (ap (λ (z : telegram.ReaderValue). value_of (Telegram z)) same, is)))
      | in-Message w ↦
          let r = w.in-Message.reader in
          after_inside (Message r) (Message w.feed-in-Message.new.self) c.args.self.now (value_of c.match-self.self-inside.inner) w.feed-in-Message.result c.match-self.result (ap value_of (sym w.in-Message.is) ∙ c.self.view_is) (sym (ap (λ (i : Inside). value_of i.inner) w.self-inside-is)) w.result-is
          (inner_after message_item r w.feed-in-Message.result (λ h. let (same, is) = w.feed-in-Message.ensures.after h in (ap (λ z. value_of (Message z)) same, is)))
      | in-Train w ↦
          let r = w.in-Train.reader in
          after_inside (Train r) (Train w.feed-in-Train.new.self) c.args.self.now (value_of c.match-self.self-inside.inner) w.feed-in-Train.result c.match-self.result (ap value_of (sym w.in-Train.is) ∙ c.self.view_is) (sym (ap (λ (i : Inside). value_of i.inner) w.self-inside-is)) w.result-is
          (inner_after train_item r w.feed-in-Train.result (λ h. let (same, is) = w.feed-in-Train.ensures.after h in (ap (λ z. value_of (Train z)) same, is)))
    ]
