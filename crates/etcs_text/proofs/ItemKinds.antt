-- The items of a kind: their languages.
use Rattle.std.proofs.Common.{◌≡◌, ◌+◌, ◌<◌, length, ap, refl, subst, sym, arith}
use Rattle.etcs_vars.specs.Reading.{Reading, spelled, readings_of}
use Rattle.etcs_vars.proofs.Languages.{Same}
use Rattle.etcs_vars.proofs.Walk.{Regular}
use Rattle.etcs_telegram.specs.declared.size.Size.{Size}
use Rattle.etcs_telegram.specs.declared.size.Size.TheVariants as size
use Rattle.etcs_telegram.specs.Telegrams.{TelegramLanguage, user_bits, pad_bits}
use Rattle.etcs_telegram.proofs.Spellings as telegrams
use Rattle.etcs_telegram.proofs.Examples.{some_telegram}
use Rattle.etcs_tables.specs.declared.row.Way.{Way}
use Rattle.etcs_tables.specs.declared.row.Way.TheVariants.{ToTrain, ToTrack}
use Rattle.etcs_messages.specs.Messages.{MessageLanguage, MessageReads}
use Rattle.etcs_messages.proofs.Bytes.{some_bits, some_message}
use Rattle.etcs_messages.proofs.Spelling as messages
use Rattle.etcs_text.specs.declared.entry.Kind.{Kind}
use Rattle.etcs_text.specs.declared.entry.Kind.TheVariants.{Long, Short, Radio, Train}
use Rattle.etcs_text.specs.Entries.{of_telegram, of_message, kind_of, message_kind, EntryReads}

abbrev pub Language : Kind → Reading → Type 0
Language kind = readings_of (EntryReads kind)

-- ---- Different sizes and ways are of different kinds.

pub kind_same : (s z : Size) → kind_of s ≡ kind_of z → s ≡ z
kind_same size.Long size.Long e = refl
kind_same size.Short size.Short e = refl
kind_same size.Long size.Short e = absurd cc
kind_same size.Short size.Long e = absurd cc

pub way_same : (v w : Way) → message_kind v ≡ message_kind w → v ≡ w
way_same ToTrain ToTrain e = refl
way_same ToTrack ToTrack e = refl
way_same ToTrain ToTrack e = absurd cc
way_same ToTrack ToTrain e = absurd cc

pub telegram_message : (s : Size) (way : Way) → kind_of s ≡ message_kind way → ⊥
telegram_message size.Long ToTrain e = absurd cc
telegram_message size.Long ToTrack e = absurd cc
telegram_message size.Short ToTrain e = absurd cc
telegram_message size.Short ToTrack e = absurd cc

-- ---- The kinds of telegrams and of messages.

from_sized : (s : Size) (r : Reading) → Language (kind_of s) r → TelegramLanguage s r
from_sized s r (of_telegram t, h) = (t, (kind_same t.size s h.0, h.1))
from_sized s r (of_message way m, h) = absurd (telegram_message s way (sym h.0))

from_way : (way : Way) (r : Reading) → Language (message_kind way) r → MessageLanguage way r
from_way way r (of_telegram t, h) = absurd (telegram_message t.size way h.0)
from_way way r (of_message w m, h) = (m, subst (λ (z : Way). MessageReads z m r) (way_same w way h.0) h.1)

-- the readings of items of a kind are those of the telegrams of its size, or those of the messages of its way
pub same_telegrams : (s : Size) → Same (TelegramLanguage s) (Language (kind_of s))
same_telegrams s r = (λ (t, h). (of_telegram t, (ap kind_of h.0, h.1)), from_sized s r)

pub same_messages : (way : Way) → Same (MessageLanguage way) (Language (message_kind way))
same_messages way r = (λ (m, h). (of_message way m, (refl, h)), from_way way r)

-- ---- What holds of each kind.

regular_along : (P Q : Reading → Type 0) → Same P Q → Regular P → Regular Q
regular_along P Q same regular = record {
  agree = λ a b l m. regular.agree a b ((same a).1 l) ((same b).1 m);
  fit = λ a l. regular.fit a ((same a).1 l);
}

sized_regular : (s : Size) → Regular (Language (kind_of s))
sized_regular s = regular_along (TelegramLanguage s) (Language (kind_of s)) (same_telegrams s) (telegrams.regular s)

way_regular : (way : Way) → Regular (Language (message_kind way))
way_regular way = regular_along (MessageLanguage way) (Language (message_kind way)) (same_messages way) (messages.regular way)

pub kind_regular : (kind : Kind) → Regular (Language kind)
kind_regular Long = sized_regular size.Long
kind_regular Short = sized_regular size.Short
kind_regular Radio = way_regular ToTrain
kind_regular Train = way_regular ToTrack

sized_bits : (s : Size) → 0 < user_bits s + pad_bits s
sized_bits size.Short = omega arith
sized_bits size.Long = omega arith

telegram_bits : (s : Size) (r : Reading) → Language (kind_of s) r → 0 < length (spelled r)
telegram_bits s r l = omega (arith, telegrams.whole_length s r ((same_telegrams s r).1 l), sized_bits s)

way_bits : (way : Way) (r : Reading) → Language (message_kind way) r → 0 < length (spelled r)
way_bits way r l = some_bits way r ((same_messages way r).1 l)

-- each item has a bit
pub item_bits : (kind : Kind) (r : Reading) → Language kind r → 0 < length (spelled r)
item_bits Long r l = telegram_bits size.Long r l
item_bits Short r l = telegram_bits size.Short r l
item_bits Radio r l = way_bits ToTrain r l
item_bits Train r l = way_bits ToTrack r l

sized_item : (s : Size) → (r : Reading) × Language (kind_of s) r
sized_item s = let (r, l) = some_telegram s in (r, (same_telegrams s r).0 l)

way_item : (way : Way) → (r : Reading) × Language (message_kind way) r
way_item way = let (r, l) = some_message way in (r, (same_messages way r).0 l)

-- and there is one
pub some_item : (kind : Kind) → (r : Reading) × Language kind r
some_item Long = sized_item size.Long
some_item Short = sized_item size.Short
some_item Radio = way_item ToTrain
some_item Train = way_item ToTrack
