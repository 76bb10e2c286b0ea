-- The lines that are written of the telegrams of a balise group, and at its end.
use Rattle.std.specs.Prelude.{◌≡◌, ◌⊎◌, ℕ, ◌+◌, Bool, List, ◌++◌, Option, Result, Ok, Err, codes, map}
use Rattle.std.specs.Fmt.{decimal}
use Rattle.etcs_tables.specs.declared.row.Way.TheVariants.{ToTrain}
use Rattle.etcs_packets.specs.declared.packet.Packet.{Packet}
use Rattle.etcs_packets.specs.PacketValues.{packet_value}
use Rattle.etcs_telegram.specs.Telegrams.{TelegramContent, TelegramValue, IsTelegram, telegram_value}
use Rattle.etcs_group.specs.declared.assembly.Added.{Added}
use Rattle.etcs_group.specs.declared.assembly.Added.TheVariants.{New, Repeat}
use Rattle.etcs_group.specs.declared.clash.Clash.{Clash}
use Rattle.etcs_group.specs.declared.clash.Clash.TheVariants.{BadPosition, BadDuplicate, OtherGroup, OtherTotal, Counter, Differs}
use Rattle.etcs_group.specs.Groups.{IsGroup, Holds, HoldsNone, Joins, HeldAfter}
use Rattle.etcs_group.specs.Clashes.{IsFirstClash}
use Rattle.etcs_group.specs.Messages.{IsWhole, IsGroupMessage}
use Rattle.etcs_group.specs.GroupLines.{AreMissing, positions_text, trues}
use Rattle.etcs_packet_text.specs.Packets.{packets_text}
use Rattle.etcs_stream.specs.Reported.{Reported}

-- the name of a clash
abbrev pub clash_name : Clash → List ℕ
clash_name BadPosition = codes "BadPosition"
clash_name BadDuplicate = codes "BadDuplicate"
clash_name OtherGroup = codes "OtherGroup"
clash_name OtherTotal = codes "OtherTotal"
clash_name Counter = codes "Counter"
clash_name Differs = codes "Differs"

-- `new`, `repeat`, or `clash` with the clash's name
abbrev pub answer_words : Result Added Clash → List ℕ
answer_words (Ok New) = codes "new"
answer_words (Ok Repeat) = codes "repeat"
answer_words (Err clash) = codes "clash " ++ clash_name clash

-- what a telegram is to those held: `New` if it fits them and isn't held, `Repeat` if it fits and is, a clash if that
-- is the first that the telegram has with them
abbrev pub Answers : List (Option TelegramContent) → TelegramContent → Result Added Clash → Type 0
Answers held t (Ok New) = Joins held t × (Holds held t → ⊥)
Answers held t (Ok Repeat) = Joins held t × Holds held t
Answers held t (Err clash) = IsFirstClash clash held t

-- how many clashes there were, one more if this is a clash
abbrev pub clashes_with : ℕ → Result Added Clash → ℕ
clashes_with n (Ok added) = n
clashes_with n (Err clash) = n + 1

-- `item`, the number, and `new`, `repeat`, or `clash` with the clash's name
abbrev pub answer_line : ℕ → Result Added Clash → List ℕ
answer_line item answer = codes "item " ++ decimal item ++ codes " " ++ answer_words answer ++ codes "\n"

-- of a telegram in a group: its line by `Answers`, one item more, one clash more if it clashes, and what is held is
-- that before, and the telegram too if it fits
pub record GroupItem (v : TelegramValue) (s : Reported) (text : List ℕ) (s' : Reported) : Type 0 where
  pub telegram : TelegramContent
  pub made : IsTelegram telegram
  pub value_is : v ≡ telegram_value telegram
  pub answer : Result Added Clash
  pub answers : Answers s.held telegram answer
  pub text_is : text ≡ answer_line (s.count + 1) answer
  pub count_is : s'.count ≡ s.count + 1
  pub clashes_are : s'.clashes ≡ clashes_with s.clashes answer
  pub held_is : HeldAfter s.held telegram s'.held
  pub placed : IsGroup s'.held

-- `group` with NID_C and NID_BG
abbrev pub group_front : ℕ → ℕ → List ℕ
group_front country group = codes "group " ++ decimal country ++ codes " " ++ decimal group

-- a group that is whole: front, `complete` and the text of the packets of its message; else front, `missing` and
-- exactly the positions that are missing
abbrev pub GroupLines : List (Option TelegramContent) → List ℕ → List ℕ → Type 0
GroupLines held front text =
    (IsWhole held × ((ps : List Packet) × IsGroupMessage held ps × (text ≡ front ++ codes " complete\n" ++ packets_text ToTrain (map packet_value ps))))
    ⊎ ((IsWhole held → ⊥) × ((bs : List Bool) × AreMissing held bs × (text ≡ front ++ codes " missing" ++ positions_text (trues 8 bs) ++ codes "\n")))

-- `group empty` if nothing is held; else the lines of the group after NID_C and NID_BG of a telegram that is held
abbrev pub LastLines : List (Option TelegramContent) → List ℕ → Type 0
LastLines held text =
    (HoldsNone held × (text ≡ codes "group empty\n"))
    ⊎ ((t : TelegramContent) × Holds held t × GroupLines held (group_front t.header.nid_c t.header.nid_bg) text)
