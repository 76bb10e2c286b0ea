-- JSON that was stored when fewer packets were typed: a packet to the train that is typed by now may be kept as bits there.
-- It stands for the item that has the same bits. To the track nothing was stored like that.
use Rattle.std.specs.Prelude.{◌≡◌, ℕ, ◌+◌, ◌*◌, Bool, false, List, ◌∷◌, ◌++◌, length, map, replicate}
use Rattle.serde_json.specs.Data.{Data}
use Rattle.etcs_vars.specs.declared.var.Var.{Var}
use Rattle.etcs_vars.specs.declared.var.Var.TheVariants.{FILL, PAD, PADDING, NID_MESSAGE, L_MESSAGE, OTHER_DATA}
use Rattle.etcs_vars.specs.Reading.{Reading, spelled, kept, IsOutcome, refused}
use Rattle.etcs_tables.specs.declared.row.Way.{Way}
use Rattle.etcs_tables.specs.declared.row.Way.TheVariants.{ToTrain}
use Rattle.etcs_packets.specs.PacketReadings.{readings_to}
use Rattle.etcs_telegram.specs.Telegrams.{TelegramValue, header_reading, closed_reading, pad_bits}
use Rattle.etcs_messages.specs.Messages.{MessageValue, typed_message, kept_message, front_of, head_reading}
use Rattle.etcs_text.specs.declared.entry.Kind.{Kind}
use Rattle.etcs_text.specs.Entries.{EntryValue, of_telegram, of_message, EntryReads}
use Rattle.etcs_json_trees.specs.Loose.{unnamed}
use Rattle.etcs_json.specs.TreeReading.{IsTreeOf}

-- ---- Its packets with stand-ins.

-- the telegram with a stand-in for the number of each packet that is kept as bits
abbrev pub unnamed_telegram : TelegramValue → TelegramValue
unnamed_telegram t = record { size = t.size; header = t.header; packets = map (unnamed ToTrain) t.packets; fill = t.fill }

-- the same of a message of this way
abbrev pub unnamed_message : Way → MessageValue → MessageValue
unnamed_message way (typed_message nid head body vs padding) = typed_message nid head body (map (unnamed way) vs) padding
unnamed_message way (kept_message nid b) = kept_message nid b

-- the same of an item
abbrev pub unnamed_entry : EntryValue → EntryValue
unnamed_entry (of_telegram t) = of_telegram (unnamed_telegram t)
unnamed_entry (of_message way m) = of_message way (unnamed_message way m)

-- o is an item of the kind, except that a packet that is kept as bits may have one of the seven numbers
abbrev pub IsLoose : Kind → EntryValue → Type 0
IsLoose kind o = (r : Reading) × EntryReads kind (unnamed_entry o) r

-- ---- Its bits.

-- b are the bits of the item o, in which a packet that is kept as bits may have one of the seven numbers
abbrev pub LooseSpells : EntryValue → List Bool → Type 0
LooseSpells (of_telegram t) b = b ≡ spelled (header_reading t.header ++ closed_reading t.packets ++ kept FILL t.fill ++ kept PAD (replicate (pad_bits t.size) false))
LooseSpells (of_message way (typed_message nid head body vs padding)) b = (len : ℕ) × (front_of way body + length (spelled (readings_to way vs)) + length padding ≡ 8 * len) × (b ≡ spelled (head_reading nid len head ++ body ++ readings_to way vs ++ kept PADDING padding))
LooseSpells (of_message way (kept_message nid c)) b = (len : ℕ) × (18 + length c ≡ 8 * len) × (b ≡ spelled ((NID_MESSAGE, nid) ∷ (L_MESSAGE, len) ∷ kept OTHER_DATA c))

-- ---- What a tree stands for.

-- d is a tree of o, an item of the kind in which a packet that is kept as bits may have one of the seven numbers, and b are
-- the bits of o
pub record IsStored (kind : Kind) (d : Data) (o : EntryValue) (b : List Bool) : Type 0 where
  pub loose : IsLoose kind o
  pub tree : IsTreeOf o d
  pub bits : LooseSpells o b

-- d is such a tree, and e is the item of the kind that has its bits
abbrev pub TreeSays : Kind → Data → EntryValue → Type 0
TreeSays kind d e = (o : EntryValue) × (r : Reading) × IsStored kind d o (spelled r) × EntryReads kind e r

-- d is such a tree, and no item of the kind has its bits: i is the first bit with which none continues, and x holds it
abbrev pub TreeRefused : Kind → Data → ℕ → Var → Type 0
TreeRefused kind d i x = (o : EntryValue) × (b : List Bool) × IsStored kind d o b × IsOutcome (EntryReads kind) b (refused i x)

-- each spelling of an item of the kind that begins with these bits, or with which they begin, is as long as they are
abbrev pub HasLength : Kind → List Bool → Type 0
HasLength kind b = (e : EntryValue) (r : Reading) (c d : List Bool) → EntryReads kind e r → spelled r ++ c ≡ b ++ d → length (spelled r) ≡ length b
