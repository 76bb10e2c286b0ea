-- An item's own tree says the item.
use Rattle.std.proofs.Common.{◌≡◌, List, refl, sym, ap, subst}
use Rattle.std.specs.Prelude.{All}
use Rattle.etcs_vars.specs.Reading.{Reading, spelled}
use Rattle.etcs_tables.specs.declared.row.Way.{Way}
use Rattle.etcs_tables.specs.declared.row.Way.TheVariants.{ToTrain}
use Rattle.etcs_packets.specs.PacketValues.{PacketValue, IsPacketTo}
use Rattle.etcs_telegram.specs.Telegrams.{TelegramValue}
use Rattle.etcs_messages.specs.Messages.{MessageValue, typed_message, kept_message, MessageReads}
use Rattle.etcs_messages.proofs.Faults.{carried_packets}
use Rattle.etcs_text.specs.declared.entry.Kind.{Kind}
use Rattle.etcs_text.specs.Entries.{EntryValue, of_telegram, of_message, EntryReads, Spells}
use Rattle.etcs_text.specs.Trees.{json_tree}
use Rattle.etcs_json_trees.proofs.OwnPackets.{unnamed_all}
use Rattle.etcs_json.specs.Loose.{IsStored, LooseSpells, TreeSays, unnamed_entry, unnamed_message, unnamed_telegram}
use Rattle.etcs_json.proofs.OneItems.{tree_of}

-- ---- No packet of the profile has a stand-in.

telegram_own : (t : TelegramValue) → All (IsPacketTo ToTrain) t.packets → unnamed_telegram t ≡ t
telegram_own t h =
    let packets = unnamed_all ToTrain t.packets h in
    λ i. record { size = t.size; header = t.header; packets = packets i; fill = t.fill }

message_own : (way : Way) (m : MessageValue) (r : Reading) → MessageReads way m r → unnamed_message way m ≡ m
message_own way (typed_message nid head body vs padding) r h =
    ap (λ (ws : List PacketValue). typed_message nid head body ws padding) (unnamed_all way vs (carried_packets way vs h.run.carried))
message_own way (kept_message nid b) r h = refl

pub entry_own : (e : EntryValue) (r : Reading) → Spells e r → unnamed_entry e ≡ e
entry_own (of_telegram t) r h = ap of_telegram (telegram_own t h.packets_hold)
entry_own (of_message way m) r h = ap (λ (n : MessageValue). of_message way n) (message_own way m r h)

-- ---- Its tree.

message_bits : (way : Way) (m : MessageValue) (r : Reading) → MessageReads way m r → LooseSpells (of_message way m) (spelled r)
message_bits way (typed_message nid head body vs padding) r h = (h.len, h.bytes, ap spelled h.reading_is)
message_bits way (kept_message nid b) r h = (h.len, h.bytes, ap spelled h.reading_is)

-- an item spells its bits
pub own_bits : (e : EntryValue) (r : Reading) → Spells e r → LooseSpells e (spelled r)
own_bits (of_telegram t) r h = ap spelled h.reading_is
own_bits (of_message way m) r h = message_bits way m r h

pub own_stored : (kind : Kind) (e : EntryValue) (r : Reading) → EntryReads kind e r → IsStored kind (json_tree e) e (spelled r)
own_stored kind e r h = record {
  loose = (r, subst (λ (x : EntryValue). EntryReads kind x r) (sym (entry_own e r h.1)) h);
  tree = tree_of e;
  bits = own_bits e r h.1;
}

pub says_itself : (kind : Kind) (e : EntryValue) (r : Reading) → EntryReads kind e r → TreeSays kind (json_tree e) e
says_itself kind e r h = (e, r, own_stored kind e r h, h)
