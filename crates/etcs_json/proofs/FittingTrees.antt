-- An item's tree is one of those that are made of a line.
use Rattle.std.proofs.Common.{ℕ, ◌≤◌, Bool, List, length, map, refl, sym, subst, arith}
use Rattle.serde_json.specs.Data.{Data}
use Rattle.etcs_vars.specs.declared.var.Var.TheVariants.{L_MESSAGE}
use Rattle.etcs_vars.specs.Reading.{Reading}
use Rattle.etcs_vars.proofs.Prefixes.{admits_parts}
use Rattle.etcs_tables.specs.declared.row.Way.{Way}
use Rattle.etcs_tables.specs.declared.row.Way.TheVariants.{ToTrain, ToTrack}
use Rattle.etcs_packets.specs.PacketValues.{PacketValue}
use Rattle.etcs_packets.specs.PacketReadings.{readings_to}
use Rattle.etcs_packets.proofs.PacketBits.{length-spelled}
use Rattle.etcs_sequence.specs.Contents.{closing}
use Rattle.etcs_rows.specs.declared.frames.Carrier.TheVariants as carrier
use Rattle.etcs_telegram.specs.declared.size.Size.{Size}
use Rattle.etcs_telegram.specs.declared.size.Size.TheVariants.{Short, Long}
use Rattle.etcs_telegram.specs.Telegrams.{TelegramValue, TelegramReads, header_reading, user_bits}
use Rattle.etcs_reader.specs.Fields.{ReadsFields}
use Rattle.etcs_tables.specs.Headers.{head_row}
use Rattle.etcs_messages.specs.Messages.{MessageValue, typed_message, kept_message, MessageReads}
use Rattle.etcs_messages.proofs.Fields.{fields_count}
use Rattle.etcs_messages.proofs.Fronts.{row_short}
use Rattle.etcs_json_trees.specs.Fits.{FitsItem}
use Rattle.etcs_text.specs.declared.entry.Kind.{Kind}
use Rattle.etcs_text.specs.Entries.{EntryValue, of_telegram, of_message}
use Rattle.etcs_json_trees.specs.Loose.{unnamed}
use Rattle.etcs_json_trees.proofs.FittingPackets.{all_bits, bits_least, packets_fit, pairs_fit}
use Rattle.etcs_json.specs.Loose.{IsLoose, unnamed_telegram, unnamed_message}
use Rattle.etcs_json.specs.TreeReading.{IsTelegramTree, IsMessageTree, IsTreeOf}

pub most_bits : (size : Size) → user_bits size ≤ 830
most_bits Short = omega arith
most_bits Long = omega arith

telegram_small : (t : TelegramValue) (r : Reading) → TelegramReads (unnamed_telegram t) r → all_bits ToTrain t.packets ≤ 8184
unfolding all_bits
telegram_small t r reads =
    let packets = readings_to ToTrain (map (unnamed ToTrain) t.packets) in
    omega (arith, length-spelled packets (closing carrier.Telegram), reads.user_bits_is, most_bits t.size)

telegram_fits : (t : TelegramValue) (r : Reading) (d : Data) → TelegramReads (unnamed_telegram t) r → IsTelegramTree t d → FitsItem d
telegram_fits t r d reads (hs, ps, is, head, packets) =
    let small = telegram_small t r reads in
    let header = pairs_fit (header_reading t.header) hs head in
    let list = packets_fit ToTrain t.packets ps small packets in
    subst FitsItem (sym is) (
      (refl, ((refl, omega arith), ((header.0, omega (arith, header.1)), ((refl, omega arith), ((list.0, omega (arith, list.1, small)), tt))))),
      omega (arith, header.1, list.1, small),
    )

head_few : (way : Way) (r : Reading) → ReadsFields (head_row way) r → length r ≤ 8
head_few ToTrain r h = omega (arith, fields_count (head_row ToTrain) r h)
head_few ToTrack r h = omega (arith, fields_count (head_row ToTrack) r h)

message_small : (way : Way) (nid : ℕ) (head body : Reading) (vs : List PacketValue) (padding : List Bool) (r : Reading) → MessageReads way (typed_message nid head body (map (unnamed way) vs) padding) r → all_bits way vs ≤ 8184
unfolding all_bits
message_small way nid head body vs padding r t =
    let few = (admits_parts L_MESSAGE t.len t.head_admitted.1.0).1 in
    omega (arith, t.bytes, few)

message_fits : (way : Way) (m : MessageValue) (r : Reading) (d : Data) → MessageReads way (unnamed_message way m) r → IsMessageTree way m d → FitsItem d
message_fits way (typed_message nid head body vs padding) r d reads (fs, hs, ps, is, own, front, packets) =
    let small = message_small way nid head body vs padding r reads in
    let fields = pairs_fit body fs own in
    let short = row_short way nid body (reads.row, reads.typed_number, reads.body_reads) in
    let some = bits_least body in
    let header = pairs_fit head hs front in
    let few = head_few way head reads.head_reads in
    let list = packets_fit way vs ps small packets in
    subst FitsItem (sym is) (
      (
        refl,
        (
          (fields.0, omega (arith, fields.1, short, some)),
          ((header.0, omega (arith, header.1, few)), ((refl, omega arith), ((refl, omega arith), ((list.0, omega (arith, list.1, small)), ((refl, omega arith), tt))))),
        ),
      ),
      omega (arith, fields.1, short, some, header.1, few, list.1, small),
    )
message_fits way (kept_message nid b) r d reads is =
    subst FitsItem (sym is) ((refl, ((refl, omega arith), ((refl, omega arith), ((refl, omega arith), tt)))), omega arith)

pub item_fits : (kind : Kind) (o : EntryValue) (d : Data) → IsLoose kind o → IsTreeOf o d → FitsItem d
item_fits kind (of_telegram t) d (r, reads) tree = telegram_fits t r d reads.1 tree
item_fits kind (of_message way m) d (r, reads) tree = message_fits way m r d reads.1 tree
