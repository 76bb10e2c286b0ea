-- The JSON of an item is plain, and not deep.
use Rattle.std.proofs.Common.{◌≡◌, ◌≢◌, ℕ, ◌<◌, ◌≤◌, true, false, ◌++◌, refl, arith, subst, Some, IsUtf8}
use Rattle.std.specs.Prelude.{All, replicate}
use Rattle.serde_json.specs.Data.{depth}
use Rattle.serde_json.specs.Read.{read, max_depth}
use Rattle.serde_json.specs.Written.{compact_text}
use Rattle.etcs_vars.specs.declared.var.Var.TheVariants.{NID_MESSAGE, FILL, PAD, PADDING}
use Rattle.etcs_vars.specs.Reading.{Reading, kept}
use Rattle.etcs_vars.proofs.Apart.{AllFit}
use Rattle.etcs_tables.specs.declared.row.Way.{Way}
use Rattle.etcs_tables.specs.declared.row.Way.TheVariants.{ToTrain, ToTrack}
use Rattle.etcs_packets.specs.PacketReadings.{readings_to}
use Rattle.etcs_rows.specs.declared.frames.Carrier.TheVariants as carrier
use Rattle.etcs_sequence.specs.Contents.{closing}
use Rattle.etcs_messages.specs.Messages.{MessageValue, typed_message, kept_message, MessageReads, head_reading}
use Rattle.etcs_messages.proofs.Spelling as messages
use Rattle.etcs_telegram.specs.declared.size.Size.{Size}
use Rattle.etcs_telegram.specs.declared.size.Size.TheVariants as size
use Rattle.etcs_telegram.specs.Telegrams.{TelegramValue, TelegramReads, header_reading, closed_reading, pad_bits}
use Rattle.etcs_telegram.proofs.Spellings.{regular}
use Rattle.etcs_text.specs.Entries.{EntryValue, of_telegram, of_message, Spells}
use Rattle.etcs_text.specs.Show.{kind_word, way_word}
use Rattle.etcs_text.specs.Trees.{telegram_tree, message_tree, json_tree}
use Rattle.etcs_json_trees.proofs.PlainTexts.{are_plain, IsPlain, read_plain, utf8_plain, without_plain}
use Rattle.etcs_json_trees.proofs.PlainPackets.{bits_plain, fit_parts, packets_flat, packets_plain, pairs_flat, pairs_plain, small}

kind_plain : (size : Size) → are_plain (kind_word size) ≡ true
kind_plain size.Short = refl
kind_plain size.Long = refl

word_plain : (way : Way) → are_plain (way_word way) ≡ true
word_plain ToTrain = refl
word_plain ToTrack = refl

telegram_fits : (t : TelegramValue) (r : Reading) → TelegramReads t r → AllFit (header_reading t.header) × AllFit (readings_to ToTrain t.packets)
telegram_fits t r x =
    let language = regular t.size in
    let whole : AllFit (((header_reading t.header ++ closed_reading t.packets) ++ kept FILL t.fill) ++ kept PAD (replicate (pad_bits t.size) false)) = subst AllFit x.reading_is (language.fit r (t, (refl, x))) in
    let front = fit_parts (header_reading t.header ++ closed_reading t.packets) (kept FILL t.fill) (fit_parts (header_reading t.header ++ closed_reading t.packets ++ kept FILL t.fill) (kept PAD (replicate (pad_bits t.size) false)) whole).0 in
    let both = fit_parts (header_reading t.header) (closed_reading t.packets) front.0 in
    (both.0, (fit_parts (readings_to ToTrain t.packets) (closing carrier.Telegram) both.1).0)

telegram_plain : (t : TelegramValue) (r : Reading) → TelegramReads t r → IsPlain (telegram_tree t)
telegram_plain t r x =
    let fits = telegram_fits t r x in
    ((refl, bits_plain t.fill, (refl, pairs_plain (header_reading t.header) fits.0, (refl, kind_plain t.size, (refl, packets_plain ToTrain t.packets fits.1, tt)))), refl)

message_plain : (way : Way) (m : MessageValue) (r : Reading) → MessageReads way m r → IsPlain (message_tree way m)
message_plain way (typed_message nid head body vs padding) r x =
    let front = head_reading nid x.len head in
    let sent = readings_to way vs in
    let whole : AllFit (((front ++ body) ++ sent) ++ kept PADDING padding) = subst AllFit x.reading_is ((messages.regular way).fit r (typed_message nid head body vs padding, x)) in
    let run = fit_parts (front ++ body) sent (fit_parts ((front ++ body) ++ sent) (kept PADDING padding) whole).0 in
    let both = fit_parts front body run.0 in
    ((refl, pairs_plain body both.1, (refl, pairs_plain head both.0.1.1, (refl, word_plain way, (refl, small NID_MESSAGE nid both.0.0, (refl, packets_plain way vs run.1, (refl, bits_plain padding, tt)))))), refl)
message_plain way (kept_message nid b) r x = ((refl, bits_plain b, (refl, word_plain way, (refl, omega (arith, x.small), tt))), refl)

entry_plain : (e : EntryValue) (r : Reading) → Spells e r → IsPlain (json_tree e)
entry_plain (of_telegram t) r x = telegram_plain t r x
entry_plain (of_message way m) r x = message_plain way m r x

entry_flat : (e : EntryValue) → depth (json_tree e) ≤ max_depth
entry_flat (of_telegram t) = omega (arith, pairs_flat (header_reading t.header), packets_flat ToTrain t.packets)
entry_flat (of_message way (typed_message nid head body vs padding)) = omega (arith, pairs_flat body, pairs_flat head, packets_flat way vs)
entry_flat (of_message way (kept_message nid b)) = omega arith

-- ---- What is written of them.

pub read_tree : (e : EntryValue) (r : Reading) → Spells e r → read (compact_text (json_tree e)) ≡ Some (json_tree e)
read_tree e r x = read_plain (json_tree e) (entry_plain e r x) (entry_flat e)

pub utf8_tree : (e : EntryValue) (r : Reading) → Spells e r → IsUtf8 (compact_text (json_tree e))
utf8_tree e r x = utf8_plain (json_tree e) (entry_plain e r x)

pub tree_without : (c : ℕ) → c < 32 → (e : EntryValue) (r : Reading) → Spells e r → All (λ b. b ≢ c) (compact_text (json_tree e))
tree_without c low e r x = without_plain (json_tree e) c (entry_plain e r x) low
