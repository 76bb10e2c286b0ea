-- The places of an item's variables are those that the walk finds.
use Rattle.std.proofs.Common.{◌≡◌, ℕ, suc, ◌+◌, Bool, true, false, List, [], ◌∷◌, ◌++◌, length, replicate, refl, ap, ◌∙◌, arith, append_assoc}
use Rattle.std.specs.Prelude.{◌&&◌}
use Rattle.std.specs.List.{list_all}
use Rattle.std.proofs.lemmas.Bool.{and_parts}
use Rattle.etcs_vars.specs.declared.var.Var.{Var}
use Rattle.etcs_vars.specs.declared.var.Var.TheVariants.{NID_PACKET, FILL, PAD, PADDING, OTHER_DATA}
use Rattle.etcs_vars.specs.Reading.{Reading}
use Rattle.etcs_vars.specs.Reading as sent
use Rattle.etcs_tables.specs.declared.row.Way.{Way}
use Rattle.etcs_tables.specs.declared.row.Way.TheVariants.{ToTrain, ToTrack}
use Rattle.etcs_tables.specs.Layouts.{Layout, whole, one, guarded, counted, Scope, Reads}
use Rattle.etcs_tables.specs.Rows.{message_rows_to}
use Rattle.etcs_tables.specs.Headers.{head_row}
use Rattle.etcs_tables.proofs.EachRow.{of_each}
use Rattle.etcs_reader.specs.Fields.{ReadsFields}
use Rattle.etcs_packets.specs.PacketValues.{PacketValue}
use Rattle.etcs_packets.specs.PacketReadings.{readings_to, packets_reading}
use Rattle.etcs_telegram.specs.Telegrams.{TelegramValue, TelegramReads, header_reading, pad_bits}
use Rattle.etcs_messages.specs.Messages.{MessageValue, typed_message, kept_message, head_reading, TypedReads, KeptReads, MessageReads}
use Rattle.etcs_text.specs.declared.entry.Kind.{Kind}
use Rattle.etcs_text.specs.declared.entry.Kind.TheVariants.{Long, Short, Radio, Train}
use Rattle.etcs_text.specs.Entries.{of_telegram, of_message, kind_of}
use Rattle.etcs_text.specs.Pairs.{ItemLanguage}
use Rattle.etcs_places.specs.declared.place.Place.{Place}
use Rattle.etcs_places.specs.declared.walk.Here.{Here}
use Rattle.etcs_places.specs.Places.{outside, in_packet, all_at, RowPlaces}
use Rattle.etcs_places.specs.Scans.{start, step, body_places, scan}
use Rattle.etcs_places.specs.Items.{TelegramPlaces, MessagePlaces, PairsPlaces, way_of}
use Rattle.etcs_places.proofs.ItemLemmas.{plain, all_plain, scan_plain, scan_all, kept_plain, scan_close, close_both, kept_close, in_next, packets_found}

-- ---- Telegrams.

closed_found : (h : Here) (k : ℕ) → h.packets ≡ k → (fill pad : List Bool) → scan ToTrain h [] ((NID_PACKET, 255) ∷ (sent.kept FILL fill ++ sent.kept PAD pad)) ≡ in_packet (k + 1) ∷ all_at outside (sent.kept FILL fill ++ sent.kept PAD pad)
unfolding scan
closed_found h k e fill pad =
    rw (scan_close ToTrain (in_next h 255) (sent.kept FILL fill ++ sent.kept PAD pad) (close_both (sent.kept FILL fill) (sent.kept PAD pad) (kept_close FILL fill refl) (kept_close PAD pad refl)), e) refl

telegram_parts : (h p c f z : Reading) → h ++ (p ++ c) ++ f ++ z ≡ h ++ (p ++ (c ++ (f ++ z)))
telegram_parts h p c f z = rw (append_assoc (h ++ (p ++ c)) f z, append_assoc h (p ++ c) (f ++ z), append_assoc p c (f ++ z)) refl

telegram_found : (t : TelegramValue) (r : Reading) → TelegramReads t r → TelegramPlaces t (scan ToTrain start [] r)
telegram_found t r reads =
    let head = header_reading t.header in
    let fill = sent.kept FILL t.fill in
    let pad = sent.kept PAD (replicate (pad_bits t.size) false) in
    let closing = (NID_PACKET, 255) ∷ (fill ++ pad) in
    let (q, places, took) = packets_found ToTrain start t.packets closing reads.packets_hold in
    let whole = reads.reading_is ∙ telegram_parts head (packets_reading t.packets) ((NID_PACKET, 255) ∷ []) fill pad in
    let plainly = scan_plain ToTrain start head (packets_reading t.packets ++ closing) refl in
    let last = closed_found took.next (length t.packets) (omega (arith, took.counted)) t.fill (replicate (pad_bits t.size) false) in
    (q, places, rw (whole, plainly, took.takes, last) refl)

-- ---- Messages.

fields_plain : (vs : List Var) (r : Reading) → list_all plain vs ≡ true → ReadsFields vs r → all_plain r ≡ true
fields_plain [] r all e = rw e refl
fields_plain (v ∷ vs) r all (n, r', admitted, e, reads) =
    let parts = and_parts (plain v) (list_all plain vs) all in
    rw (e, parts.0, fields_plain vs r' parts.1 reads) refl

head_plain : (way : Way) (nid len : ℕ) (head : Reading) → ReadsFields (head_row way) head → all_plain (head_reading nid len head) ≡ true
head_plain ToTrain nid len head reads = fields_plain (head_row ToTrain) head refl reads
head_plain ToTrack nid len head reads = fields_plain (head_row ToTrack) head refl reads

-- the row has no groups, and its variables are plain
abbrev plain_row : Layout → Bool
plain_row whole = true
plain_row (one v rest) = plain v && plain_row rest
plain_row (guarded g group rest) = false
plain_row (counted group rest) = false

each_plain : (way : Way) → list_all (λ p. plain_row p.1) (message_rows_to way) ≡ true
each_plain ToTrain = refl
each_plain ToTrack = refl

row_plain : (row : Layout) (s : Scope) (at : Place) (r : Reading) → plain_row row ≡ true → Reads row s r → (all_plain r ≡ true) × RowPlaces row s at r (all_at at r)
unfolding Reads RowPlaces
row_plain whole s at r all e = rw e (refl, (refl, refl))
row_plain (one v rest) s at r all (n, r', admitted, e, reads) =
    let parts = and_parts (plain v) (plain_row rest) all in
    let more = row_plain rest ((v, n) ∷ s) at r' parts.1 reads in
    rw (e, parts.0, more.0) (refl, (n, r', all_at at r', refl, refl, more.1))
row_plain (guarded g group rest) s at r all reads = absurd cc
row_plain (counted group rest) s at r all reads = absurd cc

message_parts : (h b p z : Reading) → h ++ b ++ p ++ z ≡ h ++ (b ++ (p ++ z))
message_parts h b p z = rw (append_assoc (h ++ b) p z, append_assoc h b (p ++ z)) refl

typed_found : (way : Way) (nid : ℕ) (head body : Reading) (vs : List PacketValue) (padding : List Bool) (r : Reading) → TypedReads way nid head body vs padding r → MessagePlaces way (typed_message nid head body vs padding) (scan way start [] r)
typed_found way nid head body vs padding r reads =
    let pad = sent.kept PADDING padding in
    let front = head_reading nid reads.len head in
    let own = row_plain reads.row [] outside body (of_each (λ n row. plain_row row) (message_rows_to way) nid reads.row (each_plain way) reads.typed_number) reads.body_reads in
    let (q, places, took) = packets_found way start vs pad (λ k d l. (reads.run.carried k d l).0) in
    let whole = reads.reading_is ∙ message_parts front body (readings_to way vs) pad in
    let head_first = scan_plain way start front (body ++ (readings_to way vs ++ pad)) (head_plain way nid reads.len head reads.head_reads) in
    let own_next = scan_plain way start body (readings_to way vs ++ pad) own.0 in
    let last = scan_close way took.next pad (kept_close PADDING padding refl) in
    (reads.row, all_at outside body, q, reads.typed_number, own.1, places, rw (whole, head_first, own_next, took.takes, last) refl)

kept_found : (way : Way) (nid : ℕ) (b : List Bool) (r : Reading) → KeptReads way nid b r → MessagePlaces way (kept_message nid b) (scan way start [] r)
unfolding scan
kept_found way nid b r reads =
    rw reads.reading_is (scan_all way start (head_reading nid reads.len (sent.kept OTHER_DATA b)) (kept_plain b))

message_found : (way : Way) (m : MessageValue) (r : Reading) → MessageReads way m r → MessagePlaces way m (scan way start [] r)
message_found way (typed_message nid head body vs padding) r reads = typed_found way nid head body vs padding r reads
message_found way (kept_message nid b) r reads = kept_found way nid b r reads

-- ---- Items.

pub item_found : (kind : Kind) (r : Reading) → ItemLanguage kind r → PairsPlaces kind r (scan (way_of kind) start [] r)
item_found Long r (t, (e, reads)) = (of_telegram t, (ap kind_of e, reads), telegram_found t r reads)
item_found Short r (t, (e, reads)) = (of_telegram t, (ap kind_of e, reads), telegram_found t r reads)
item_found Radio r (m, reads) = (of_message ToTrain m, (refl, reads), message_found ToTrain m r reads)
item_found Train r (m, reads) = (of_message ToTrack m, (refl, reads), message_found ToTrack m r reads)

pub scan_long : (way : Way) (h : Here) (q : List Place) (r : Reading) → length (scan way h q r) ≡ length r
unfolding scan
scan_long way h q [] = refl
scan_long way h [] (p ∷ r) = ap (λ n. suc n) (scan_long way (step h p) (body_places way (step h p) p.0 r) r)
scan_long way h (x ∷ q) (p ∷ r) = ap (λ n. suc n) (scan_long way h q r)
