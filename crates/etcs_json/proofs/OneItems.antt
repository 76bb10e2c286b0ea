-- A tree is that of one item of a kind, and of each item its own is.
use Rattle.std.proofs.Common.{◌≡◌, false, [], map, Some, refl, sym, ap, ap₂, subst, ◌∙◌}
use Rattle.serde_json.specs.Data.{Data}
use Rattle.serde_json.specs.View.{items_of}
use Rattle.etcs_vars.specs.Reading.{Reading}
use Rattle.etcs_tables.specs.declared.row.Way.{Way}
use Rattle.etcs_tables.specs.declared.row.Way.TheVariants.{ToTrain}
use Rattle.etcs_tables.specs.Layouts.{Layout, Reads}
use Rattle.etcs_tables.specs.Rows.{message_row_to}
use Rattle.etcs_reader.specs.laws.FieldLaws.{fields_agree}
use Rattle.etcs_tables.specs.Headers.{head_row}
use Rattle.etcs_messages.specs.Messages.{MessageValue, typed_message, kept_message, MessageReads}
use Rattle.etcs_messages.proofs.Fields.{fields_admitted}
use Rattle.etcs_messages.proofs.Spelling.{admitted_fit as head_fit}
use Rattle.etcs_telegram.specs.Telegrams.{TelegramValue, TelegramReads, header_reading}
use Rattle.etcs_telegram.proofs.HeaderLemmas.{admitted_fit, header_same}
use Rattle.etcs_telegram.proofs.Spellings.{header_agree}
use Rattle.etcs_text.specs.declared.entry.Kind.{Kind}
use Rattle.etcs_text.specs.Entries.{EntryValue, of_telegram, of_message}
use Rattle.etcs_text.proofs.ItemKinds.{kind_same, way_same, telegram_message}
use Rattle.etcs_packet_text.specs.Trees.{bits_tree, pair_tree, packet_tree}
use Rattle.etcs_text.specs.Trees.{json_tree}
use Rattle.etcs_json.specs.Loose.{IsLoose, unnamed_telegram, unnamed_message}
use Rattle.etcs_json.specs.Puts.{HasParts}
use Rattle.etcs_json.specs.TreeReading.{IsTelegramTree, IsMessageTree, IsTreeOf}
use Rattle.etcs_json_trees.proofs.OneTrees.{bits_same, packets_same, pairs_same, row_same}
use Rattle.etcs_json.proofs.LooseItems.{named_packets, parts_of}
use Rattle.etcs_json_trees.proofs.OwnTrees.{packets_own, pairs_own}

-- ---- Telegrams.

telegram_same : (t u : TelegramValue) (d : Data) (r q : Reading) → TelegramReads (unnamed_telegram t) r → TelegramReads (unnamed_telegram u) q → t.size ≡ u.size → IsTelegramTree t d → IsTelegramTree u d → t ≡ u
telegram_same t u d r q x y sized (hs, ps, is, head, packets) (hs', ps', is', head', packets') =
    let heads : hs' ≡ hs = cc in
    let lists : ps' ≡ ps = cc in
    let fills : bits_tree t.fill ≡ bits_tree u.fill = cc in
    let pairs : header_reading t.header ≡ header_reading u.header = pairs_same (header_reading t.header) (header_reading u.header) hs (header_agree t.header u.header) (admitted_fit (header_reading t.header) x.header_admitted) (admitted_fit (header_reading u.header) y.header_admitted) head (rw heads at head') in
    let header : t.header ≡ u.header = header_same t.header u.header pairs in
    let list : t.packets ≡ u.packets = packets_same ToTrain t.packets u.packets ps x.packets_hold y.packets_hold packets (rw lists at packets') in
    let fill : t.fill ≡ u.fill = bits_same t.fill u.fill fills in
    λ i. record { size = sized i; header = header i; packets = list i; fill = fill i }

-- ---- Messages.

-- messages of such parts with one tree are one
pub parts_same : (way : Way) (m n : MessageValue) (d : Data) → HasParts way m → HasParts way n → IsMessageTree way m d → IsMessageTree way n d → m ≡ n
parts_same way (typed_message nid head body vs padding) (typed_message nid' head' body' vs' padding') d x y (fs, hs, ps, is, fields, header, packets) (fs', hs', ps', is', fields', header', packets') =
    let number : nid' ≡ nid = cc in
    let bodies : fs' ≡ fs = cc in
    let heads : hs' ≡ hs = cc in
    let lists : ps' ≡ ps = cc in
    let ends : bits_tree padding' ≡ bits_tree padding = cc in
    let row : y.0 ≡ x.0 = (let both : Some y.0 ≡ Some x.0 = sym y.1 ∙ ap (message_row_to way) number ∙ x.1 in cc) in
    let one = row_same x.0 body body' fs x.2 (subst (λ (l : Layout). Reads l [] body') row y.2) fields (rw bodies at fields') in
    let fit = head_fit head (fields_admitted (head_row way) head x.3) in
    let fit' = head_fit head' (fields_admitted (head_row way) head' y.3) in
    let same = pairs_same head head' hs (fields_agree (head_row way) head head' x.3 y.3) fit fit' header (rw heads at header') in
    let list = packets_same way vs vs' ps (named_packets way false vs x.4) (named_packets way false vs' y.4) packets (rw lists at packets') in
    let last = bits_same padding' padding ends in
    λ i. typed_message (sym number i) (same i) (one i) (list i) (sym last i)
parts_same way (typed_message nid head body vs padding) (kept_message nid' b) d x y (fs, hs, ps, is, fields, header, packets) is' = absurd cc
parts_same way (kept_message nid b) (typed_message nid' head' body' vs' padding') d x y is (fs', hs', ps', is', fields', header', packets') = absurd cc
parts_same way (kept_message nid b) (kept_message nid' c) d x y is is' =
    let bits : bits_tree b ≡ bits_tree c = cc in
    let number : nid ≡ nid' = cc in
    let same = bits_same b c bits in
    λ i. kept_message (number i) (same i)

-- ---- Items.

-- messages with one tree are one
messages_same : (v w : Way) (m n : MessageValue) (d : Data) (r q : Reading) → v ≡ w → MessageReads v (unnamed_message v m) r → MessageReads w (unnamed_message w n) q → IsMessageTree v m d → IsMessageTree w n d → ◌≡◌ {A = EntryValue} (of_message v m) (of_message w n)
messages_same v w m n d r q e x y h k =
    let back = sym e in
    let y' = subst (λ (z : Way). MessageReads z (unnamed_message z n) q) back y in
    let k' = subst (λ (z : Way). IsMessageTree z n d) back k in
    ap₂ (λ (z : Way) (o : MessageValue). of_message z o) e (parts_same v m n d (parts_of v m r x) (parts_of v n q y') h k')

-- items of one kind with one tree are one, also where packets in them that are typed by now are kept
pub one_loose : (kind : Kind) (d : Data) (o o' : EntryValue) → IsLoose kind o → IsLoose kind o' → IsTreeOf o d → IsTreeOf o' d → o ≡ o'
one_loose kind d (of_telegram t) (of_telegram u) (r, (is, x)) (r', (is', y)) h k = ap of_telegram (telegram_same t u d r r' x y (kind_same t.size u.size (is ∙ sym is')) h k)
one_loose kind d (of_telegram t) (of_message way m) (r, (is, x)) (r', (is', y)) h k = absurd (telegram_message t.size way (is ∙ sym is'))
one_loose kind d (of_message way m) (of_telegram t) (r, (is, x)) (r', (is', y)) h k = absurd (telegram_message t.size way (is' ∙ sym is))
one_loose kind d (of_message v m) (of_message w n) (r, (is, x)) (r', (is', y)) h k = messages_same v w m n d r r' (way_same v w (is ∙ sym is')) x y h k

message_own : (way : Way) (m : MessageValue) → IsMessageTree way m (json_tree (of_message way m))
message_own way (typed_message nid head body vs padding) =
    (items_of (map pair_tree body), items_of (map pair_tree head), items_of (map (packet_tree way) vs), refl, pairs_own body, pairs_own head, packets_own way vs)
message_own way (kept_message nid b) = refl

pub tree_of : (e : EntryValue) → IsTreeOf e (json_tree e)
tree_of (of_telegram t) = (items_of (map pair_tree (header_reading t.header)), items_of (map (packet_tree ToTrain) t.packets), refl, pairs_own (header_reading t.header), packets_own ToTrain t.packets)
tree_of (of_message way m) = message_own way m
