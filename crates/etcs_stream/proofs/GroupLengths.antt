-- The lines of a group are short.
use Rattle.std.proofs.Common.{◌≡◌, ◌∙◌, refl, sym, ap, subst, ℕ, zero, suc, ◌+◌, ◌*◌, ◌^◌, ◌<◌, ◌≤◌, arith, decimal, Bool, true, false, List, [], ◌∷◌, ◌++◌, length, replicate, Option, Some, None, slice_get, Result, Ok, Err, inl, inr}
use Rattle.std.specs.Prelude.{codes, map, if◌then◌else◌, slice_index_or}
use Rattle.std.proofs.lemmas.Grind.{flat_map-append}
use Rattle.std.proofs.lemmas.List.{length-append, map-append}
use Rattle.std.proofs.lemmas.Option.{same_Some, none-some}
use Rattle.etcs_vars.specs.declared.var.Var.TheVariants.{NID_PACKET, FILL, PAD}
use Rattle.etcs_vars.specs.Reading.{Reading, kept}
use Rattle.etcs_vars.proofs.Apart.{AllFit}
use Rattle.etcs_tables.specs.declared.row.Way.TheVariants.{ToTrain}
use Rattle.etcs_packets.specs.declared.packet.Packet.{Packet}
use Rattle.etcs_packets.specs.PacketValues.{packet_value}
use Rattle.etcs_packets.specs.PacketReadings.{packets_reading}
use Rattle.etcs_telegram.specs.declared.size.Size.{Size}
use Rattle.etcs_telegram.specs.declared.size.Size.TheVariants as size
use Rattle.etcs_telegram.specs.Telegrams.{TelegramContent, TelegramValue, IsTelegram, telegram_value, header_reading, closed_reading, user_bits, pad_bits}
use Rattle.etcs_telegram.specs.Writing.{telegram_reading}
use Rattle.etcs_telegram.proofs.Encoding.{telegram_reads}
use Rattle.etcs_telegram.proofs.HeaderLemmas.{admitted_fit}
use Rattle.etcs_telegram.proofs.Spellings.{regular}
use Rattle.etcs_group.specs.declared.assembly.Added.{Added}
use Rattle.etcs_group.specs.declared.assembly.Added.TheVariants.{New, Repeat}
use Rattle.etcs_group.specs.declared.clash.Clash.{Clash}
use Rattle.etcs_group.specs.declared.clash.Clash.TheVariants.{BadPosition, BadDuplicate, OtherGroup, OtherTotal, Counter, Differs}
use Rattle.etcs_group.specs.Groups.{Holds}
use Rattle.etcs_group.specs.Messages.{Gives, FirstGive}
use Rattle.etcs_group.proofs.Places.{held_place}
use Rattle.etcs_text.specs.Entries.{EntryValue, of_telegram, of_message}
use Rattle.etcs_packet_text.specs.Packets.{packet_text, packets_text}
use Rattle.etcs_packet_text.proofs.TextLengths.{decimal_short, fit_front, fit_after, spelled_long, packets_short}
use Rattle.etcs_text.proofs.TextLengths.{five_long}
use Rattle.etcs_stream.specs.declared.job.Command.TheVariants.{Group}
use Rattle.etcs_stream.specs.Reported.{Reported}
use Rattle.etcs_group.specs.GroupLines.{positions_text, trues}
use Rattle.etcs_stream.specs.Groups.{GroupItem, LastLines, GroupLines, clash_name, answer_words, group_front}
use Rattle.etcs_stream.specs.Printers.{OutputsItems, nothing_reported}

-- ---- The line of an item.

name_short : (c : Clash) → length (clash_name c) ≤ 12
name_short BadPosition = omega arith
name_short BadDuplicate = omega arith
name_short OtherGroup = omega arith
name_short OtherTotal = omega arith
name_short Counter = omega arith
name_short Differs = omega arith

words_short : (answer : Result Added Clash) → length (answer_words answer) ≤ 18
words_short (Ok New) = omega arith
words_short (Ok Repeat) = omega arith
words_short (Err c) = omega (arith, length-append (codes "clash ") (clash_name c), name_short c)

pub group_item_short : (t : TelegramValue) (s : Reported) (text : List ℕ) (s' : Reported) → s.count + 1 < 2 ^ 64 → GroupItem t s text s' → length text ≤ 2097152
group_item_short t s text s' h x =
    let item = decimal_short (s.count + 1) h in
    let words = words_short x.answer in
    let l = five_long (codes "item ") (decimal (s.count + 1)) (codes " ") (answer_words x.answer) (codes "\n") in
    rw x.text_is (omega (arith, item, words, l))

-- ---- What is held are telegrams.

abbrev AreMade : List (Option TelegramContent) → Type 0
AreMade held = (t : TelegramContent) → Holds held t → IsTelegram t

none_at : (n k : ℕ) (t : TelegramContent) → slice_get (replicate n None) k ≡ Some (Some t) → ⊥
none_at zero k t e = none-some (Some t) e
none_at (suc n) zero t e = none-some t (same_Some None (Some t) e)
none_at (suc n) (suc k) t e = none_at n k t e

item_made : (t : TelegramValue) (s : Reported) (text : List ℕ) (s' : Reported) → GroupItem t s text s' → AreMade s.held → AreMade s'.held
item_made t s text s' x made u h = elim ((x.held_is u).0 h) [
  | inl old ↦ made u old
  | inr new ↦ subst (λ (v : TelegramContent). IsTelegram v) (sym new.1) x.made
]

items_made : (es : List EntryValue) (s : Reported) (text : List ℕ) (s' : Reported) → OutputsItems Group s es text s' → AreMade s.held → AreMade s'.held
items_made [] s text s' h made = subst (λ (k : Reported). AreMade k.held) (sym h.1) made
items_made (of_telegram t ∷ es) s text s' (mid, first, rest, _, outputs, more) made = items_made es mid rest s' more (item_made t s first mid outputs made)
items_made (of_message way m ∷ es) s text s' (mid, first, rest, _, outputs, more) made = absurd outputs

pub held_made : (es : List EntryValue) (text : List ℕ) (s : Reported) → OutputsItems Group nothing_reported es text s → AreMade s.held
held_made es text s h = items_made es nothing_reported text s h (λ t held. let place = held_place (replicate 8 None) t held in absurd (none_at 8 place.0 t place.1))

-- ---- The message of a group.

user_short : (s : Size) → user_bits s ≤ 830
user_short size.Short = omega arith
user_short size.Long = omega arith

-- packet 255
abbrev closing : Reading
closing = (NID_PACKET, 255) ∷ []

packets_fit : (t : TelegramContent) → IsTelegram t → AllFit (packets_reading (map packet_value t.packets))
packets_fit t made =
    let v = telegram_value t in
    let head = header_reading v.header in
    let fill = kept FILL v.fill in
    let zeros = kept PAD (replicate (pad_bits v.size) false) in
    let reads = telegram_reads t made in
    let language = regular v.size in
    let whole : AllFit (telegram_reading v) = language.fit (telegram_reading v) (v, (refl, reads)) in
    let parts : AllFit (((head ++ closed_reading v.packets) ++ fill) ++ zeros) = subst (λ (r : Reading). AllFit r) reads.reading_is whole in
    let headed = fit_front (head ++ closed_reading v.packets) fill (fit_front ((head ++ closed_reading v.packets) ++ fill) zeros parts) in
    fit_front (packets_reading v.packets) closing (fit_after head (closed_reading v.packets) headed)

-- packets of at most 830 bits
held_short : (t : TelegramContent) → IsTelegram t → length (packets_text ToTrain (map packet_value t.packets)) ≤ 106240
held_short t made =
    let vs = map packet_value t.packets in
    let short = packets_short ToTrain vs (packets_fit t made) in
    let l = spelled_long (packets_reading vs) closing in
    omega (arith, short, l, made.fill, user_short t.size)

message_append : (ps qs : List Packet) → length (packets_text ToTrain (map packet_value (ps ++ qs))) ≡ length (packets_text ToTrain (map packet_value ps)) + length (packets_text ToTrain (map packet_value qs))
message_append ps qs =
    ap (λ z. length (packets_text ToTrain z)) (map-append packet_value ps qs)
    ∙ ap length (flat_map-append (packet_text ToTrain) (map packet_value ps) (map packet_value qs))
    ∙ length-append (packets_text ToTrain (map packet_value ps)) (packets_text ToTrain (map packet_value qs))

module _ (held : List (Option TelegramContent)) (made : AreMade held) where
  given_short : (p : ℕ) (ps : List Packet) → Gives held p ps → length (packets_text ToTrain (map packet_value ps)) ≤ 106240
  given_short p ps (inl (t, h, _, _, is)) = rw is (held_short t (made t h))
  given_short p ps (inr (_, is)) = rw is (omega arith)

  message_short : (n : ℕ) (ps : List Packet) → FirstGive held n ps → length (packets_text ToTrain (map packet_value ps)) ≤ n * 106240
  unfolding FirstGive
  message_short zero ps h = rw h (omega arith)
  message_short (suc n) ps (front, last, h, g, is) =
      let before = message_short n front h in
      let here = given_short n last g in
      rw is (omega (arith, before, here, message_append front last))

-- ---- The missing positions.

one_short : (n : ℕ) (b : Bool) → n < 8 → length (positions_text (if b then n ∷ [] else [])) ≤ 21
one_short n true small =
    let here = decimal_short n (omega (arith, small)) in
    let one = length-append (codes " ") (decimal n) in
    let nothing = length-append (codes " " ++ decimal n) [] in
    omega (arith, here, one, nothing)
one_short n false small = omega arith

positions_short : (n : ℕ) (bs : List Bool) → n ≤ 8 → length (positions_text (trues n bs)) ≤ n * 21
positions_short zero bs small = omega arith
positions_short (suc n) bs small =
    let last = (if slice_index_or bs n false then n ∷ [] else []) in
    let before = positions_short n bs (omega (arith, small)) in
    let here = one_short n (slice_index_or bs n false) (omega (arith, small)) in
    let both : length (positions_text (trues (suc n) bs)) ≡ length (positions_text (trues n bs)) + length (positions_text last) =
    ap length (flat_map-append (λ (p : ℕ). codes " " ++ decimal p) (trues n bs) last) ∙ length-append (positions_text (trues n bs)) (positions_text last) in
    omega (arith, before, here, both)

-- ---- The last lines.

front_short : (t : TelegramContent) → IsTelegram t → length (group_front t.header.nid_c t.header.nid_bg) ≤ 47
front_short t made =
    let fits = admitted_fit (header_reading t.header) made.header in
    let country : t.header.nid_c < 2 ^ 10 = fits.1.1.1.1.1.1.1.0 in
    let group : t.header.nid_bg < 2 ^ 14 = fits.1.1.1.1.1.1.1.1.0 in
    let c = decimal_short t.header.nid_c (omega (arith, country)) in
    let g = decimal_short t.header.nid_bg (omega (arith, group)) in
    let x = length-append (codes "group " ++ decimal t.header.nid_c ++ codes " ") (decimal t.header.nid_bg) in
    let y = length-append (codes "group " ++ decimal t.header.nid_c) (codes " ") in
    let z = length-append (codes "group ") (decimal t.header.nid_c) in
    omega (arith, c, g, x, y, z)

lines_short : (held : List (Option TelegramContent)) (front text : List ℕ) → AreMade held → length front ≤ 47 → GroupLines held front text → length text ≤ 2 ^ 40
lines_short held front text made short (inl (_, (ps, h, is))) =
    let packets = packets_text ToTrain (map packet_value ps) in
    let message : length packets ≤ 8 * 106240 = message_short held made 8 ps h in
    let x = length-append (front ++ codes " complete\n") packets in
    let y = length-append front (codes " complete\n") in
    rw is (omega (arith, short, message, x, y))
lines_short held front text made short (inr (_, (bs, _, is))) =
    let positions = positions_text (trues 8 bs) in
    let missing : length positions ≤ 8 * 21 = positions_short 8 bs (omega arith) in
    let x = length-append (front ++ codes " missing" ++ positions) (codes "\n") in
    let y = length-append (front ++ codes " missing") positions in
    let z = length-append front (codes " missing") in
    rw is (omega (arith, short, missing, x, y, z))

pub last_lines_short : (es : List EntryValue) (lines : List ℕ) (s : Reported) (last : List ℕ) → OutputsItems Group nothing_reported es lines s → LastLines s.held last → length last ≤ 2 ^ 40
last_lines_short es lines s last h (inl (_, is)) = rw is (omega arith)
last_lines_short es lines s last h (inr (t, holds, x)) =
    let made = held_made es lines s h in
    lines_short s.held (group_front t.header.nid_c t.header.nid_bg) last made (front_short t (made t holds)) x
