-- A packet that is taken at once.
use Rattle.std.proofs.Common.{◌≡◌, ℕ, ◌+◌, ◌-◌, ◌≤◌, Bool, List, [], ◌∷◌, ◌++◌, length, Some, refl, sym, ap, subst, ◌∙◌, arith}
use Rattle.std.specs.Prelude.{All}
use Rattle.std.proofs.lemmas.List.Elements.{All-head, All-tail}
use Rattle.etcs_bits.specs.Bits.{num, part}
use Rattle.etcs_bits.proofs.Lists.{length-part, part-add}
use Rattle.etcs_vars.specs.declared.var.Var.TheVariants.{NID_PACKET, L_PACKET}
use Rattle.etcs_vars.specs.Walking.{Residual}
use Rattle.etcs_vars.specs.Reading.{Reading, spelled}
use Rattle.etcs_vars.proofs.Apart.{apart, cut}
use Rattle.etcs_vars.specs.laws.Spellings.{spelled-append}
use Rattle.etcs_rows.specs.declared.frames.Carrier.{Carrier}
use Rattle.etcs_rows.specs.declared.frames.Carrier.TheVariants.{Telegram, Message}
use Rattle.etcs_rows.specs.Frames.{way_of}
use Rattle.etcs_tables.specs.Layouts.{Layout}
use Rattle.etcs_tables.specs.Rows.{row_to}
use Rattle.etcs_tables.specs.declared.row.Way.{Way}
use Rattle.etcs_tables.specs.Frames.{frame_bits, head_bits, directed}
use Rattle.etcs_packets.specs.PacketValues as packets
use Rattle.etcs_packets.specs.PacketValues.{PacketValue, variables_of, IsTypedOf, bits_to, IsPacketTo}
use Rattle.etcs_packets.specs.PacketReadings.{in_frame, reading_to, readings_to}
use Rattle.etcs_packets.specs.laws.PacketReadings.{frame_is, directed-append, bits_are}
use Rattle.etcs_reader.specs.laws.FieldLaws.{residual_none, residual_along}
use Rattle.etcs_sequence.specs.AtOnce.{Holds, FrameAt, WholeAt}
use Rattle.etcs_sequence.specs.Contents.{Carries, PacketsIn, ReadsPackets}
use Rattle.etcs_sequence.specs.laws.Agreement.{packet_agree, packet_fit, numbered}
use Rattle.etcs_sequence.proofs.OneSpelling.{packet_same, closed_apart}
use Rattle.etcs_sequence.specs.laws.RunSteps.{beyond, both_length, in_front, carried_packet}
use Rattle.etcs_sequence.specs.laws.Others.{kept_parts, kept_untyped}
use Rattle.etcs_sequence.specs.laws.Framed.{frame_head}

-- a run that begins with a packet's variables continues after it
begins : (c : Carrier) (room : ℕ) (v : PacketValue) (us : List PacketValue) (q : Reading) → Carries c v → ReadsPackets c room us (reading_to (way_of c) v ++ q) → PacketsIn c (room - bits_to (way_of c) v) q
begins Telegram room v [] q carried run = absurd (closed_apart v q carried (sym run.reading_is))
begins (Message way) room v [] q carried run =
    let b = numbered way v carried.0 in
    let e : ◌≡◌ {A = Reading} ((NID_PACKET, b.0) ∷ (b.1 ++ q)) [] = ap (λ (t : Reading). t ++ q) (sym b.2) ∙ run.reading_is in
    absurd cc
begins c room v (u ∷ us) q carried run =
    let way = way_of c in
    let r = reading_to way v in
    let s = reading_to way u in
    let b = beyond c room (bits_to way u) u us (r ++ q) run (bits_are way u) in
    let hv = carried_packet c v carried in
    let hu = carried_packet c u (All-head (Carries c) u us run.carried) in
    let whole : spelled r ++ spelled q ≡ spelled s ++ spelled b.0 = sym (spelled-append r q) ∙ ap spelled b.1 ∙ spelled-append s b.0 in
    let both = apart r s (spelled q) (spelled b.0) (packet_agree way v u hv hu) (packet_fit way v hv) (packet_fit way u hu) whole in
    let same = packet_same way v u hv hu both.0 in
    let rest = cut r s q b.0 (ap (λ (t : Reading). length t) both.0) b.1 in
    (us, subst (λ (t : Reading). ReadsPackets c (room - bits_to way v) us t) (sym rest.1) (subst (λ (w : PacketValue). ReadsPackets c (room - bits_to way w) us b.0) (sym same) b.3))

-- what is left after a whole packet
pub after_packet : (c : Carrier) (room : ℕ) (v : PacketValue) → Carries c v → bits_to (way_of c) v ≤ room → Residual (PacketsIn c room) (reading_to (way_of c) v) (PacketsIn c (room - bits_to (way_of c) v))
after_packet c room v carried le = record {
  to = λ q (us, run). begins c room v us q carried run;
  from = λ q l. in_front c room (bits_to (way_of c) v) v q carried (bits_are (way_of c) v) le l;
}

-- so it is after one of a piece
pub after_whole : (c : Carrier) (room : ℕ) (H H' : Holds) (xs : List Bool) (at l : ℕ) (w : WholeAt c H H' xs at l) → l ≤ room → Residual (PacketsIn c room) (reading_to (way_of c) w.packet) (PacketsIn c (room - l))
after_whole c room H H' xs at l w le =
    let long = w.long in
    subst (λ (n : ℕ). Residual (PacketsIn c room) (reading_to (way_of c) w.packet) (PacketsIn c (room - n))) long (after_packet c room w.packet w.carried (omega (arith, le, long)))

-- and after several
pub after_packets : (c : Carrier) (room left : ℕ) (vs : List PacketValue) → All (Carries c) vs → length (spelled (readings_to (way_of c) vs)) + left ≡ room → Residual (PacketsIn c room) (readings_to (way_of c) vs) (PacketsIn c left)
after_packets c room left [] all long =
    let same : room ≡ left = omega (arith, long) in
    subst (λ (n : ℕ). Residual (PacketsIn c room) [] (PacketsIn c n)) same (residual_none (PacketsIn c room))
after_packets c room left (v ∷ vs) all long =
    let way = way_of c in
    let one = reading_to way v in
    let rest = readings_to way vs in
    let bits = bits_to way v in
    let size = bits_are way v in
    let both = both_length one rest in
    let first = after_packet c room v (All-head (Carries c) v vs all) (omega (arith, long, both, size)) in
    let others = after_packets c (room - bits) left vs (All-tail (Carries c) v vs all) (omega (arith, long, both, size)) in
    residual_along (PacketsIn c room) one (PacketsIn c (room - bits)) rest (PacketsIn c left) first others

-- the packet of a row, of its bits
typed_by : (way : Way) (nid dir : ℕ) (row : Layout) (v : PacketValue) → row_to way nid ≡ Some row → IsPacketTo way v → IsTypedOf nid dir v → reading_to way v ≡ in_frame way nid dir (length (spelled (variables_of v))) (variables_of v)
typed_by way nid dir row (packets.marker n) e h t = absurd (let d = t.1 in cc)
typed_by way nid dir row (packets.typed nid' dir' r) e h t = let d : dir' ≡ dir = (let s = t.1 in cc) in rw (t.0, d) refl
typed_by way nid dir row (packets.kept nid' dir' b) e h t = absurd (kept_untyped way nid' row (kept_parts way nid' dir' (length b) h).0 (ap (row_to way) t.0 ∙ e))

-- and of what follows it
pub frame_spelled : (way : Way) (nid dir l at : ℕ) (xs : List Bool) (body : Reading) → FrameAt way nid dir l at xs → spelled body ≡ part (at + frame_bits way) (l - frame_bits way) xs → spelled (in_frame way nid dir (l - frame_bits way) body) ≡ part at l xs
frame_spelled way nid dir l at xs body f s =
    let frame = frame_bits way in
    let head = head_bits way in
    let m = l - frame in
    let least = f.least in
    let is = frame_is way in
    let some : 8 ≤ head = (frame_head way) in
    let same : frame + m ≡ l = omega (arith, least) in
    let sent = directed way dir [] in
    let rest : Reading = (L_PACKET, l) ∷ body in
    let two-parts : spelled (directed way dir rest) ≡ spelled sent ++ spelled rest = ap spelled (sym (directed-append way dir [] rest)) ∙ spelled-append sent rest in
    let all : spelled (in_frame way nid dir m body) ≡ num 8 nid ++ (spelled sent ++ (num 13 l ++ spelled body)) = ap (λ (k : ℕ). num 8 nid ++ spelled (directed way dir ((L_PACKET, k) ∷ body))) same ∙ ap (λ (x : List Bool). num 8 nid ++ x) two-parts in
    let one : num 13 l ++ spelled body ≡ part (at + head) (13 + m) xs = ap (λ (x : List Bool). x ++ spelled body) f.long ∙ ap (λ (x : List Bool). part (at + head) 13 xs ++ x) (s ∙ ap (λ (k : ℕ). part k m xs) (omega (arith, is))) ∙ sym (part-add (at + head) 13 m xs) in
    let n = head - 8 in
    let two : spelled sent ++ (num 13 l ++ spelled body) ≡ part (at + 8) (n + (13 + m)) xs = ap (λ (x : List Bool). x ++ (num 13 l ++ spelled body)) f.direction ∙ ap (λ (x : List Bool). part (at + 8) n xs ++ x) (one ∙ ap (λ (k : ℕ). part k (13 + m) xs) (omega (arith, some))) ∙ sym (part-add (at + 8) n (13 + m) xs) in
    let three : num 8 nid ++ (spelled sent ++ (num 13 l ++ spelled body)) ≡ part at (8 + (n + (13 + m))) xs = ap (λ (x : List Bool). x ++ (spelled sent ++ (num 13 l ++ spelled body))) f.number ∙ ap (λ (x : List Bool). part at 8 xs ++ x) two ∙ sym (part-add at 8 (n + (13 + m)) xs) in
    let total : 8 + (n + (13 + m)) ≡ l = omega (arith, least, is, some) in
    all ∙ three ∙ ap (λ (k : ℕ). part at k xs) total

-- the bits of a typed packet, from those of its frame and of its row
pub typed_bits : (way : Way) (nid dir l at : ℕ) (row : Layout) (v : PacketValue) (xs : List Bool) → row_to way nid ≡ Some row → IsPacketTo way v → IsTypedOf nid dir v → FrameAt way nid dir l at xs → at + l ≤ length xs → spelled (variables_of v) ≡ part (at + frame_bits way) (l - frame_bits way) xs
    → (spelled (reading_to way v) ≡ part at l xs) × (bits_to way v ≡ l)
typed_bits way nid dir l at row v xs e h t f within s =
    let r = variables_of v in
    let least = f.least in
    let long : length (spelled r) ≡ l - frame_bits way = ap (λ (x : List Bool). length x) s ∙ length-part (at + frame_bits way) (l - frame_bits way) xs (omega (arith, least, within)) in
    let bits : spelled (reading_to way v) ≡ part at l xs = ap spelled (typed_by way nid dir row v e h t ∙ ap (λ (k : ℕ). in_frame way nid dir k r) long) ∙ frame_spelled way nid dir l at xs r f s in
    (bits, sym (bits_are way v) ∙ ap (λ (x : List Bool). length x) bits ∙ length-part at l xs within)
