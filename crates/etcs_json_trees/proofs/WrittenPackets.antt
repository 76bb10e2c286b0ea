-- Packets that are put of their text.
use Rattle.std.proofs.Common.{◌≡◌, ℕ, ◌+◌, ◌-◌, ◌≤◌, Bool, true, false, List, [], ◌∷◌, ◌++◌, length, take, drop, map, Option, Some, None, Result, refl, sym, ap, subst, ◌∙◌, append_assoc, append-nil, arith, decimal}
use Rattle.std.specs.Prelude.{All, IfOk, IsTrue, codes}
use Rattle.std.specs.Result.{result_ok}
use Rattle.std.proofs.Math.Seq.{drop-append_seam}
use Rattle.std.proofs.lemmas.Fmt.{decimal_digit}
use Rattle.std.proofs.lemmas.Grind.{flat_map-append}
use Rattle.std.proofs.lemmas.List.{length-append, length-map, take_at}
use Rattle.std.proofs.lemmas.List.Elements.{All-push, All-nil}
use Rattle.json.specs.Print.{escape_byte}
use Rattle.serde_json.specs.Data.{Data}
use Rattle.serde_json.specs.Written.{comma_if, compact_text}
use Rattle.etcs_bits.specs.Bits.{num}
use Rattle.etcs_vars.specs.declared.var.Var.TheVariants.{L_PACKET, NID_PACKET, NID_VBCMK, OTHER_DATA}
use Rattle.etcs_vars.specs.Reading.{Reading, spelled}
use Rattle.etcs_vars.specs.Vars.{admits}
use Rattle.etcs_vars.specs.Reading as sent
use Rattle.etcs_vars.proofs.Sent.{length-sent}
use Rattle.etcs_vars.specs.laws.Spellings.{spelled-append}
use Rattle.etcs_tables.specs.declared.row.Way.{Way}
use Rattle.etcs_tables.specs.declared.row.Way.TheVariants.{ToTrain, ToTrack}
use Rattle.etcs_tables.specs.Frames.{directed, frame_bits, head_bits}
use Rattle.etcs_tables.specs.Typed.{IsFramed}
use Rattle.etcs_bodies.specs.Passing.{PassedRow, IsPassedOn}
use Rattle.etcs_bodies.specs.Taking.{Left, named}
use Rattle.etcs_flat.specs.Others.{other_fault}
use Rattle.etcs_packets.specs.PacketValues.{PacketValue, IsPacketTo, marker, typed, kept, kept_of, nid_of, variables_of}
use Rattle.etcs_packets.specs.PacketReadings.{reading_to, readings_to}
use Rattle.etcs_packets.specs.laws.PacketReadings.{directed-append, frame_is, length-directed}
use Rattle.etcs_packet_text.specs.JsonParts.{data_text, fields_front, sent_dir}
use Rattle.etcs_packet_text.specs.PairSinks.{Listed, with_item, with_each}
use Rattle.etcs_packet_text.specs.Show.{bit_digit}
use Rattle.etcs_packet_text.specs.Trees.{packet_tree, packets_tree, pairs_tree}
use Rattle.etcs_packet_text.proofs.PairSinks.{list_text}
use Rattle.etcs_packet_text.proofs.TreeTexts.{kept_packet, sent_packet}
use Rattle.etcs_json_trees.specs.PacketTexts.{Leaves, IsRowOf, IsUnmarked, PutsMarker, PutsPacket, PutsTyped, dir_then, fields_then}
use Rattle.etcs_json_trees.specs.PairTexts.{IsOpened, pairs_left}
use Rattle.etcs_json_trees.proofs.WrittenRows.{left_after, list_taken, ok_is, some_is}

-- ---- A frame in bits.

-- what is in a frame before L_PACKET
abbrev head : Way → ℕ → ℕ → Reading
head way nid dir = (NID_PACKET, nid) ∷ directed way dir []

length-head : (way : Way) (nid dir : ℕ) → length (spelled (head way nid dir)) ≡ head_bits way
length-head way nid dir = omega (arith, length-sent NID_PACKET nid (directed way dir []), length-directed way dir [])

framed_bits : (way : Way) (nid dir len : ℕ) (r : Reading) → spelled ((NID_PACKET, nid) ∷ directed way dir ((L_PACKET, len) ∷ r)) ≡ spelled (head way nid dir) ++ (num 13 len ++ spelled r)
framed_bits way nid dir len r =
    let q : Reading = (L_PACKET, len) ∷ r in
    ap (λ (t : Reading). spelled ((NID_PACKET, nid) ∷ t)) (sym (directed-append way dir [] q)) ∙ spelled-append (head way nid dir) q

-- a frame that is put
pub frame_put : (way here : Way) (nid n dir len : ℕ) (old new : List Bool) → here ≡ way → n ≡ nid → new ≡ old ++ spelled ((NID_PACKET, n) ∷ directed here dir ((L_PACKET, len) ∷ [])) → new ≡ old ++ spelled ((NID_PACKET, nid) ∷ directed way dir ((L_PACKET, len) ∷ []))
frame_put way here nid n dir len old new same is put =
    put
    ∙ ap (λ (w : Way). old ++ spelled ((NID_PACKET, n) ∷ directed w dir ((L_PACKET, len) ∷ []))) same
    ∙ ap (λ (k : ℕ). old ++ spelled ((NID_PACKET, k) ∷ directed way dir ((L_PACKET, len) ∷ []))) is

overwritten : (a h z s n : List Bool) (at width : ℕ) → at ≡ length a + length h → width ≡ length z → take at ((a ++ (h ++ z)) ++ s) ++ (n ++ drop (at + width) ((a ++ (h ++ z)) ++ s)) ≡ a ++ (h ++ (n ++ s))
overwritten a h z s n at width place long =
    let x = (a ++ (h ++ z)) ++ s in
    let split : x ≡ (a ++ h) ++ (z ++ s) = ap (λ (t : List Bool). t ++ s) (sym (append_assoc a h z)) ∙ append_assoc (a ++ h) z s in
    let parted : x ≡ ((a ++ h) ++ z) ++ s = ap (λ (t : List Bool). t ++ s) (sym (append_assoc a h z)) in
    let first : take at x ≡ a ++ h = ap (take at) split ∙ take_at (a ++ h) (z ++ s) at (length-append a h ∙ sym place) in
    let end : at + width ≡ length ((a ++ h) ++ z) = omega (arith, place, long, length-append (a ++ h) z, length-append a h) in
    let last : drop (at + width) x ≡ s = ap (λ (k : ℕ). drop k x) end ∙ ap (drop (length ((a ++ h) ++ z))) parted ∙ drop-append_seam ((a ++ h) ++ z) s in
    ap (λ (t : List Bool). t ++ (n ++ drop (at + width) x)) first
    ∙ ap (λ (t : List Bool). (a ++ h) ++ (n ++ t)) last
    ∙ append_assoc a h (n ++ s)

-- ---- The bits of a typed packet.

-- how long the packet is, and where its L_PACKET is
pub body_long : (way : Way) (nid dir : ℕ) (r : Reading) (old one two : List Bool) → one ≡ old ++ spelled ((NID_PACKET, nid) ∷ directed way dir ((L_PACKET, 0) ∷ [])) → two ≡ one ++ spelled r → length two ≡ length old + (frame_bits way + length (spelled r))
body_long way nid dir r old one two framed passed =
    let h = spelled (head way nid dir) in
    let frame = spelled ((NID_PACKET, nid) ∷ directed way dir ((L_PACKET, 0) ∷ [])) in
    let l1 = ap length passed ∙ length-append one (spelled r) in
    let l2 = ap length framed ∙ length-append old frame in
    let l3 = ap length (framed_bits way nid dir 0 []) ∙ length-append h (num 13 0 ++ spelled []) in
    let l4 : length (num 13 0 ++ spelled []) ≡ 13 = length-sent L_PACKET 0 [] in
    omega (arith, l1, l2, l3, l4, length-head way nid dir, frame_is way)

pub body_put : (way : Way) (nid dir at len : ℕ) (r : Reading) (old one two new : List Bool) → one ≡ old ++ spelled ((NID_PACKET, nid) ∷ directed way dir ((L_PACKET, 0) ∷ [])) → two ≡ one ++ spelled r → len ≡ length two - length old → at ≡ length old + frame_bits way - 13 → new ≡ take at two ++ (num 13 len ++ drop (at + 13) two)
    → new ≡ old ++ spelled (reading_to way (typed nid dir r))
body_put way nid dir at len r old one two new framed passed is place put =
    let h = spelled (head way nid dir) in
    let z = num 13 0 ++ spelled [] in
    let s = spelled r in
    let long = body_long way nid dir r old one two framed passed in
    let len_is : len ≡ frame_bits way + length s = omega (arith, long, is) in
    let at_is : at ≡ length old + length h = omega (arith, place, length-head way nid dir, frame_is way) in
    let width : 13 ≡ length z = sym (length-sent L_PACKET 0 []) in
    let two_is : two ≡ (old ++ (h ++ z)) ++ s = passed ∙ ap (λ (t : List Bool). t ++ s) (framed ∙ ap (λ (t : List Bool). old ++ t) (framed_bits way nid dir 0 [])) in
    put
    ∙ ap (λ (t : List Bool). take at t ++ (num 13 len ++ drop (at + 13) t)) two_is
    ∙ overwritten old h z s (num 13 len) at 13 at_is width
    ∙ ap (λ (k : ℕ). old ++ (h ++ (num 13 k ++ s))) len_is
    ∙ ap (λ (t : List Bool). old ++ t) (sym (framed_bits way nid dir (frame_bits way + length s) r))

-- ---- The bits of a packet that is kept.

spelled_kept : (b : List Bool) → spelled (sent.kept OTHER_DATA b) ≡ b
unfolding num
spelled_kept [] = refl
spelled_kept (true ∷ b) = ap (λ (l : List Bool). true ∷ l) (spelled_kept b)
spelled_kept (false ∷ b) = ap (λ (l : List Bool). false ∷ l) (spelled_kept b)

digits_long : (digits : List ℕ) (b : List Bool) → digits ≡ map bit_digit b → length digits ≡ length b
digits_long digits b e = ap length e ∙ length-map b bit_digit

kept_bits : (way : Way) (nid dir len : ℕ) (digits : List ℕ) (b old one new : List Bool) → len ≡ frame_bits way + length digits → digits ≡ map bit_digit b → one ≡ old ++ spelled ((NID_PACKET, nid) ∷ directed way dir ((L_PACKET, len) ∷ [])) → new ≡ one ++ b → new ≡ old ++ spelled (reading_to way (kept nid dir b))
kept_bits way nid dir len digits b old one new is said framed put =
    let h = spelled (head way nid dir) in
    let q = sent.kept OTHER_DATA b in
    let len_is : len ≡ frame_bits way + length b = is ∙ ap (λ (k : ℕ). frame_bits way + k) (digits_long digits b said) in
    put
    ∙ ap (λ (t : List Bool). t ++ b) (framed ∙ ap (λ (t : List Bool). old ++ t) (framed_bits way nid dir len [] ∙ ap (λ (t : List Bool). h ++ t) (append-nil (num 13 len))))
    ∙ append_assoc old (h ++ num 13 len) b
    ∙ ap (λ (t : List Bool). old ++ t) (append_assoc h (num 13 len) b ∙ ap (λ (t : List Bool). h ++ (num 13 len ++ t)) (sym (spelled_kept b)) ∙ sym (framed_bits way nid dir len q))
    ∙ ap (λ (k : ℕ). old ++ spelled ((NID_PACKET, nid) ∷ directed way dir ((L_PACKET, k) ∷ q))) len_is

-- ---- The variables of a packet with fields.

pub row_passed : {S E : Type 0} (way : Way) (nid : ℕ) (with : S → Reading → S) (s t : Left) (out out' : S) (r : Result (Option Bool) E) (o : Option (Option Bool)) (p : Option Bool) (b : Bool) → o ≡ result_ok r → o ≡ Some p → p ≡ Some b → IsTrue b → IfOk r (λ q. IsPassedOn way nid with s t out out' q) → PassedRow way nid with s t out out'
row_passed way nid with s t out out' r o p b e f g holds h =
    let all : IsPassedOn way nid with s t out out' p = ok_is r o p (λ q. IsPassedOn way nid with s t out out' q) e f h in
    some_is p b (λ c. IsTrue c → PassedRow way nid with s t out out') g all.passed holds

pub pairs_put : (way : Way) (nid : ℕ) (text rest : List ℕ) (a b : ℕ) (x y : List ℕ) (n : ℕ) (old new : List Bool) → IsOpened text a x → PassedRow way nid (λ (t : List Bool) (r : Reading). t ++ spelled r) (named (pairs_left a x)) (named (pairs_left b y)) old new → (b ≡ 93) × (rest ≡ y) → n ≡ length rest → (r : Reading) × IsRowOf way nid r × Leaves n (λ s. text ≡ compact_text (pairs_tree r) ++ s) × (new ≡ old ++ spelled r)
pairs_put way nid text rest a b x y n old new opened (r, framed, went) end long = (r, framed, list_taken text rest a b x y r n opened went.taken end long, went.sent)

-- ---- The text of a packet with fields.

-- the list of pairs, and the number after it
pub fields_put : (nid n dir m : ℕ) (r : Reading) (text end a s : List ℕ) → Leaves m (λ z. text ≡ compact_text (pairs_tree r) ++ z) → end ≡ drop (length text - m) text → end ≡ codes ",\"nid\":" ++ a → a ≡ decimal n ++ 125 ∷ s → n ≡ nid → text ≡ fields_then (typed nid dir r) s
fields_put nid n dir m r text end a s leaves there front number same =
    let x = compact_text (pairs_tree r) in
    (left_after m text x leaves).1
    ∙ ap (λ (w : List ℕ). x ++ w) (sym there ∙ front)
    ∙ ap (λ (w : List ℕ). x ++ (codes ",\"nid\":" ++ w)) (number ∙ ap (λ (k : ℕ). decimal k ++ 125 ∷ s) same)

pub typed_put : (way : Way) (dir n : ℕ) (text : List ℕ) (old new : List Bool) (nid : ℕ) (r : Reading) (s : List ℕ) → IsFramed way nid dir r → length s ≡ n → text ≡ fields_then (typed nid dir r) s → new ≡ old ++ spelled (reading_to way (typed nid dir r)) → PutsTyped way dir text n old new
typed_put way dir n text old new nid r s framed long is put = (nid, r, framed, (s, long, is), put)

-- with what is before its fields
fields_are : (way : Way) (v : PacketValue) (s : List ℕ) → kept_of v ≡ None → fields_front (sent_dir way v) ++ fields_then v s ≡ compact_text (packet_tree way v) ++ s
fields_are way v s e =
    let front = fields_front (sent_dir way v) in
    let fields = compact_text (pairs_tree (variables_of v)) in
    let number = decimal (nid_of v) in
    sym (append_assoc front (fields ++ (codes ",\"nid\":" ++ (number ++ codes "}"))) s
    ∙ ap (λ (z : List ℕ). front ++ z) (append_assoc fields (codes ",\"nid\":" ++ (number ++ codes "}")) s)
    ∙ ap (λ (z : List ℕ). front ++ (fields ++ (codes ",\"nid\":" ++ z))) (append_assoc number (codes "}") s))
    ∙ ap (λ (z : List ℕ). z ++ s) (sent_packet way v (sym e))

-- to the train with a direction
directed_one : (nid dir : ℕ) (r : Reading) (text a b c s : List ℕ) → text ≡ codes "{\"dir\":" ++ a → a ≡ decimal dir ++ 44 ∷ b → b ≡ codes "\"fields\":" ++ c → c ≡ fields_then (typed nid dir r) s → text ≡ compact_text (packet_tree ToTrain (typed nid dir r)) ++ s
directed_one nid dir r text a b c s h e f g =
    h
    ∙ ap (λ (z : List ℕ). codes "{\"dir\":" ++ z) (e ∙ ap (λ (z : List ℕ). decimal dir ++ 44 ∷ z) f ∙ sym (append_assoc (decimal dir) (codes ",\"fields\":") c))
    ∙ ap (λ (z : List ℕ). (codes "{\"dir\":" ++ (decimal dir ++ codes ",\"fields\":")) ++ z) g
    ∙ fields_are ToTrain (typed nid dir r) s refl

-- without one
plain_one : (way : Way) (v : PacketValue) (text c s : List ℕ) → sent_dir way v ≡ None → kept_of v ≡ None → text ≡ codes "{\"fields\":" ++ c → c ≡ fields_then v s → text ≡ compact_text (packet_tree way v) ++ s
plain_one way v text c s none shape h g =
    h
    ∙ ap (λ (z : List ℕ). codes "{\"fields\":" ++ z) g
    ∙ ap (λ (o : Option ℕ). fields_front o ++ fields_then v s) (sym none)
    ∙ fields_are way v s shape

pub typed_unmarked : (nid dir : ℕ) (r : Reading) → IsUnmarked (typed nid dir r)
typed_unmarked nid dir r n e = absurd cc

pub kept_unmarked : (nid dir : ℕ) (b : List Bool) → IsUnmarked (kept nid dir b)
kept_unmarked nid dir b n e = absurd cc

pub train_put : (way : Way) (has_marker : Bool) (dir n : ℕ) (text a b c : List ℕ) (old new : List Bool) → way ≡ ToTrain → text ≡ codes "{\"dir\":" ++ a → a ≡ decimal dir ++ 44 ∷ b → b ≡ codes "\"fields\":" ++ c → PutsTyped way dir c n old new → PutsPacket way has_marker text n old new
train_put ToTrain has_marker dir n text a b c old new way h e f (nid, r, framed, (s, long, is), put) = (typed nid dir r, framed, (λ _. typed_unmarked nid dir r), (s, long, directed_one nid dir r text a b c s h e f is), put)
train_put ToTrack has_marker dir n text a b c old new way h e f g = absurd cc

pub track_put : (way : Way) (n : ℕ) (text c : List ℕ) (old new : List Bool) → way ≡ ToTrack → text ≡ codes "{\"fields\":" ++ c → PutsTyped way 0 c n old new → PutsPacket way false text n old new
track_put ToTrack n text c old new way h (nid, r, framed, (s, long, is), put) = (typed nid 0 r, framed, (λ _. typed_unmarked nid 0 r), (s, long, plain_one ToTrack (typed nid 0 r) text c s refl refl h is), put)
track_put ToTrain n text c old new way h g = absurd cc

pub marked_put : (way : Way) (has_marker : Bool) (n : ℕ) (text c : List ℕ) (old new : List Bool) → way ≡ ToTrain → has_marker ≡ true → text ≡ codes "{\"fields\":" ++ c → PutsMarker c n old new → PutsPacket way has_marker text n old new
marked_put ToTrain has_marker n text c old new way has h (number, ok, (s, long, is), put) = (marker number, ok, (λ e. absurd cc), (s, long, plain_one ToTrain (marker number) text c s refl refl h is), put)
marked_put ToTrack has_marker n text c old new way has h g = absurd cc

-- a packet that is never packet 0 without a frame
pub unmarked_put : (way here : Way) (has_marker : Bool) (n : ℕ) (text : List ℕ) (old new : List Bool) → here ≡ way → PutsPacket here false text n old new → PutsPacket way has_marker text n old new
unmarked_put way here has_marker n text old new same puts =
    let (v, is, unmarked, left, put) = subst (λ (w : Way). PutsPacket w false text n old new) same puts in
    (v, is, (λ _. unmarked refl), left, put)

-- ---- Packet 0.

marker_fields : (n : ℕ) → compact_text (pairs_tree ((NID_VBCMK, n) ∷ [])) ≡ codes "[[\"NID_VBCMK\"," ++ (decimal n ++ codes "]]")
unfolding escape_byte
marker_fields n = ap (λ (z : List ℕ). codes "[[\"NID_VBCMK\"," ++ z) (append_assoc (decimal n) (93 ∷ []) (93 ∷ []))

marker_text : (n : ℕ) (text a b s : List ℕ) → text ≡ codes "[[\"NID_VBCMK\"," ++ a → a ≡ decimal n ++ 93 ∷ b → b ≡ codes "],\"nid\":0}" ++ s → text ≡ fields_then (marker n) s
marker_text n text a b s h e f =
    let rest = codes ",\"nid\":0}" ++ s in
    h
    ∙ ap (λ (z : List ℕ). codes "[[\"NID_VBCMK\"," ++ z) (e ∙ ap (λ (z : List ℕ). decimal n ++ 93 ∷ z) f ∙ sym (append_assoc (decimal n) (codes "]]") rest))
    ∙ ap (λ (z : List ℕ). z ++ rest) (sym (marker_fields n))
    ∙ ap (λ (z : List ℕ). compact_text (pairs_tree ((NID_VBCMK, n) ∷ [])) ++ (codes ",\"nid\":" ++ (z ++ (codes "}" ++ s)))) (sym (decimal_digit 0 (omega arith)))

pub marker_put : (m n : ℕ) (text a b s : List ℕ) (k : ℕ) (old new : List Bool) → text ≡ codes "[[\"NID_VBCMK\"," ++ a → a ≡ decimal m ++ 93 ∷ b → b ≡ codes "],\"nid\":0}" ++ s → n ≡ m → IsTrue (admits NID_VBCMK n) → new ≡ old ++ spelled ((NID_PACKET, 0) ∷ (NID_VBCMK, n) ∷ []) → length s ≡ k → PutsMarker text k old new
marker_put m n text a b s k old new h e f is ok put long = (n, ok, (s, long, marker_text n text a b s h (e ∙ ap (λ (x : ℕ). decimal x ++ 93 ∷ b) (sym is)) f), put)

-- ---- The text of a packet that is kept as bits.

data_are : (way : Way) (nid dir : ℕ) (b : List Bool) (s : List ℕ) → codes "{\"data\":\"" ++ (map bit_digit b ++ (34 ∷ 44 ∷ dir_then way dir (codes "\"nid\":" ++ (decimal nid ++ (codes "}" ++ s))))) ≡ data_text way (kept nid dir b) b ++ s
data_are ToTrain nid dir b s =
    let bits = map bit_digit b in
    let end = decimal nid ++ codes "}" in
    sym (ap (λ (z : List ℕ). codes "{\"data\":\"" ++ z) (append_assoc bits ((codes "\",\"dir\":" ++ (decimal dir ++ codes ",\"nid\":")) ++ end) s)
    ∙ ap (λ (z : List ℕ). codes "{\"data\":\"" ++ (bits ++ (codes "\",\"dir\":" ++ (z ++ s)))) (append_assoc (decimal dir) (codes ",\"nid\":") end)
    ∙ ap (λ (z : List ℕ). codes "{\"data\":\"" ++ (bits ++ (codes "\",\"dir\":" ++ z))) (append_assoc (decimal dir) (codes ",\"nid\":" ++ end) s)
    ∙ ap (λ (z : List ℕ). codes "{\"data\":\"" ++ (bits ++ (codes "\",\"dir\":" ++ (decimal dir ++ (codes ",\"nid\":" ++ z))))) (append_assoc (decimal nid) (codes "}") s))
data_are ToTrack nid dir b s =
    let bits = map bit_digit b in
    let end = decimal nid ++ codes "}" in
    sym (ap (λ (z : List ℕ). codes "{\"data\":\"" ++ z) (append_assoc bits (codes "\",\"nid\":" ++ end) s)
    ∙ ap (λ (z : List ℕ). codes "{\"data\":\"" ++ (bits ++ (codes "\",\"nid\":" ++ z))) (append_assoc (decimal nid) (codes "}") s))

kept_text : (way : Way) (nid dir : ℕ) (b : List Bool) (text a digits c d e f s : List ℕ) → digits ≡ map bit_digit b → text ≡ codes "{\"data\":\"" ++ a → a ≡ digits ++ 34 ∷ c → c ≡ codes "," ++ d → d ≡ dir_then way dir e → e ≡ codes "\"nid\":" ++ f → f ≡ decimal nid ++ 125 ∷ s → text ≡ compact_text (packet_tree way (kept nid dir b)) ++ s
kept_text way nid dir b text a digits c d e f s said h1 h2 h3 h4 h5 h6 =
    h1
    ∙ ap (λ (z : List ℕ). codes "{\"data\":\"" ++ z) (h2 ∙ ap (λ (z : List ℕ). z ++ 34 ∷ c) said)
    ∙ ap (λ (z : List ℕ). codes "{\"data\":\"" ++ (map bit_digit b ++ 34 ∷ z)) (h3 ∙ ap (λ (z : List ℕ). 44 ∷ z) h4)
    ∙ ap (λ (z : List ℕ). codes "{\"data\":\"" ++ (map bit_digit b ++ (34 ∷ 44 ∷ dir_then way dir z))) (h5 ∙ ap (λ (z : List ℕ). codes "\"nid\":" ++ z) h6)
    ∙ data_are way nid dir b s
    ∙ ap (λ (z : List ℕ). z ++ s) (kept_packet way (kept nid dir b) b refl)

pub kept_put : (way : Way) (nid dir len n : ℕ) (text a digits c d e f s : List ℕ) (old one new : List Bool) → text ≡ codes "{\"data\":\"" ++ a → a ≡ digits ++ 34 ∷ c → c ≡ codes "," ++ d → d ≡ dir_then way dir e → e ≡ codes "\"nid\":" ++ f → f ≡ decimal nid ++ 125 ∷ s → other_fault way nid dir (length digits) ≡ None → len ≡ frame_bits way + length digits
    → one ≡ old ++ spelled ((NID_PACKET, nid) ∷ directed way dir ((L_PACKET, len) ∷ [])) → (b : List Bool) × (digits ≡ map bit_digit b) × (new ≡ one ++ b) → length s ≡ n → PutsPacket way false text n old new
kept_put way nid dir len n text a digits c d e f s old one new h1 h2 h3 h4 h5 h6 none is framed (b, said, put) long = (
  kept nid dir b,
  ap (λ (k : ℕ). other_fault way nid dir k) (sym (digits_long digits b said)) ∙ none,
  (λ _. kept_unmarked nid dir b),
  (s, long, kept_text way nid dir b text a digits c d e f s said h1 h2 h3 h4 h5 h6),
  kept_bits way nid dir len digits b old one new is said framed put,
)

-- ---- Packets one after another.

-- a list's bracket and the packets of it that are read
abbrev pub list_read : Way → List PacketValue → Listed
list_read way vs = with_each (packet_tree way) (91 ∷ [], false) vs

each_more : {A : Type 0} (f : A → Data) (s : Listed) (xs : List A) (x : A) → with_each f s (xs ++ x ∷ []) ≡ with_item (with_each f s xs) (f x)
each_more f s [] x = refl
each_more f s (y ∷ xs) x = each_more f (with_item s (f y)) xs x

-- the packets of a list that are put so far, and what is left of its text after the comma that follows them
pub record IsListing (way : Way) (has_marker : Bool) (text left : List ℕ) (old new : List Bool) : Type 0 where
  pub packets : List PacketValue
  pub all : All (IsPacketTo way) packets
  pub unmarked : has_marker ≡ false → All IsUnmarked packets
  pub text_is : text ≡ (list_read way packets).0 ++ (comma_if (list_read way packets).1 ++ left)
  pub bits : new ≡ old ++ spelled (readings_to way packets)

-- the same where nothing was taken yet after the last packet
pub record IsListed (way : Way) (has_marker : Bool) (text left : List ℕ) (old new : List Bool) : Type 0 where
  pub packets : List PacketValue
  pub all : All (IsPacketTo way) packets
  pub unmarked : has_marker ≡ false → All IsUnmarked packets
  pub text_is : text ≡ (list_read way packets).0 ++ left
  pub later : (list_read way packets).1 ≡ true
  pub bits : new ≡ old ++ spelled (readings_to way packets)

pub none_listed : (way : Way) (has_marker : Bool) (text left : List ℕ) (old new : List Bool) → text ≡ codes "[" ++ left → new ≡ old → IsListing way has_marker text left old new
none_listed way has_marker text left old new e same = record {
  packets = [];
  all = All-nil (IsPacketTo way);
  unmarked = λ _. All-nil IsUnmarked;
  text_is = e;
  bits = same ∙ sym (append-nil old);
}

more_text : (way : Way) (vs : List PacketValue) (v : PacketValue) (text left next : List ℕ) → text ≡ (list_read way vs).0 ++ (comma_if (list_read way vs).1 ++ left) → left ≡ compact_text (packet_tree way v) ++ next → text ≡ (list_read way (vs ++ v ∷ [])).0 ++ next
more_text way vs v text left next h e =
    let s = list_read way vs in
    let one = compact_text (packet_tree way v) in
    h
    ∙ ap (λ (z : List ℕ). s.0 ++ (comma_if s.1 ++ z)) e
    ∙ ap (λ (z : List ℕ). s.0 ++ z) (sym (append_assoc (comma_if s.1) one next))
    ∙ sym (append_assoc s.0 (comma_if s.1 ++ one) next)
    ∙ ap (λ (t : Listed). t.0 ++ next) (sym (each_more (packet_tree way) (91 ∷ [], false) vs v))

pub more_bits : (way : Way) (vs : List PacketValue) (v : PacketValue) (old mid new : List Bool) → mid ≡ old ++ spelled (readings_to way vs) → new ≡ mid ++ spelled (reading_to way v) → new ≡ old ++ spelled (readings_to way (vs ++ v ∷ []))
more_bits way vs v old mid new h e =
    let a = readings_to way vs in
    let one = reading_to way v in
    let both : readings_to way (vs ++ v ∷ []) ≡ a ++ one = flat_map-append (reading_to way) vs (v ∷ []) ∙ ap (λ (r : Reading). a ++ r) (append-nil one) in
    e
    ∙ ap (λ (b : List Bool). b ++ spelled one) h
    ∙ append_assoc old (spelled a) (spelled one)
    ∙ ap (λ (b : List Bool). old ++ b) (sym (spelled-append a one) ∙ ap spelled (sym both))

pub one_listed : (way : Way) (has_marker : Bool) (text left here next : List ℕ) (n : ℕ) (old mid new : List Bool) → IsListing way has_marker text left old mid → here ≡ left → PutsPacket way has_marker here n mid new → next ≡ drop (length left - n) left → IsListed way has_marker text next old new
one_listed way has_marker text left here next n old mid new h same puts there =
    let (v, is, unmarked, rest, put) = subst (λ (z : List ℕ). PutsPacket way has_marker z n mid new) same puts in
    let after = left_after n left (compact_text (packet_tree way v)) rest in
    record {
      packets = h.packets ++ v ∷ [];
      all = All-push (IsPacketTo way) h.packets v h.all is;
      unmarked = λ none. All-push IsUnmarked h.packets v (h.unmarked none) (unmarked none);
      text_is = more_text way h.packets v text left next h.text_is (after.1 ∙ ap (λ (z : List ℕ). compact_text (packet_tree way v) ++ z) (sym there));
      later = ap (λ (t : Listed). t.1) (each_more (packet_tree way) (91 ∷ [], false) h.packets v);
      bits = more_bits way h.packets v old mid new h.bits put;
    }

pub comma_listed : (way : Way) (has_marker : Bool) (text left next : List ℕ) (old new : List Bool) → IsListed way has_marker text left old new → left ≡ codes "," ++ next → IsListing way has_marker text next old new
comma_listed way has_marker text left next old new h e =
    let s = list_read way h.packets in
    record {
      packets = h.packets;
      all = h.all;
      unmarked = h.unmarked;
      text_is = h.text_is ∙ ap (λ (z : List ℕ). s.0 ++ z) e ∙ ap (λ (b : Bool). s.0 ++ (comma_if b ++ next)) (sym h.later);
      bits = h.bits;
    }

-- the packets of a text are put, and n bytes are after them
abbrev pub PutsAll : Way → Bool → List ℕ → ℕ → List Bool → List Bool → Type 0
PutsAll way has_marker text n old new = (vs : List PacketValue) × All (IsPacketTo way) vs × (has_marker ≡ false → All IsUnmarked vs) × (n ≤ length text) × (text ≡ compact_text (packets_tree way vs) ++ drop (length text - n) text) × (new ≡ old ++ spelled (readings_to way vs))

pub all_listed : (way : Way) (has_marker : Bool) (text left next : List ℕ) (n : ℕ) (old new : List Bool) → IsListed way has_marker text left old new → left ≡ codes "]" ++ next → n ≡ length next → PutsAll way has_marker text n old new
all_listed way has_marker text left next n old new h e long =
    let vs = h.packets in
    let s = list_read way vs in
    let is : text ≡ compact_text (packets_tree way vs) ++ next = h.text_is ∙ ap (λ (z : List ℕ). s.0 ++ z) e ∙ sym (append_assoc s.0 (93 ∷ []) next) ∙ ap (λ (z : List ℕ). z ++ next) (list_text (packet_tree way) (91 ∷ []) false vs) in
    let after = left_after n text (compact_text (packets_tree way vs)) (next, sym long, is) in
    (vs, h.all, h.unmarked, after.0, after.1, h.bits)

pub empty_listed : (way : Way) (has_marker : Bool) (text next : List ℕ) (n : ℕ) (old new : List Bool) → text ≡ codes "[]" ++ next → n ≡ length next → new ≡ old → PutsAll way has_marker text n old new
empty_listed way has_marker text next n old new e long same =
    let after = left_after n text (compact_text (packets_tree way [])) (next, sym long, e) in
    ([], All-nil (IsPacketTo way), (λ _. All-nil IsUnmarked), after.0, after.1, same ∙ sym (append-nil old))
