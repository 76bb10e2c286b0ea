-- Packets that are put of their trees.
use Rattle.std.proofs.Common.{◌≡◌, ℕ, ◌+◌, ◌<◌, ◌==◌, Bool, true, false, List, [], ◌∷◌, ◌++◌, length, Some, None, Result, Ok, Err, inl, inr, refl, sym, ap, subst, ◌∙◌, arith, append_assoc, append-nil}
use Rattle.std.specs.Prelude.{All, IfErr, IsTrue, OnOk, is_err}
use Rattle.std.proofs.lemmas.Bool.{cases_lt, eqb-true, ne_eqb}
use Rattle.std.proofs.lemmas.Grind.{flat_map-append}
use Rattle.std.proofs.lemmas.List.{length-append}
use Rattle.std.proofs.lemmas.List.Elements.{All-head, All-push, All-tail}
use Rattle.serde_json.specs.Data.{Data, array, Items, no_items, item}
use Rattle.etcs_vars.specs.declared.fault.BuildFault.{BuildFault}
use Rattle.etcs_vars.specs.declared.var.Var.TheVariants.{L_PACKET, NID_PACKET, NID_VBCMK, OTHER_DATA, Q_DIR}
use Rattle.etcs_vars.specs.Vars.{admits}
use Rattle.etcs_vars.specs.Reading.{Reading, spelled}
use Rattle.etcs_vars.specs.Reading as sent
use Rattle.etcs_vars.proofs.Prefixes.{admits_parts}
use Rattle.etcs_vars.proofs.Sent.{length-sent}
use Rattle.etcs_tables.specs.declared.row.Way.{Way}
use Rattle.etcs_tables.specs.declared.row.Way.TheVariants.{ToTrain, ToTrack}
use Rattle.etcs_tables.specs.Frames.{directed, frame_bits, is_direction, is_marker}
use Rattle.etcs_tables.specs.Layouts.{Layout, Reads, ROW_LIMIT, one, whole}
use Rattle.etcs_tables.specs.Rows.{row_to}
use Rattle.etcs_tables.specs.Typed.{IsFramed}
use Rattle.etcs_flat.specs.Others.{other_fault}
use Rattle.etcs_packets.specs.PacketValues.{PacketValue, marker, typed, kept, IsPacketTo}
use Rattle.etcs_packets.specs.PacketReadings.{reading_to, readings_to}
use Rattle.etcs_packets.specs.laws.PacketReadings.{bits_are, directed-append, frame_is, length-directed}
use Rattle.etcs_packets.proofs.PacketBits.{length-spelled}
use Rattle.etcs_packet_text.specs.Trees.{bits_tree}
use Rattle.etcs_json_trees.specs.Loose.{HasRoom, IsLoosePacket, stand_in, unnamed}
use Rattle.etcs_json_trees.specs.TreeReading.{ArePairTrees, IsPairList, IsPacketTree, ArePacketTrees, marker_tree, typed_tree, kept_tree, plain}
use Rattle.etcs_json_trees.proofs.Frames.{framed_small, kept_framed, kept_parts, typed_framed}
use Rattle.etcs_json_trees.proofs.OneTrees as trees
use Rattle.etcs_json_trees.proofs.WrittenPackets.{kept_unmarked, more_bits, typed_unmarked}
use Rattle.etcs_json_trees.proofs.WrittenRows.{both_put}

-- ---- Frames.

abbrev frame : Way → ℕ → ℕ → ℕ → Reading
frame way nid dir len = (NID_PACKET, nid) ∷ directed way dir ((L_PACKET, len) ∷ [])

frame_long : (way : Way) (nid dir len : ℕ) (old new : List Bool) → new ≡ old ++ spelled (frame way nid dir len) → length new ≡ length old + frame_bits way
frame_long way nid dir len old new put =
    let l1 = length-sent NID_PACKET nid (directed way dir ((L_PACKET, len) ∷ [])) in
    let l2 = length-directed way dir ((L_PACKET, len) ∷ []) in
    let l3 = length-sent L_PACKET len [] in
    omega (arith, l1, l2, l3, frame_is way, ap length put, length-append old (spelled (frame way nid dir len)))

-- ---- Typed packets.

-- the reading of a packet of this number is one of its row
framed_row : (way : Way) (nid dir : ℕ) (row : Layout) (r : Reading) → row_to way nid ≡ Some row → IsFramed way nid dir r → Reads row [] r
framed_row way nid dir row r e (row', e', directed', reads, short) =
    let two : Some row' ≡ Some row = sym e' ∙ e in
    let one' : row' ≡ row = cc in
    subst (λ (l : Layout). Reads l [] r) one' reads

-- where they are no pairs of its row, there is no such packet
pub row_refused : (way : Way) (nid dir : ℕ) (row : Layout) (r : Reading) (d : Data) (old mid : List Bool) → row_to way nid ≡ Some row → mid ≡ old ++ spelled (frame way nid dir 0) → ((q : Reading) → Reads row [] q → IsPairList q d → HasRoom mid q → ⊥) → IsFramed way nid dir r → IsPairList r d → HasRoom old (reading_to way (typed nid dir r)) → ⊥
row_refused way nid dir row r d old mid e put none framed list room =
    none r (framed_row way nid dir row r e framed) list (omega (arith, room, bits_are way (typed nid dir r), frame_long way nid dir 0 old mid put))

-- nor where they have more bits than a packet
pub row_too_long : (way : Way) (nid dir : ℕ) (row : Layout) (r q : Reading) (d : Data) → row_to way nid ≡ Some row → Reads row [] q → IsPairList q d → ROW_LIMIT < length (spelled q) → IsFramed way nid dir r → IsPairList r d → ⊥
row_too_long way nid dir row r q d e reads list far framed list' =
    let same = trees.list_same row r q d (framed_row way nid dir row r e framed) reads list' list in
    omega (arith, ap (λ (x : Reading). length (spelled x)) same, framed.4, far)

small_direction : (way : Way) (dir : ℕ) → IsTrue (is_direction way dir) → dir < 256
small_direction ToTrain dir h = let d = (admits_parts Q_DIR dir h).1 in omega (arith, d)
small_direction ToTrack dir h = let none = eqb-true dir 0 h in omega (arith, none)

typed_small : (way : Way) (nid dir : ℕ) (r : Reading) → IsPacketTo way (typed nid dir r) → (nid < 256) × (dir < 256)
typed_small way nid dir r (row, e, directed', reads, short) = (framed_small way nid (typed_framed way nid row e), small_direction way dir directed')

-- ---- Packets that are kept as bits.

-- there is one of this number or its stand-in n, if the check of it finds no fault
pub kept_there : {T : Type 0} (way : Way) (nid n dir count : ℕ) (b : List Bool) (checked : Result T BuildFault) → is_err checked ≡ false → n ≡ stand_in way nid → count ≡ length b → OnOk checked (other_fault way n dir count ≡ None) → other_fault way (stand_in way nid) dir (length b) ≡ None
kept_there way nid n dir count b (Ok x) h stands long none =
    ap (λ (m : ℕ). other_fault way m dir (length b)) (sym stands) ∙ ap (λ (k : ℕ). other_fault way n dir k) (sym long) ∙ none
kept_there way nid n dir count b (Err e) h stands long none = absurd cc

pub kept_refused : {T : Type 0} (way : Way) (nid n dir count : ℕ) (b c : List Bool) (d : Data) (checked : Result T BuildFault) → is_err checked ≡ true → n ≡ stand_in way nid → count ≡ length b → IfErr checked (λ e. other_fault way n dir count ≡ Some e) → d ≡ bits_tree b → IsPacketTo way (kept (stand_in way nid) dir c) → d ≡ bits_tree c → ⊥
kept_refused way nid n dir count b c d (Ok x) h stands long some is packet is' = absurd cc
kept_refused way nid n dir count b c d (Err e) h stands long some is packet is' =
    let same : c ≡ b = trees.bits_same c b (sym is' ∙ is) in
    let all : other_fault way n dir count ≡ None =
    ap (λ (m : ℕ). other_fault way m dir count) stands ∙ ap (λ (k : ℕ). other_fault way (stand_in way nid) dir k) (long ∙ ap length (sym same)) ∙ packet in
    let both : Some e ≡ None = sym some ∙ all in
    cc

pub kept_sent : (way : Way) (nid dir len : ℕ) (b old mid new : List Bool) → len ≡ frame_bits way + length b → mid ≡ old ++ spelled (frame way nid dir len) → new ≡ mid ++ spelled (sent.kept OTHER_DATA b) → new ≡ old ++ spelled (reading_to way (kept nid dir b))
kept_sent way nid dir len b old mid new is framed put =
    let q = sent.kept OTHER_DATA b in
    both_put (frame way nid dir len) q old mid new framed put
    ∙ ap (λ (r : Reading). old ++ spelled ((NID_PACKET, nid) ∷ r)) (directed-append way dir ((L_PACKET, len) ∷ []) q)
    ∙ ap (λ (k : ℕ). old ++ spelled ((NID_PACKET, nid) ∷ directed way dir ((L_PACKET, k) ∷ q))) is

-- where the bits of the tree don't fit, there is none
pub kept_full : (way : Way) (nid dir : ℕ) (b c old : List Bool) (d : Data) → d ≡ bits_tree b → 8184 < length old + (frame_bits way + length b) → d ≡ bits_tree c → HasRoom old (reading_to way (kept nid dir c)) → ⊥
kept_full way nid dir b c old d is far is' room =
    let same : c ≡ b = trees.bits_same c b (sym is' ∙ is) in
    omega (arith, far, room, bits_are way (kept nid dir c), ap length same)

small_stand_in : (way : Way) (nid : ℕ) → stand_in way nid < 256 → nid < 256
small_stand_in ToTrack nid h = h
small_stand_in ToTrain nid h = elim (cases_lt nid 256) [
  | inl small ↦ small
  | inr big ↦
      let differs : (n : ℕ) → n < 256 → (nid == n) ≡ false = λ n small. ne_eqb nid n (λ e. omega (arith, e, big, small)) in
      let same : stand_in ToTrain nid ≡ nid = rw (differs 49 (omega arith), differs 57 (omega arith), differs 58 (omega arith), differs 63 (omega arith), differs 68 (omega arith), differs 80 (omega arith), differs 131 (omega arith)) refl in
      absurd (omega (arith, same, h, big))
]

kept_small : (way : Way) (nid dir : ℕ) (b : List Bool) → IsPacketTo way (unnamed way (kept nid dir b)) → (nid < 256) × (dir < 256)
kept_small way nid dir b h =
    let k = kept_parts way (stand_in way nid) dir (length b) h in
    (small_stand_in way nid (framed_small way (stand_in way nid) (kept_framed way (stand_in way nid) k.0)), small_direction way dir k.1)

-- ---- Packet 0.

abbrev marker_row : Layout
marker_row = one NID_VBCMK whole

marker_reading : (r : Reading) → Reads marker_row [] r → (n : ℕ) × (r ≡ (NID_VBCMK, n) ∷ []) × IsTrue (admits NID_VBCMK n)
unfolding Reads
marker_reading r (n, r', a, i, e) = (n, i ∙ ap (λ (q : Reading). let x : Reading = (NID_VBCMK, n) ∷ q in x) e, a)

marker_reads : (n : ℕ) → IsTrue (admits NID_VBCMK n) → Reads marker_row [] ((NID_VBCMK, n) ∷ [])
unfolding Reads
marker_reads n a = (n, [], a, refl, refl)

pub marker_put : (x y d : Data) (r : Reading) (old mid new : List Bool) → d ≡ marker_tree x y → y ≡ plain 0 → mid ≡ old ++ spelled ((NID_PACKET, 0) ∷ []) → Reads marker_row [] r → IsPairList r x → new ≡ mid ++ spelled r
    → (n : ℕ) × IsTrue (admits NID_VBCMK n) × IsPacketTree ToTrain (marker n) d × (new ≡ old ++ spelled (reading_to ToTrain (marker n)))
marker_put x y d r old mid new is zero' first reads (ps, fields, t) put =
    let (n, r_is, a) = marker_reading r reads in
    let tree : d ≡ marker_tree (array ps) (plain 0) = is ∙ ap (λ (z : Data). marker_tree z y) fields ∙ ap (marker_tree (array ps)) zero' in
    let rest : new ≡ mid ++ spelled ((NID_VBCMK, n) ∷ []) = put ∙ ap (λ (q : Reading). mid ++ spelled q) r_is in
    (n, a, (ps, tree, subst (λ (q : Reading). ArePairTrees q ps) r_is t), both_put ((NID_PACKET, 0) ∷ []) ((NID_VBCMK, n) ∷ []) old mid new first rest)

pub marker_refused : (x y d : Data) (n : ℕ) (old mid : List Bool) → d ≡ marker_tree x y → mid ≡ old ++ spelled ((NID_PACKET, 0) ∷ []) → ((q : Reading) → Reads marker_row [] q → IsPairList q x → HasRoom mid q → ⊥) → IsTrue (admits NID_VBCMK n) → IsPacketTree ToTrain (marker n) d → HasRoom old (reading_to ToTrain (marker n)) → ⊥
marker_refused x y d n old mid is first none a (ps, tree, t) room =
    let both : marker_tree x y ≡ marker_tree (array ps) (plain 0) = sym is ∙ tree in
    let fields : x ≡ array ps = cc in
    let pair : Reading = (NID_VBCMK, n) ∷ [] in
    none pair (marker_reads n a) (ps, fields, t) (omega (arith, room, length-sent NID_PACKET 0 pair, length-sent NID_PACKET 0 [], ap length first, length-append old (spelled ((NID_PACKET, 0) ∷ []))))

-- ---- The packet of a tree.

-- the packet of the tree is put
abbrev pub PutsTree : Way → Bool → Data → List Bool → List Bool → Type 0
PutsTree way has_marker d old new = (v : PacketValue) × IsLoosePacket way has_marker v × IsPacketTree way v d × (new ≡ old ++ spelled (reading_to way v))

-- the tree is that of no packet for which an item has room
abbrev pub NoTree : Way → Bool → Data → List Bool → Type 0
NoTree way has_marker d old = (v : PacketValue) → IsLoosePacket way has_marker v → IsPacketTree way v d → HasRoom old (reading_to way v) → ⊥

pub typed_tree_put : (way : Way) (has_marker : Bool) (d x : Data) (nid dir : ℕ) (old new : List Bool) → d ≡ typed_tree way dir x (plain nid) → (r : Reading) × IsFramed way nid dir r × IsPairList r x × (new ≡ old ++ spelled (reading_to way (typed nid dir r))) → PutsTree way has_marker d old new
typed_tree_put way has_marker d x nid dir old new is (r, framed, (ps, fields, t), put) =
    (typed nid dir r, (framed, λ _. typed_unmarked nid dir r), (ps, is ∙ ap (λ (y : Data). typed_tree way dir y (plain nid)) fields, t), put)

pub kept_tree_put : (way : Way) (has_marker : Bool) (d x : Data) (nid dir : ℕ) (old new : List Bool) → d ≡ kept_tree way x dir (plain nid) → (b : List Bool) × IsPacketTo way (kept (stand_in way nid) dir b) × (x ≡ bits_tree b) × (new ≡ old ++ spelled (reading_to way (kept nid dir b))) → PutsTree way has_marker d old new
kept_tree_put way has_marker d x nid dir old new is (b, packet, bits, put) =
    (kept nid dir b, (packet, λ _. kept_unmarked nid dir b), is ∙ ap (λ (y : Data). kept_tree way y dir (plain nid)) bits, put)

pub marker_tree_put : (way : Way) (has_marker : Bool) (d : Data) (old new : List Bool) → way ≡ ToTrain → has_marker ≡ true → (n : ℕ) × IsPacketTo ToTrain (marker n) × IsPacketTree ToTrain (marker n) d × (new ≡ old ++ spelled (reading_to ToTrain (marker n))) → PutsTree way has_marker d old new
marker_tree_put way has_marker d old new going has (n, packet, tree, put) =
    (marker n, (subst (λ (w : Way). IsPacketTo w (marker n)) (sym going) packet, λ lacks. absurd (let both : true ≡ false = sym has ∙ lacks in cc)), tree, put)

-- of one with neither fields nor bits
pub marker_tree_none : (way : Way) (has_marker : Bool) (d : Data) (old : List Bool) → ((dir nid : ℕ) (x : Data) → dir < 256 → nid < 256 → d ≡ typed_tree way dir x (plain nid) → ⊥) → ((dir nid : ℕ) (x : Data) → dir < 256 → nid < 256 → d ≡ kept_tree way x dir (plain nid) → ⊥)
    → ((n : ℕ) → IsTrue (is_marker way n) → (has_marker ≡ false → ⊥) → IsPacketTree way (marker n) d → HasRoom old (reading_to way (marker n)) → ⊥) → NoTree way has_marker d old
marker_tree_none way has_marker d old no_typed no_kept none = of
  where
    of : (v : PacketValue) → IsLoosePacket way has_marker v → IsPacketTree way v d → HasRoom old (reading_to way v) → ⊥
    of (marker n) loose tree room = none n loose.0 (λ lacks. loose.1 lacks n refl) tree room
    of (typed nid dir r) loose (ps, e, t) room = let small = typed_small way nid dir r loose.0 in no_typed dir nid (array ps) small.1 small.0 e
    of (kept nid dir b) loose e room = let small = kept_small way nid dir b loose.0 in no_kept dir nid (bits_tree b) small.1 small.0 e

-- ---- Packets one after another.

-- the packets of trees are put so far, and the trees es come after theirs
pub record ArePut (way : Way) (has_marker : Bool) (ds es : Items) (old now : List Bool) : Type 0 where
  pub packets : List PacketValue
  pub all : All (IsLoosePacket way has_marker) packets
  pub on : (ws : List PacketValue) → ArePacketTrees way ws es → ArePacketTrees way (packets ++ ws) ds
  pub back : (gs : List PacketValue) → All (IsLoosePacket way has_marker) gs → ArePacketTrees way gs ds → (ws : List PacketValue) × (gs ≡ packets ++ ws) × All (IsLoosePacket way has_marker) ws × ArePacketTrees way ws es
  pub bits : now ≡ old ++ spelled (readings_to way packets)

first_tree : (way : Way) (has_marker : Bool) (ws : List PacketValue) (d : Data) (es : Items) → All (IsLoosePacket way has_marker) ws → ArePacketTrees way ws (item d es) → (w : PacketValue) × (ws' : List PacketValue) × (ws ≡ w ∷ ws') × IsLoosePacket way has_marker w × All (IsLoosePacket way has_marker) ws' × IsPacketTree way w d × ArePacketTrees way ws' es
first_tree way has_marker [] d es a t = elim t [ ]
first_tree way has_marker (w ∷ ws) d es a t = (w, ws, refl, All-head (IsLoosePacket way has_marker) w ws a, All-tail (IsLoosePacket way has_marker) w ws a, t.0, t.1)

pub one_put : (way : Way) (has_marker : Bool) (ds : Items) (d : Data) (es fs : Items) (old mid new : List Bool) → ArePut way has_marker ds fs old mid → fs ≡ item d es → PutsTree way has_marker d mid new → ArePut way has_marker ds es old new
one_put way has_marker ds d es fs old mid new l e (v, loose, tree, put) = record {
  packets = l.packets ++ v ∷ [];
  all = All-push (IsLoosePacket way has_marker) l.packets v l.all loose;
  on = λ ws t. (
      let all : ArePacketTrees way (l.packets ++ v ∷ ws) ds = l.on (v ∷ ws) (subst (λ (x : Items). ArePacketTrees way (v ∷ ws) x) (sym e) (tree, t)) in
      subst (λ (x : List PacketValue). ArePacketTrees way x ds) (sym (append_assoc l.packets (v ∷ []) ws)) all);
  back = λ gs a t. (
      let (ws, begun, a', t') = l.back gs a t in
      let (w, ws', cons, packet, rest, first, more) = first_tree way has_marker ws d es a' (subst (λ (x : Items). ArePacketTrees way ws x) e t') in
      let same : w ≡ v = trees.packet_same way w v d packet.0 loose.0 first tree in
      let all : gs ≡ (l.packets ++ v ∷ []) ++ ws' =
      begun ∙ ap (λ (x : List PacketValue). l.packets ++ x) cons ∙ ap (λ (x : PacketValue). l.packets ++ x ∷ ws') same ∙ sym (append_assoc l.packets (v ∷ []) ws') in
      (ws', all, rest, more));
  bits = more_bits way l.packets v old mid new l.bits put;
}

-- where the packets of a list fit, each fits after those before it
room_left : (way : Way) (vs ws gs : List PacketValue) (w : PacketValue) (old mid : List Bool) → gs ≡ vs ++ w ∷ ws → mid ≡ old ++ spelled (readings_to way vs) → HasRoom old (readings_to way gs) → HasRoom mid (reading_to way w)
room_left way vs ws gs w old mid is bits room =
    let a = readings_to way vs in
    let first = reading_to way w in
    let more = readings_to way ws in
    let all : readings_to way gs ≡ a ++ (first ++ more) = ap (readings_to way) is ∙ flat_map-append (reading_to way) vs (w ∷ ws) in
    let l1 = ap (λ (r : Reading). length (spelled r)) all ∙ length-spelled a (first ++ more) in
    omega (arith, room, l1, length-spelled first more, ap length bits, length-append old (spelled a))

pub none_more : (way : Way) (has_marker : Bool) (ds : Items) (gs : List PacketValue) (d : Data) (es fs : Items) (old mid : List Bool) → ArePut way has_marker ds fs old mid → fs ≡ item d es → NoTree way has_marker d mid → All (IsLoosePacket way has_marker) gs → ArePacketTrees way gs ds → HasRoom old (readings_to way gs) → ⊥
none_more way has_marker ds gs d es fs old mid l e none a t room =
    let (ws, begun, a', t') = l.back gs a t in
    let (w, ws', cons, packet, rest, first, more) = first_tree way has_marker ws d es a' (subst (λ (x : Items). ArePacketTrees way ws x) e t') in
    none w packet first (room_left way l.packets ws' gs w old mid (begun ∙ ap (λ (x : List PacketValue). l.packets ++ x) cons) l.bits room)

pub all_put : (way : Way) (has_marker : Bool) (ds fs : Items) (old now : List Bool) → ArePut way has_marker ds fs old now → fs ≡ no_items → (vs : List PacketValue) × All (IsLoosePacket way has_marker) vs × ArePacketTrees way vs ds × (now ≡ old ++ spelled (readings_to way vs))
all_put way has_marker ds fs old now l e = (
  l.packets,
  l.all,
  subst (λ (x : List PacketValue). ArePacketTrees way x ds) (append-nil l.packets) (l.on [] (subst (λ (x : Items). ArePacketTrees way [] x) (sym e) tt)),
  l.bits,
)
