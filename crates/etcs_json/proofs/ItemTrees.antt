-- What the trees of telegrams and of messages say, by their members.
use Rattle.std.proofs.Common.{◌≡◌, ℕ, ◌+◌, ◌≤◌, ◌<◌, Bool, true, false, List, [], ◌++◌, length, map, Option, None, Some, refl, sym, ap, subst, ◌∙◌, arith}
use Rattle.std.specs.Prelude.{All, ◌↔◌, is_some, option_map}
use Rattle.std.proofs.lemmas.List.{length-append}
use Rattle.serde_json.specs.Data.{Data, array}
use Rattle.etcs_bits.specs.Bits.{num}
use Rattle.etcs_bits.proofs.Numbers.{length-num}
use Rattle.etcs_vars.specs.Reading.{Reading, kept, numbers, spelled, IsAdmitted}
use Rattle.etcs_vars.specs.declared.var.Var.TheVariants.{FILL, PADDING}
use Rattle.etcs_tables.specs.declared.row.Way.{Way}
use Rattle.etcs_tables.specs.declared.row.Way.TheVariants.{ToTrain, ToTrack}
use Rattle.etcs_tables.specs.declared.item.RowItem.{RowItem}
use Rattle.etcs_tables.specs.declared.item.RowItem.TheVariants.{One}
use Rattle.etcs_tables.specs.Headers.{head_row, header_row}
use Rattle.etcs_tables.specs.Layouts.{Layout, Reads, items, layout}
use Rattle.etcs_tables.specs.Rows.{message_row_to}
use Rattle.etcs_rows.proofs.FrameLemmas.{no_row}
use Rattle.etcs_reader.specs.Fields.{ReadsFields}
use Rattle.etcs_packets.specs.PacketValues.{PacketValue}
use Rattle.etcs_packets.specs.PacketReadings.{readings_to}
use Rattle.etcs_packets.proofs.PacketBits.{length-spelled}
use Rattle.etcs_sequence.specs.laws.BitLaws.{bits_spelled}
use Rattle.etcs_telegram.specs.declared.size.Size.{Size}
use Rattle.etcs_telegram.specs.Telegrams.{HeaderValue, TelegramReads, TelegramValue, header_of, header_reading, pad_bits, user_bits}
use Rattle.etcs_telegram.specs.Writing.{telegram_reading}
use Rattle.etcs_telegram.proofs.Encoding.{closed_length}
use Rattle.etcs_telegram.proofs.HeaderLemmas.{header_length}
use Rattle.etcs_telegram.proofs.Rows.{row_header, admitted_row, header_reads}
use Rattle.etcs_messages.specs.Messages.{MessageValue, kept_message, typed_message}
use Rattle.etcs_messages.proofs.Bytes.{one_bits}
use Rattle.etcs_messages.proofs.Fronts.{as_row, row_fields, fields_row}
use Rattle.etcs_messages.proofs.Ways.{row_small}
use Rattle.etcs_text.specs.Entries.{EntryValue, of_telegram, of_message, kind_of, message_kind}
use Rattle.etcs_text.proofs.ItemKinds.{kind_same, telegram_message, way_same}
use Rattle.etcs_packet_text.specs.Trees.{bits_tree}
use Rattle.etcs_json_trees.specs.Loose.{HasRoom, IsLoosePacket, unnamed}
use Rattle.etcs_json_trees.specs.TreeReading.{ArePairTrees, IsPacketList, IsPairList, plain}
use Rattle.etcs_json_trees.proofs.OneTrees.{bits_same, list_same, packet_list_same}
use Rattle.etcs_json.specs.Loose.{IsLoose, IsStored, unnamed_telegram}
use Rattle.etcs_json.specs.Puts.{HasPlace, IsWhole, PutsRest, rest_of}
use Rattle.etcs_json.specs.TreeReading.{IsTelegramTree, IsMessageTree, IsTreeOf, telegram_tree, message_tree, kept_message_tree}
use Rattle.etcs_json.proofs.FittingTrees.{most_bits}
use Rattle.etcs_json.proofs.PutItems.{put_of, telegram_put, typed_put}
use Rattle.etcs_json.proofs.LooseItems.{message_bytes, named_packets, parts_of, same_long, telegram_packets}

-- ---- Headers.

pub record HeaderRead (r : Reading) : Type 0 where
  pub is : r ≡ header_reading (header_of (numbers r))
  pub admitted : IsAdmitted (header_reading (header_of (numbers r)))

pub header_read : (r : Reading) → Reads (as_row header_row) [] r → HeaderRead r
header_read r h =
    let f = row_fields header_row [] r h in
    let is = row_header r f in
    record { is = is; admitted = subst IsAdmitted is (admitted_row header_row r f) }

header_row_of : (h : HeaderValue) → IsAdmitted (header_reading h) → Reads (as_row header_row) [] (header_reading h)
header_row_of h a = fields_row header_row [] (header_reading h) (header_reads h a)

-- a layout that is read as the variables of a message's head
abbrev pub IsHeadRow : Way → Layout → Type 0
IsHeadRow way row = (r : Reading) → Reads row [] r ↔ ReadsFields (head_row way) r

pub head_fields : (way : Way) (table : List RowItem) → table ≡ map One (head_row way) → IsHeadRow way (layout table)
head_fields way table is = subst (λ (t : List RowItem). IsHeadRow way (layout t)) (sym is) (of way)
  where
    of : (w : Way) → IsHeadRow w (layout (map One (head_row w)))
    of ToTrain = λ r. (row_fields (head_row ToTrain) [] r, fields_row (head_row ToTrain) [] r)
    of ToTrack = λ r. (row_fields (head_row ToTrack) [] r, fields_row (head_row ToTrack) [] r)

-- ---- A telegram.

-- what the members of its tree say
pub record TelegramSays (t : TelegramValue) (x y w : Data) : Type 0 where
  pub fill : x ≡ bits_tree t.fill
  pub header : IsPairList (header_reading t.header) y
  pub packets : IsPacketList ToTrain t.packets w

pub telegram_says : (size : Size) (t : TelegramValue) (d x y w : Data) → d ≡ telegram_tree size x y w → IsTelegramTree t d → TelegramSays t x y w
telegram_says size t d x y w is (hs, ps, e, h, p) =
    let both : telegram_tree t.size (bits_tree t.fill) (array hs) (array ps) ≡ telegram_tree size x y w = sym e ∙ is in
    record { fill = cc; header = (hs, cc, h); packets = (ps, cc, p) }

-- a tree that isn't a telegram's of the size
pub no_telegram : (size : Size) (t : TelegramValue) (d : Data) → t.size ≡ size → ((x y w : Data) → d ≡ telegram_tree size x y w → ⊥) → IsTelegramTree t d → ⊥
no_telegram size t d sized never (hs, ps, is, h, p) = never (bits_tree t.fill) (array hs) (array ps) (is ∙ ap (λ (s : Size). telegram_tree s (bits_tree t.fill) (array hs) (array ps)) sized)

pub telegram_only : (size : Size) (d : Data) → ((t : TelegramValue) (r : Reading) → t.size ≡ size → TelegramReads (unnamed_telegram t) r → IsTelegramTree t d → ⊥) → (o : EntryValue) → IsLoose (kind_of size) o → IsTreeOf o d → ⊥
telegram_only size d wrong (of_telegram t) (r, (k, reads)) tree = wrong t r (kind_same t.size size k) reads tree
telegram_only size d wrong (of_message way m) (r, (k, reads)) tree = telegram_message size way (sym k)

-- its parts fill it
telegram_full : (t : TelegramValue) (r : Reading) → TelegramReads (unnamed_telegram t) r → 50 + length (spelled (readings_to ToTrain t.packets)) + 8 + length t.fill ≡ user_bits t.size
telegram_full t r x = omega (arith, header_length t.header, closed_length (map (unnamed ToTrain) t.packets), same_long ToTrain t.packets, x.user_bits_is)

-- its header has room on an empty page
pub header_room : (t : TelegramValue) (r : Reading) (page : List Bool) (table : List RowItem) → table ≡ map One header_row → page ≡ [] → TelegramReads (unnamed_telegram t) r → Reads (layout table) [] (header_reading t.header) × HasRoom page (header_reading t.header)
header_room t r page table is none x = (
  subst (λ (items : List RowItem). Reads (layout items) [] (header_reading t.header)) (sym is) (header_row_of t.header x.header_admitted),
  omega (arith, header_length t.header, ap (λ (b : List Bool). length b) none),
)

-- what is put is its header
pub header_same : (t : TelegramValue) (r q : Reading) (y : Data) (table : List RowItem) → table ≡ map One header_row → TelegramReads (unnamed_telegram t) r → IsPairList (header_reading t.header) y → Reads (layout table) [] q → IsPairList q y → q ≡ header_reading t.header
header_same t r q y table is x own reads list =
    list_same (as_row header_row) q (header_reading t.header) y (subst (λ (items : List RowItem). Reads (layout items) [] q) is reads) (header_row_of t.header x.header_admitted) list own

pub header_put : (q : Reading) (h : HeaderValue) (zero one : List Bool) → q ≡ header_reading h → zero ≡ [] → one ≡ zero ++ spelled q → length one ≡ 50
header_put q h zero one same none put = omega (arith, header_length h, ap (λ (x : Reading). length (spelled x)) same, ap (λ (b : List Bool). length b) put, ap (λ (b : List Bool). length b) none, length-append zero (spelled q))

-- and its packets have room after the header
pub packets_room : (t : TelegramValue) (r : Reading) (one : List Bool) → TelegramReads (unnamed_telegram t) r → length one ≡ 50 → All (IsLoosePacket ToTrain true) t.packets × HasRoom one (readings_to ToTrain t.packets)
packets_room t r one x long = (telegram_packets t.packets x.packets_hold, omega (arith, long, telegram_full t r x, most_bits t.size))

-- what is put before FILL leaves as many bits as there are
pub telegram_fills : (size : Size) (t : TelegramValue) (r : Reading) (x y w : Data) (vs : List PacketValue) (fill one two three : List Bool) → t.size ≡ size → TelegramReads (unnamed_telegram t) r → TelegramSays t x y w → x ≡ bits_tree fill → All (IsLoosePacket ToTrain true) vs → IsPacketList ToTrain vs w → length one ≡ 50 → two ≡ one ++ spelled (readings_to ToTrain vs) → three ≡ two ++ num 8 255 → length three + length fill ≡ user_bits size
telegram_fills size t r x y w vs fill one two three sized reads s filled all listed long packets closed =
    let list : vs ≡ t.packets = packet_list_same ToTrain vs t.packets w (named_packets ToTrain true vs all) reads.packets_hold listed s.packets in
    let bits : fill ≡ t.fill = bits_same fill t.fill (sym filled ∙ s.fill) in
    omega (arith, long, telegram_full t r reads, ap user_bits sized, ap (λ (b : List Bool). length b) bits, ap (λ (us : List PacketValue). length (spelled (readings_to ToTrain us))) list, ap (λ (b : List Bool). length b) packets, length-append one (spelled (readings_to ToTrain vs)), ap (λ (b : List Bool). length b) closed, length-append two (num 8 255), length-num 8 255)

-- parts that fill it are a telegram's
pub telegram_stored : (size : Size) (d x y w : Data) (q : Reading) (vs : List PacketValue) (fill zero one two three four five : List Bool) → d ≡ telegram_tree size x y w → Reads (as_row header_row) [] q → IsPairList q y → All (IsLoosePacket ToTrain true) vs → IsPacketList ToTrain vs w → x ≡ bits_tree fill
    → zero ≡ [] → one ≡ zero ++ spelled q → two ≡ one ++ spelled (readings_to ToTrain vs) → three ≡ two ++ num 8 255 → length three + length fill ≡ user_bits size → four ≡ three ++ spelled (kept FILL fill) → five ≡ four ++ num (pad_bits size) 0 → (o : EntryValue) × IsStored (kind_of size) d o five
telegram_stored size d x y w q vs fill zero one two three four five is reads (hs, headed, pairs) all (ps, listed, packets) filled e0 e1 e2 e3 room e4 e5 =
    let k = header_read q reads in
    let h = header_of (numbers q) in
    let ws = map (unnamed ToTrain) vs in
    let bits = e4 ∙ ap (λ (b : List Bool). three ++ b) (bits_spelled FILL fill refl) in
    let put = telegram_put size h vs ws fill zero one two three four five k.admitted (named_packets ToTrain true vs all) (same_long ToTrain vs) e0 (e1 ∙ ap (λ (r : Reading). zero ++ spelled r) k.is) e2 e3 room bits e5 in (
      of_telegram (put_of size h vs fill),
      record {
        loose = (telegram_reading (put_of size h ws fill), (refl, put.0));
        tree = (hs, ps, is ∙ (λ i. telegram_tree size (filled i) (headed i) (listed i)), subst (λ (r : Reading). ArePairTrees r hs) k.is pairs, packets);
        bits = put.1;
      },
    )

-- ---- A message.

-- what is wanted of the members of a typed message's tree
pub record TypedWants (way : Way) (x y w u v : Data) (old : List Bool) : Type 0 where
  pub nid : ℕ
  pub row : Layout
  pub head : Reading
  pub body : Reading
  pub packets : List PacketValue
  pub padding : List Bool
  pub found : message_row_to way nid ≡ Some row
  pub small : nid < 256
  pub nid_is : w ≡ plain nid
  pub reads : Reads row [] body
  pub own : IsPairList body x
  pub sent : ReadsFields (head_row way) head
  pub header : IsPairList head y
  pub all : All (IsLoosePacket way false) packets
  pub listed : IsPacketList way packets u
  pub padding_is : v ≡ bits_tree padding
  pub short : length padding ≤ 7
  pub room : length old + length (spelled head) + length (spelled body) + length (spelled (readings_to way packets)) ≤ 8184

pub typed_wants : (way : Way) (m : MessageValue) (x y w u v : Data) (old : List Bool) → HasPlace way m old → IsMessageTree way m (message_tree way x y w u v) → TypedWants way x y w u v old
typed_wants way (typed_message nid head body vs padding) x y w u v old ((row, found, reads, fields, all, short), room) (fs, hs, ps, e, f, h, p) =
    let run = readings_to way vs in
    record {
      nid = nid;
      row = row;
      head = head;
      body = body;
      packets = vs;
      padding = padding;
      found = found;
      small = omega (arith, row_small way nid row found);
      nid_is = cc;
      reads = reads;
      own = (fs, cc, f);
      sent = fields;
      header = (hs, cc, h);
      all = all;
      listed = (ps, cc, p);
      padding_is = cc;
      short = short;
      room = omega (arith, room, length-spelled (head ++ body ++ run) (kept PADDING padding), length-spelled (head ++ body) run, length-spelled head body);
    }
typed_wants way (kept_message nid b) x y w u v old place e = absurd cc

-- of one that is kept as bits
pub record KeptWants (way : Way) (x z : Data) (old : List Bool) : Type 0 where
  pub nid : ℕ
  pub bits : List Bool
  pub untyped : message_row_to way nid ≡ None
  pub small : nid < 256
  pub nid_is : z ≡ plain nid
  pub bits_is : x ≡ bits_tree bits
  pub room : length old + length bits ≤ 8184

pub kept_wants : (way : Way) (m : MessageValue) (x z : Data) (old : List Bool) → HasPlace way m old → IsMessageTree way m (kept_message_tree way x z) → KeptWants way x z old
kept_wants way (kept_message nid b) x z old ((untyped, small), room) e = record { nid = nid; bits = b; untyped = untyped; small = omega (arith, small); nid_is = cc; bits_is = cc; room = omega (arith, room, one_bits b) }
kept_wants way (typed_message nid head body vs padding) x z old place (fs, hs, ps, e, f, h, p) = absurd cc

-- a number that was found is the one that is wanted
pub same_number : (n nid : ℕ) → Some n ≡ Some nid → n ≡ nid
same_number n nid e = cc

-- and its row
pub same_row : (way : Way) (n nid : ℕ) (row here : Layout) → n ≡ nid → message_row_to way nid ≡ Some row → message_row_to way n ≡ Some here → row ≡ here
same_row way n nid row here same found is = let both : Some row ≡ Some here = sym found ∙ sym (ap (message_row_to way) same) ∙ is in cc

-- bits after those of a reading that is another one's
pub put_long : (q r : Reading) (old new : List Bool) → q ≡ r → new ≡ old ++ spelled q → length new ≡ length old + length (spelled r)
put_long q r old new same put = ap (λ (b : List Bool). length b) put ∙ length-append old (spelled q) ∙ ap (λ (z : Reading). length old + length (spelled z)) same

-- what is put of the parts of a typed message
pub typed_puts : (way : Way) (nid : ℕ) (row : Layout) (x y w u v : Data) (head body : Reading) (vs : List PacketValue) (padding zero one two three four : List Bool) → w ≡ plain nid → message_row_to way nid ≡ Some row → Reads row [] body → IsPairList body x → ReadsFields (head_row way) head → IsPairList head y → All (IsLoosePacket way false) vs → IsPacketList way vs u → v ≡ bits_tree padding → length padding ≤ 7
    → one ≡ zero ++ spelled head → two ≡ one ++ spelled body → three ≡ two ++ spelled (readings_to way vs) → four ≡ three ++ spelled (kept PADDING padding) → PutsRest way (message_tree way x y w u v) nid zero four
typed_puts way nid row x y w u v head body vs padding zero one two three four number found reads (fs, own, f) fields (hs, header, h) all (ps, listed, p) padded short e1 e2 e3 e4 = (
  typed_message nid head body vs padding,
  (row, found, reads, fields, all, short),
  refl,
  (fs, hs, ps, λ i. message_tree way (own i) (header i) (number i) (listed i) (padded i), f, h, p),
  typed_put way nid head body vs padding zero one two three four e1 e2 e3 e4,
)

-- a tree with the members of neither
pub no_message : (way : Way) (m : MessageValue) (d : Data) → ((x y w u v : Data) → d ≡ message_tree way x y w u v → ⊥) → ((x z : Data) → d ≡ kept_message_tree way x z → ⊥) → IsMessageTree way m d → ⊥
no_message way (typed_message nid head body vs padding) d no_typed no_kept (fs, hs, ps, is, f, h, p) = no_typed (array fs) (array hs) (plain nid) (array ps) (bits_tree padding) is
no_message way (kept_message nid b) d no_typed no_kept is = no_kept (bits_tree b) (plain nid) is

pub message_only : (way : Way) (d : Data) → ((m : MessageValue) (r : Reading) → IsLoose (message_kind way) (of_message way m) → IsMessageTree way m d → ⊥) → (o : EntryValue) → IsLoose (message_kind way) o → IsTreeOf o d → ⊥
message_only way d wrong (of_telegram t) (r, (k, reads)) tree = telegram_message t.size way k
message_only way d wrong (of_message w m) (r, (k, reads)) tree =
    let same = way_same w way k in
    wrong m r (subst (λ (v : Way). IsLoose (message_kind way) (of_message v m)) same (r, (k, reads))) (subst (λ (v : Way). IsMessageTree v m d) same tree)

-- its bits are whole bytes
pub message_whole : (way : Way) (m : MessageValue) (two : List Bool) → IsLoose (message_kind way) (of_message way m) → two ≡ num 18 0 ++ spelled (rest_of way m) → IsWhole two
message_whole way m two (r, (k, reads)) is =
    let (len, bytes, few) = message_bytes way m r reads in
    let long : length two ≡ 18 + length (spelled (rest_of way m)) = ap (λ (b : List Bool). length b) is ∙ length-append (num 18 0) (spelled (rest_of way m)) ∙ ap (λ (n : ℕ). n + length (spelled (rest_of way m))) (length-num 18 0) in
    (omega (arith, long, bytes), omega (arith, long, bytes, few))

-- it has room after the frame
pub message_place : (way : Way) (m : MessageValue) (one : List Bool) → IsLoose (message_kind way) (of_message way m) → length one ≡ 18 → HasPlace way m one
message_place way m one (r, (k, reads)) long =
    let (len, bytes, few) = message_bytes way m r reads in
    (parts_of way m r reads, omega (arith, long, bytes, few))

-- the frame's zeros on an empty page
pub zeros_long : (zero one : List Bool) → zero ≡ [] → one ≡ zero ++ num 18 0 → length one ≡ 18
zeros_long zero one none put = ap (λ (b : List Bool). length b) (put ∙ ap (λ (b : List Bool). b ++ num 18 0) none) ∙ length-num 18 0

-- no table, no row
pub no_table : {A : Type 0} (table : A → List RowItem) (o : Option A) (row : Option Layout) → is_some o ≡ false → option_map table o ≡ option_map items row → row ≡ None
no_table table None row e is = no_row row is
no_table table (Some x) row e is = absurd cc

pub has_row : {A : Type 0} (table : A → List RowItem) (o : Option A) (row : Option Layout) → is_some o ≡ true → option_map table o ≡ option_map items row → row ≡ None → ⊥
has_row table None row e is none = absurd cc
has_row table (Some x) row e is none = let both : ◌≡◌ {A = Option (List RowItem)} (Some (table x)) None = is ∙ ap (option_map items) none in absurd cc
