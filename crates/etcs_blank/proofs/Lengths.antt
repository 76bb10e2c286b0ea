-- How long readings are, and how they continue.
use Rattle.std.proofs.Common.{◌≡◌, ℕ, zero, suc, ◌+◌, ◌-◌, ◌*◌, ◌/◌, ◌≤◌, ◌<◌, Bool, true, false, List, [], ◌∷◌, ◌++◌, length, map, replicate, get_or, if◌then◌else◌, refl, sym, ap, subst, ◌∙◌, arith}
use Rattle.std.specs.Prelude.{Option, Some, None, option_map, Result, Ok, Err, IfOk}
use Rattle.std.specs.Bool.{MatchBool}
use Rattle.std.proofs.lemmas.Grind.{replicate_next}
use Rattle.std.proofs.lemmas.List.{append_assoc, length-append, map-append}
use Rattle.etcs_vars.specs.declared.var.Var.{Var}
use Rattle.etcs_vars.specs.declared.var.Var.TheVariants.{NID_PACKET, NID_MESSAGE, L_MESSAGE, FILL, PAD}
use Rattle.etcs_vars.specs.Reading.{Reading, kept, spelled}
use Rattle.etcs_vars.specs.laws.Spellings.{spelled-append}
use Rattle.etcs_tables.specs.declared.item.RowItem.{RowItem}
use Rattle.etcs_tables.specs.declared.item.RowItem.TheVariants as item
use Rattle.etcs_tables.specs.declared.row.Way.{Way}
use Rattle.etcs_tables.specs.declared.row.Way.TheVariants.{ToTrain}
use Rattle.etcs_tables.specs.Rows.{message_row_to}
use Rattle.etcs_tables.specs.Headers.{head_row, header_row}
use Rattle.etcs_tables.specs.declared.item.Guard.{Guard}
use Rattle.etcs_tables.specs.Layouts.{Layout, guarded, items, layout, passes}
use Rattle.etcs_tables.specs.laws.Flat.{layout-items}
use Rattle.etcs_blank.specs.Blanks.{first_number, blank_row, blank_packet, blank_packets, blank_fields, blank_front, blank_message, blank_own, filled, bytes_of, closed, closes}

-- ---- How they continue.

-- one bit more
pub one_bit : (v : Var) (b : Bool) (n : ℕ) → kept v (replicate (n + 1) b) ≡ kept v (replicate n b) ++ (v, if b then 1 else 0) ∷ []
one_bit v b n = ap (kept v) (replicate_next n b) ∙ map-append (λ x. (v, if x then 1 else 0)) (replicate n b) (b ∷ [])

-- the variables of a row's table
pub fields_of : (table : List RowItem) (row : Option Layout) → Some table ≡ option_map items row → blank_row (layout table) 0 ≡ blank_fields row
fields_of table None e = absurd cc
fields_of table (Some row) e =
    let same : table ≡ items row = cc in
    ap (λ (t : List RowItem). blank_row (layout t) 0) same ∙ ap (λ (l : Layout). blank_row l 0) (layout-items row)

-- the variables of a header, each with its number
pub listed : (vs : List Var) (n : ℕ) → blank_row (layout (map (λ v. item.One v) vs)) n ≡ map (λ v. (v, first_number v)) vs
listed [] n = refl
listed (v ∷ vs) n = ap (λ (r : Reading). (v, first_number v) ∷ r) (listed vs (first_number v))

-- the variables of a guarded group and of what follows it
pub guarded_row : (g : Guard) (row group rest : Layout) (n : ℕ) (old now : Reading) → row ≡ guarded g group rest → now ≡ old ++ (if passes g.test n then blank_row group n else []) → now ++ blank_row rest n ≡ old ++ blank_row row n
guarded_row g row group rest n old now e f =
    ap (λ (r : Reading). r ++ blank_row rest n) f ∙ append_assoc old (if passes g.test n then blank_row group n else []) (blank_row rest n) ∙ ap (λ (l : Layout). old ++ blank_row l n) (sym e)

-- ---- How long they are.

-- what comes first, and what comes last, isn't longer than both
pub parts : (a b : Reading) → (length (spelled a) ≤ length (spelled (a ++ b))) × (length (spelled b) ≤ length (spelled (a ++ b)))
parts a b =
    let both = ap length (spelled-append a b) ∙ length-append (spelled a) (spelled b) in
    (omega (arith, both), omega (arith, both))

pub packet_within : (way : Way) (nids : List ℕ) (i : ℕ) → i < length nids → length (spelled (blank_packet way (get_or nids i 0))) ≤ length (spelled (blank_packets way nids))
packet_within way [] i lt = absurd (omega (arith, lt))
packet_within way (nid ∷ nids) zero lt = (parts (blank_packet way nid) (blank_packets way nids)).0
packet_within way (nid ∷ nids) (suc i) lt = omega (arith, packet_within way nids i (omega (arith, lt)), (parts (blank_packet way nid) (blank_packets way nids)).1)

-- ---- Of items.

-- what is longer than any item makes such a telegram
pub long_filled : (user pad : ℕ) (r : Reading) → 8184 < length (spelled r) → 8184 < length (spelled (filled user pad r))
unfolding filled
long_filled user pad r long =
    let fill = kept FILL (replicate (user - length (spelled r)) true) in
    let whole : length (spelled (r ++ fill)) ≤ length (spelled (filled user pad r)) = (parts (r ++ fill) (kept PAD (replicate pad false))).0 in
    omega (arith, long, (parts r fill).0, whole)

-- packets that are longer than any item
pub long_packets : (user pad : ℕ) (nids : List ℕ) → 8184 < length (spelled (blank_packets ToTrain nids)) → 8184 < length (spelled (filled user pad (blank_front nids)))
unfolding blank_front
long_packets user pad nids long =
    let ps = blank_packets ToTrain nids in
    let closing : Reading = (NID_PACKET, 255) ∷ [] in
    let front : length (spelled (ps ++ closing)) ≤ length (spelled (blank_front nids)) = (parts (map (λ v. (v, first_number v)) header_row) (ps ++ closing)).1 in
    long_filled user pad (blank_front nids) (omega (arith, long, (parts ps closing).0, front))

-- header, packets and packet 255, as they are appended
pub front_is : (nids : List ℕ) (items : List RowItem) (now after last : Reading) → items ≡ map (λ v. item.One v) header_row → now ≡ blank_row (layout items) 0 → after ≡ now ++ blank_packets ToTrain nids → last ≡ after ++ (NID_PACKET, 255) ∷ [] → last ≡ blank_front nids
unfolding blank_front
front_is nids items now after last e n a l =
    l ∙ ap (λ (r : Reading). r ++ (NID_PACKET, 255) ∷ []) (a ∙ ap (λ (r : Reading). r ++ blank_packets ToTrain nids) (n ∙ ap (λ (x : List RowItem). blank_row (layout x) 0) e ∙ listed header_row 0)) ∙ append_assoc (map (λ v. (v, first_number v)) header_row) (blank_packets ToTrain nids) ((NID_PACKET, 255) ∷ [])

-- the telegram, as it is appended
pub filled_is : (user pad bits rest : ℕ) (front now last : Reading) → length (spelled front) ≡ bits → rest ≡ user - bits → now ≡ front ++ kept FILL (replicate rest true) → last ≡ now ++ kept PAD (replicate pad false) → last ≡ filled user pad front
unfolding filled
filled_is user pad bits rest front now last b r n l =
    l ∙ ap (λ (x : Reading). x ++ kept PAD (replicate pad false)) (n ∙ ap (λ (k : ℕ). front ++ kept FILL (replicate k true)) (r ∙ ap (λ (k : ℕ). user - k) (sym b)))

-- what is longer than any item makes such a message
pub long_closed : (nid : ℕ) (var : Var) (r : Reading) → 8184 < length (spelled r) → 8184 < length (spelled (closed nid var r))
unfolding closed
long_closed nid var r long =
    let pad = kept var (replicate (8 * bytes_of (length (spelled r)) - (18 + length (spelled r))) false) in
    let head : Reading = (NID_MESSAGE, nid) ∷ (L_MESSAGE, bytes_of (length (spelled r))) ∷ [] in
    let whole : length (spelled (r ++ pad)) ≤ length (spelled (closed nid var r)) = (parts head (r ++ pad)).1 in
    omega (arith, long, (parts r pad).0, whole)

-- the message, as it is appended
pub closed_is : (nid bits bytes pad : ℕ) (var : Var) (rest a b d last : Reading) → length (spelled rest) ≡ bits → bytes ≡ (18 + bits + 7) / 8 → pad ≡ 8 * bytes - (18 + bits) → a ≡ (NID_MESSAGE, nid) ∷ [] → b ≡ a ++ (L_MESSAGE, bytes) ∷ [] → d ≡ b ++ rest → last ≡ d ++ kept var (replicate pad false) → last ≡ closed nid var rest
unfolding closed
closed_is nid bits bytes pad var rest a b d last n m p e f g h = cc

-- what a message has before its packets, as it is appended
pub own_of : (way : Way) (table : List RowItem) (row : Option Layout) (head : List RowItem) → head ≡ map (λ v. item.One v) (head_row way) → Some table ≡ option_map items row → blank_row (layout head) 0 ++ blank_row (layout table) 0 ≡ blank_own way row
own_of way table None head h e = absurd cc
own_of way table (Some row) head h e =
    ap (λ (r : Reading). r ++ blank_row (layout table) 0) (ap (λ (x : List RowItem). blank_row (layout x) 0) h ∙ listed (head_row way) 0) ∙ ap (λ (r : Reading). map (λ v. (v, first_number v)) (head_row way) ++ r) (fields_of table (Some row) e)

-- the message of a number and packets
message_is : (way : Way) (nid : ℕ) (nids all : List ℕ) (var : Var) (rest : Reading) → all ≡ nid ∷ nids → var ≡ closes (message_row_to way nid) → rest ≡ blank_own way (message_row_to way nid) ++ blank_packets way nids → closed nid var rest ≡ blank_message way all
unfolding blank_message
message_is way nid nids all var rest a v p = ap (λ (w : Var). closed nid w rest) v ∙ ap (λ (r : Reading). closed nid (closes (message_row_to way nid)) r) p ∙ ap (blank_message way) (sym a)

-- packets that are longer than any item make such a message
pub long_message : (way : Way) (nid : ℕ) (nids all : List ℕ) → all ≡ nid ∷ nids → 8184 < length (spelled (blank_packets way nids)) → 8184 < length (spelled (blank_message way all))
unfolding blank_message
long_message way nid nids all e long =
    let own = blank_own way (message_row_to way nid) in
    let ps = blank_packets way nids in
    subst (λ (x : List ℕ). 8184 < length (spelled (blank_message way x))) (sym e) (long_closed nid (closes (message_row_to way nid)) (own ++ ps) (omega (arith, long, (parts own ps).1)))

-- the message of a number and packets, or what makes it too long
pub message_done : {E : Type 0} (r : Result Bool E) (way : Way) (nid : ℕ) (nids all : List ℕ) (var : Var) (rest last : Reading) → all ≡ nid ∷ nids → var ≡ closes (message_row_to way nid) → rest ≡ blank_own way (message_row_to way nid) ++ blank_packets way nids → IfOk r (λ yes. MatchBool yes (last ≡ closed nid var rest) (8184 < length (spelled rest))) → IfOk r (λ yes. MatchBool yes (last ≡ blank_message way all) (8184 < length (spelled (blank_message way all))))
message_done (Err e) way nid nids all var rest last a v p h = tt
message_done (Ok true) way nid nids all var rest last a v p h = h ∙ message_is way nid nids all var rest a v p
message_done (Ok false) way nid nids all var rest last a v p h = subst (λ (x : Reading). 8184 < length (spelled x)) (message_is way nid nids all var rest a v p) (long_closed nid var rest h)

-- there is no message without a number
pub no_message : (way : Way) (nids : List ℕ) → length nids ≡ 0 → [] ≡ blank_message way nids
unfolding blank_message
no_message way [] e = refl
no_message way (nid ∷ nids) e = absurd (omega (arith, e))
