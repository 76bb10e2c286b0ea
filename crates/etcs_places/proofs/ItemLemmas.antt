-- The walk over an item's variables finds the places by its packets and rows.
use Rattle.std.proofs.Common.{◌≡◌, ℕ, ◌+◌, Bool, true, false, List, [], ◌∷◌, ◌++◌, length, drop, Option, Some, None, refl, sym, ap, ◌∙◌, subst, arith, append_assoc, append-nil, length-append}
use Rattle.std.specs.Prelude.{IsTrue, All, not, is_some, nat_le, if◌then◌else◌, ◌&&◌}
use Rattle.std.specs.List.{list_all}
use Rattle.std.proofs.lemmas.Bool.{and_parts}
use Rattle.std.proofs.lemmas.List.{drop_at}
use Rattle.std.proofs.lemmas.List.Elements.{All-head, All-tail}
use Rattle.etcs_vars.specs.declared.var.Var.{Var}
use Rattle.etcs_vars.specs.declared.var.Var.TheVariants.{NID_PACKET, FILL, PAD, PADDING, OTHER_DATA}
use Rattle.etcs_vars.specs.declared.fault.BuildFault.{BuildFault}
use Rattle.etcs_vars.specs.declared.fault.BuildFault.TheVariants.{NotAdmitted, TooLong}
use Rattle.etcs_vars.specs.Faults.{◌or_else◌}
use Rattle.etcs_vars.specs.Reading.{Reading, spelled}
use Rattle.etcs_vars.specs.Reading as sent
use Rattle.etcs_tables.specs.declared.row.Way.{Way}
use Rattle.etcs_tables.specs.declared.row.Way.TheVariants.{ToTrain, ToTrack}
use Rattle.etcs_tables.specs.Layouts.{Layout, one, counted, looks, is_sound, nests}
use Rattle.etcs_tables.specs.Rows.{row_to, rows_to}
use Rattle.etcs_tables.specs.Frames.{is_framed, is_kept, kept_limit}
use Rattle.etcs_tables.proofs.EachRow.{of_each}
use Rattle.etcs_flat.specs.Others.{other_fault, direction_fault}
use Rattle.etcs_packets.specs.PacketValues.{PacketValue, marker, typed, kept, IsPacketTo}
use Rattle.etcs_packets.specs.PacketReadings.{reading_to, readings_to, in_frame}
use Rattle.etcs_places.specs.declared.place.Place.{Place}
use Rattle.etcs_places.specs.declared.walk.Here.{Here}
use Rattle.etcs_places.specs.Places.{outside, in_packet, all_at}
use Rattle.etcs_places.specs.Walks.{opens, closes, is_length, places_by, row_places}
use Rattle.etcs_places.specs.Scans.{scan}
use Rattle.etcs_places.specs.Items.{PacketPlaces, PacketsPlaces}
use Rattle.etcs_places.proofs.RowLemmas.{row_finds}
use Rattle.etcs_places.proofs.ScanSteps.{scan_queue}

-- ---- Variables of which the place is that of the one before.

-- no packet begins or ends with this variable, and no row follows it
abbrev pub plain : Var → Bool
plain v = not (opens v) && not (closes v) && not (is_length v)

-- all of them are such
abbrev pub all_plain : Reading → Bool
all_plain [] = true
all_plain (p ∷ r) = plain p.0 && all_plain r

not_true : (b : Bool) → not b ≡ true → b ≡ false
not_true true e = absurd cc
not_true false e = refl

pub scan_plain : (way : Way) (h : Here) (r tail : Reading) → all_plain r ≡ true → scan way h [] (r ++ tail) ≡ all_at h.at r ++ scan way h [] tail
unfolding scan
scan_plain way h [] tail e = refl
scan_plain way h (p ∷ r) tail e =
    let parts = and_parts (plain p.0) (all_plain r) e in
    let two = and_parts (not (opens p.0) && not (closes p.0)) (not (is_length p.0)) parts.0 in
    let one = and_parts (not (opens p.0)) (not (closes p.0)) two.0 in
    let o = not_true (opens p.0) one.0 in
    let c = not_true (closes p.0) one.1 in
    let l = not_true (is_length p.0) two.1 in
    rw (o, c, l) (ap (λ (q : List Place). h.at ∷ q) (scan_plain way h r tail parts.1))

pub scan_all : (way : Way) (h : Here) (r : Reading) → all_plain r ≡ true → scan way h [] r ≡ all_at h.at r
unfolding scan
scan_all way h r e = sym (ap (λ (q : Reading). scan way h [] q) (append-nil r)) ∙ scan_plain way h r [] e ∙ append-nil (all_at h.at r)

pub kept_plain : (b : List Bool) → all_plain (sent.kept OTHER_DATA b) ≡ true
kept_plain [] = refl
kept_plain (x ∷ b) = kept_plain b

-- all of them come after the packets
abbrev pub all_close : Reading → Bool
all_close [] = true
all_close (p ∷ r) = closes p.0 && all_close r

no_other : (v : Var) → closes v ≡ true → (opens v ≡ false) × (is_length v ≡ false)
no_other FILL e = (refl, refl)
no_other PADDING e = (refl, refl)
no_other PAD e = (refl, refl)
no_other v e = absurd cc

pub scan_close : (way : Way) (h : Here) (r : Reading) → all_close r ≡ true → scan way h [] r ≡ all_at outside r
unfolding scan
scan_close way h [] e = refl
scan_close way h (p ∷ r) e =
    let parts = and_parts (closes p.0) (all_close r) e in
    let none = no_other p.0 parts.0 in
    rw (none.0, parts.0, none.1) (ap (λ (q : List Place). outside ∷ q) (scan_close way (record h { at = outside }) r parts.1))

pub close_both : (r q : Reading) → all_close r ≡ true → all_close q ≡ true → all_close (r ++ q) ≡ true
close_both [] q e f = f
close_both (p ∷ r) q e f =
    let parts = and_parts (closes p.0) (all_close r) e in
    rw (parts.0, close_both r q parts.1 f) refl

pub kept_close : (v : Var) (b : List Bool) → closes v ≡ true → all_close (sent.kept v b) ≡ true
kept_close v [] e = refl
kept_close v (x ∷ b) e = rw (e, kept_close v b e) refl

-- ---- Packets.

each_sound : (way : Way) → list_all (λ p. is_sound p.1) (rows_to way) ≡ true
each_sound ToTrain = refl
each_sound ToTrack = refl

row_looks : (way : Way) (nid : ℕ) (row : Layout) → row_to way nid ≡ Some row → IsTrue (looks None row)
row_looks way nid row e = (and_parts (nests 4 row) (looks None row) (of_each (λ n r. is_sound r) (rows_to way) nid row (each_sound way) e)).1

by_test : (b : Bool) (e f : Option BuildFault) (x : BuildFault) → e ≡ (if b then None else Some x) → (e or_else f) ≡ None → b ≡ true
by_test true e f x is none = refl
by_test false e f x is none = absurd (let g : (Some x or_else f) ≡ None = rw is at none in cc)

row_none : (framed : Bool) (o : Option Layout) → (framed && not (is_some o)) ≡ true → o ≡ None
row_none framed None e = refl
row_none framed (Some row) e = let parts = and_parts framed false e in absurd cc

kept_untyped : (way : Way) (nid dir bits : ℕ) → other_fault way nid dir bits ≡ None → row_to way nid ≡ None
kept_untyped way nid dir bits none =
    row_none (is_framed way nid) (row_to way nid) (by_test (is_kept way nid) (if is_kept way nid then None else Some (NotAdmitted NID_PACKET)) (direction_fault way dir or_else (if nat_le bits (kept_limit way) then None else Some TooLong)) (NotAdmitted NID_PACKET) refl none)

-- the walk takes exactly r, whatever comes after it, and p are its places; k packets have begun then
pub record Takes (way : Way) (h : Here) (r : Reading) (k : ℕ) (p : List Place) (tail : Reading) : Type 0 where
  pub next : Here
  pub counted : next.packets ≡ k
  pub takes : scan way h [] (r ++ tail) ≡ p ++ scan way next [] tail

-- where the walk is in a packet of this number
abbrev pub in_next : Here → ℕ → Here
in_next h nid = record { packets = h.packets + 1; nid = nid; at = in_packet (h.packets + 1) }

-- after a frame the row's variables come
framed : (way : Way) (h : Here) (nid dir bits : ℕ) (r tail : Reading) → scan way h [] (in_frame way nid dir bits r ++ tail) ≡ all_at (in_packet (h.packets + 1)) (in_frame way nid dir 0 []) ++ scan way (in_next h nid) (places_by (row_to way nid) (in_packet (h.packets + 1)) (r ++ tail)) (r ++ tail)
unfolding scan
framed ToTrain h nid dir bits r tail = refl
framed ToTrack h nid dir bits r tail = refl

frame_same : (way : Way) (at : Place) (nid dir bits : ℕ) (r : Reading) → all_at at (in_frame way nid dir bits r) ≡ all_at at (in_frame way nid dir 0 []) ++ all_at at r
frame_same ToTrain at nid dir bits r = refl
frame_same ToTrack at nid dir bits r = refl

packet_found : (way : Way) (h : Here) (v : PacketValue) (tail : Reading) → IsPacketTo way v → (p : List Place) × PacketPlaces way (in_packet (h.packets + 1)) v p × Takes way h (reading_to way v) (h.packets + 1) p tail
unfolding scan
packet_found way h (marker n) tail is =
    let at = in_packet (h.packets + 1) in
    (at ∷ at ∷ [], refl, record { next = in_next h 0; counted = refl; takes = refl })
packet_found way h (typed nid dir r) tail (row, typed_by, direction, reads, short) =
    let at = in_packet (h.packets + 1) in
    let q = row_places row 0 at (r ++ tail) in
    let found = row_finds row at r (row_looks way nid row typed_by) reads tail in
    let queue = scan_queue way (in_next h nid) q (r ++ tail) (omega (arith, found.0, length-append r tail)) in
    let left : drop (length q) (r ++ tail) ≡ tail = drop_at r tail (length q) (sym found.0) in
    let bits = length (spelled r) in (
      all_at at (in_frame way nid dir 0 []) ++ q,
      (row, q, typed_by, found.1, refl),
      record {
        next = in_next h nid;
        counted = refl;
        takes = framed way h nid dir bits r tail ∙ rw (typed_by, queue, left) (sym (append_assoc (all_at at (in_frame way nid dir 0 [])) q (scan way (in_next h nid) [] tail)));
      },
    )
packet_found way h (kept nid dir b) tail none =
    let at = in_packet (h.packets + 1) in
    let r = sent.kept OTHER_DATA b in
    let untyped = kept_untyped way nid dir (length b) none in
    let frame = all_at at (in_frame way nid dir 0 []) in
    let rest = scan way (in_next h nid) [] tail in (
      all_at at (reading_to way (kept nid dir b)),
      refl,
      record {
        next = in_next h nid;
        counted = refl;
        takes =
            framed way h nid dir (length b) r tail
            ∙ ap (λ (o : Option Layout). frame ++ scan way (in_next h nid) (places_by o at (r ++ tail)) (r ++ tail)) untyped
            ∙ ap (λ (q : List Place). frame ++ q) (scan_plain way (in_next h nid) r tail (kept_plain b))
            ∙ sym (append_assoc frame (all_at at r) rest)
            ∙ ap (λ (q : List Place). q ++ rest) (sym (frame_same way at nid dir (length b) r));
      },
    )

pub packets_found : (way : Way) (h : Here) (vs : List PacketValue) (tail : Reading) → All (IsPacketTo way) vs → (p : List Place) × PacketsPlaces way (h.packets + 1) vs p × Takes way h (readings_to way vs) (h.packets + length vs) p tail
packets_found way h [] tail all = ([], refl, record { next = h; counted = omega arith; takes = refl })
packets_found way h (v ∷ vs) tail all =
    let (p, here, took) = packet_found way h v (readings_to way vs ++ tail) (All-head (IsPacketTo way) v vs all) in
    let (q, more, rest) = packets_found way took.next vs tail (All-tail (IsPacketTo way) v vs all) in
    let number : took.next.packets + 1 ≡ h.packets + 1 + 1 = ap (λ n. n + 1) took.counted in (
      p ++ q,
      (p, q, refl, here, subst (λ n. PacketsPlaces way n vs q) number more),
      record {
        next = rest.next;
        counted = omega (arith, rest.counted, took.counted);
        takes = rw (append_assoc (reading_to way v) (readings_to way vs) tail, took.takes, rest.takes) (sym (append_assoc p q (scan way rest.next [] tail)));
      },
    )
