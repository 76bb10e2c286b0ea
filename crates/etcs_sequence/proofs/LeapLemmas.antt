-- Variables of a piece that are taken together.
use Rattle.std.proofs.Common.{◌≡◌, ℕ, ◌+◌, ◌-◌, ◌/◌, ◌^◌, ◌≤◌, ◌<◌, Bool, true, false, List, [], ◌∷◌, ◌++◌, length, replicate, refl, sym, ap, subst, ◌∙◌, arith, append-nil, append_assoc}
use Rattle.std.specs.Prelude.{IsTrue, ◌&&◌, nat_lt}
use Rattle.std.proofs.lemmas.Bool.{ltb-true}
use Rattle.std.proofs.lemmas.List.{length-replicate}
use Rattle.std.proofs.lemmas.List.Elements.{All-nil}
use Rattle.etcs_bits.specs.Bits.{num, part}
use Rattle.etcs_bits.proofs.Lists.{length-part, part-add}
use Rattle.etcs_vars.specs.declared.var.Var.TheVariants.{NID_PACKET, L_PACKET, OTHER_DATA}
use Rattle.etcs_vars.specs.Reading.{Reading, Then, spelled, numbers, kept, Viable}
use Rattle.etcs_vars.specs.Walking.{Residual}
use Rattle.etcs_vars.proofs.Sent.{length-sent}
use Rattle.etcs_vars.specs.laws.Spellings.{spelled-append}
use Rattle.etcs_tables.specs.declared.row.Way.{Way}
use Rattle.etcs_rows.specs.declared.frames.Carrier.{Carrier}
use Rattle.etcs_rows.specs.declared.frames.Carrier.TheVariants.{Telegram}
use Rattle.etcs_tables.specs.Frames.{frame_bits, is_kept, is_direction, directed}
use Rattle.etcs_rows.specs.Frames.{may_be_left, way_of}
use Rattle.etcs_rows.proofs.PlaceLemmas.{and_both}
use Rattle.etcs_rows.specs.declared.rest.RowRest.{RowRest}
use Rattle.etcs_rows.specs.Runs.{RunsTo}
use Rattle.etcs_rows.specs.Walks.{ReadTo}
use Rattle.etcs_rows.proofs.RunLemmas.{no_run, runs_along}
use Rattle.etcs_tables.specs.Layouts.{Layout, ReadsIn}
use Rattle.etcs_sequence.proofs.LeftBodies.{then_run}
use Rattle.etcs_sequence.proofs.ThenLaws.{then_goes}
use Rattle.etcs_packets.specs.PacketValues as packets
use Rattle.etcs_packets.specs.PacketValues.{PacketValue, IsTypedOf, variables_of, IsPacketTo, bits_to}
use Rattle.etcs_packets.specs.PacketReadings.{in_frame, reading_to, readings_to}
use Rattle.etcs_packets.specs.laws.PacketReadings.{bits_are}
use Rattle.etcs_sequence.specs.Contents.{Carries, PacketsIn, KeptIn}
use Rattle.etcs_sequence.proofs.Fits.{run_some}
use Rattle.etcs_sequence.proofs.Wholes.{spelled_kept, kept_after}
use Rattle.etcs_sequence.specs.laws.Others.{kept_parts, kept_fault, kept_framed}
use Rattle.etcs_sequence.proofs.Carried.{typed_bits, frame_spelled}
use Rattle.etcs_sequence.specs.laws.RunSteps.{in_front, framed_carried}
use Rattle.etcs_reader.specs.Rests.{Goes, Starts}
use Rattle.etcs_sequence.specs.declared.stage.Stage.{Stage}
use Rattle.etcs_sequence.specs.declared.stage.Stage.TheVariants.{Number, Row, Kept}
use Rattle.etcs_sequence.specs.declared.stage.Event.{Event}
use Rattle.etcs_sequence.specs.Lefts.{left_of, is_stage, keeps_at, Becomes, Here, After, HoldsAt, Moved}
use Rattle.etcs_sequence.specs.AtOnce.{FrameAt, Holds, WholeAt}
use Rattle.etcs_sequence.specs.Leaps.{EntriesTo, BeginsAt}
use Rattle.etcs_sequence.proofs.PacketLemmas.{Taken, taken}
use Rattle.etcs_sequence.proofs.PacketLemmas.{held_whole}
use Rattle.etcs_sequence.specs.laws.Framed.{typed_framed, kept_three, kept_two_hundred, some_direction}
use Rattle.etcs_sequence.specs.declared.stage.Keep.TheVariants as keep
use Rattle.etcs_sequence.specs.declared.stage.Event.TheVariants as event

-- ---- A packet that lies whole in a piece.

module _ (c : Carrier) (H H' : Holds) (xs : List Bool) (at l nid dir : ℕ) (frame : FrameAt (way_of c) nid dir l at xs) (within : at + l ≤ length xs)
    (held : (vs : List PacketValue) (v : PacketValue) → H vs [] [] → IsTypedOf nid dir v → IsPacketTo (way_of c) v → spelled (variables_of v) ≡ part (at + frame_bits (way_of c)) (l - frame_bits (way_of c)) xs → H' (vs ++ v ∷ []) [] []) where
  whole_of : (v : PacketValue) → IsTypedOf nid dir v → IsPacketTo (way_of c) v → spelled (variables_of v) ≡ part (at + frame_bits (way_of c)) (l - frame_bits (way_of c)) xs → WholeAt c H H' xs at l
  whole_of (packets.marker n) t is s = absurd (let e = t.1 in cc)
  whole_of (packets.typed nid' dir' r) t is s =
      let way = way_of c in
      let v = packets.typed nid' dir' r in
      let row : _ = rw t.0 at is.1 in
      let both = typed_bits way nid dir l at is.0 v xs row is t frame within s in
      record { packet = v; carried = framed_carried c v is (typed_framed way nid' is.0 is.1); bits = both.0; long = both.1; held = λ vs h. held vs v h t is s }
  whole_of (packets.kept nid' dir' body) t is s =
      let way = way_of c in
      let v = packets.kept nid' dir' [] in
      let k = kept_parts way nid' dir' (length body) is in
      let least = frame.least in
      let is' : IsPacketTo way v = kept_fault way nid' dir' 0 k.0 k.1 (omega arith) in
      let none : l - frame_bits way ≡ 0 = sym (length-part (at + frame_bits way) (l - frame_bits way) xs (omega (arith, least, within))) ∙ ap length (sym s) in
      let same : dir' ≡ dir = (let e = t.1 in cc) in
      let bits : spelled (reading_to way v) ≡ part at l xs = rw (t.0, same) (ap (λ (m : ℕ). spelled (in_frame way nid dir m [])) (sym none) ∙ frame_spelled way nid dir l at xs [] frame s) in
      record { packet = v; carried = framed_carried c v is' (kept_framed way nid' k.0); bits = bits; long = omega (arith, none, least); held = λ vs h. held vs v h t is' s }

-- what a store holds of packets its way
pub whole_at : (way : Way) (c : Carrier) → way_of c ≡ way → (H H' : Holds) (xs : List Bool) (at l nid dir : ℕ) → FrameAt (way_of c) nid dir l at xs → at + l ≤ length xs
    → ((vs : List PacketValue) (v : PacketValue) → H vs [] [] → IsTypedOf nid dir v → IsPacketTo way v → spelled (variables_of v) ≡ part (at + frame_bits (way_of c)) (l - frame_bits (way_of c)) xs → H' (vs ++ v ∷ []) [] [])
    → (v : PacketValue) → IsTypedOf nid dir v → IsPacketTo way v → spelled (variables_of v) ≡ part (at + frame_bits (way_of c)) (l - frame_bits (way_of c)) xs → WholeAt c H H' xs at l
whole_at way c to H H' xs at l nid dir frame within held v t is =
    whole_of c H H' xs at l nid dir frame within (λ vs u h t' is'. held vs u h t' (subst (λ (w : Way). IsPacketTo w u) to is')) v t (subst (λ (w : Way). IsPacketTo w v) (sym to) is)

pub leapt_held : (c c' : Carrier) (H H' : Holds) (xs : List Bool) (at l : ℕ) (s s' : Stage) (w : WholeAt c H H' xs at l) → s ≡ Number → c' ≡ c → Here c' s' [] [] [] → (q : Reading) → HoldsAt c s H q → HoldsAt c' s' H' (q ++ reading_to (way_of c) w.packet)
leapt_held c c' H H' xs at l s s' w number same here q held =
    let one = reading_to (way_of c) w.packet in
    let (vs, f, k, h, holds, all, (ef, ek, eh), eq) : HoldsAt c Number H q = rw number at held in
    let old : H vs [] [] = rw (ef, ek) at holds in
    let here' : Here c s' [] [] [] = rw same at here in
    let before = readings_to (way_of c) vs in
    let whole : q ++ one ≡ before ++ one = ap (λ (t : Reading). t ++ one) (eq ∙ ap (λ (t : Reading). before ++ t) eh ∙ append-nil before) in
    rw (same, whole) (held_whole c s' H' vs w.packet (w.held vs old) all w.carried here')

-- ---- What continues with a first bit.

first_viable : (c : Carrier) (room l nid : ℕ) (x : Bool) (tail : List Bool) → IsTrue (is_kept (way_of c) nid) → num 8 nid ≡ x ∷ tail → frame_bits (way_of c) ≤ l → l ≤ room → room ≤ 8191 → IsTrue (may_be_left c (room - l)) → Viable (PacketsIn c room) (x ∷ [])
first_viable c room l nid x tail k e least le small left =
    let way = way_of c in
    let frame = frame_bits way in
    let body = replicate (l - frame) false in
    let v = packets.kept nid 0 body in
    let size : length body ≡ l - frame = length-replicate (l - frame) false in
    let is : IsPacketTo way v = kept_fault way nid 0 (length body) k (some_direction way) (omega (arith, size, le, small)) in
    let long : bits_to way v ≡ l = omega (arith, size, least) in
    let q = run_some c (room - l) (omega (arith, small)) left in
    let run = in_front c room l v q.0 (framed_carried c v is (kept_framed way nid k)) (bits_are way v ∙ long) le q.1 in
    let beyond : Reading = directed way 0 ((L_PACKET, frame + length body) ∷ kept OTHER_DATA body) in
    let all = spelled-append ((NID_PACKET, nid) ∷ beyond) q.0 ∙ append_assoc (num 8 nid) (spelled beyond) (spelled q.0) ∙ ap (λ (t : List Bool). t ++ (spelled beyond ++ spelled q.0)) e in
    (reading_to way v ++ q.0, tail ++ (spelled beyond ++ spelled q.0), run, all)

-- a packet may begin with either bit
pub packet_viable : (c : Carrier) (room l : ℕ) (t : List Bool) → length t ≡ 1 → frame_bits (way_of c) ≤ l → l ≤ room → room ≤ 8191 → IsTrue (may_be_left c (room - l)) → Viable (PacketsIn c room) t
unfolding num
packet_viable c room l [] one least le small left = absurd (omega (arith, one))
packet_viable c room l (true ∷ []) one least le small left = first_viable c room l 200 true (num 7 200) (kept_two_hundred (way_of c)) refl least le small left
packet_viable c room l (false ∷ []) one least le small left = first_viable c room l 3 false (num 7 3) (kept_three (way_of c)) refl least le small left
packet_viable c room l (x ∷ y ∷ t) one least le small left = absurd (omega (arith, one))

-- ---- Kept bits.

pub kept_some : (c : Carrier) (room : ℕ) (s : Stage) (nid dir left : ℕ) → s ≡ Kept nid dir left → IsTrue (is_stage c room s) → 0 < left
kept_some c room s nid dir left e h =
    let stands : IsTrue (is_stage c room (Kept nid dir left)) = rw e at h in
    let more = and_both (is_kept (way_of c) nid) (is_direction (way_of c) dir && nat_lt 0 left) stands in
    ltb-true 0 left (and_both (is_direction (way_of c) dir) (nat_lt 0 left) more.1).1

-- the store has room for this many bits more
pub kept_fits : (c : Carrier) (s : Stage) (nid dir left count : ℕ) (f : List ℕ) (k : List Bool) (h : Reading) → s ≡ Kept nid dir left → count ≤ left → Here c s f k h → length k + count ≤ 8191
kept_fits c s nid dir left count f k h e le here =
    let here' : Here c (Kept nid dir left) f k h = rw e at here in
    omega (arith, here'.1, le)

-- any bits may come
kept_on : (left : ℕ) (Q : Reading → Type 0) (t : List Bool) → length t ≤ left → Goes (Then (KeptIn left) Q) → (q : Reading) × Then (KeptIn left) Q (kept OTHER_DATA t ++ q)
kept_on left Q t le (r, (first, rest, e, k, l)) =
    let more = replicate (left - length t) false in
    let q = kept OTHER_DATA more ++ rest in
    (q, (kept_after left t Q le).from q (kept OTHER_DATA more, rest, refl, (more, length-replicate (left - length t) false, refl), l))

module _ (c : Carrier) (room : ℕ) (s : Stage) (nid dir left : ℕ) (e : s ≡ Kept nid dir left) (goes : Goes (left_of c room s)) where
  on : (t : List Bool) → length t ≤ left → (q : Reading) × left_of c room s (kept OTHER_DATA t ++ q)
  on t le =
      let g : Goes (left_of c room (Kept nid dir left)) = rw e at goes in
      rw e (kept_on left (PacketsIn c room) t le g)

  pub kept_viable : (t : List Bool) → length t ≤ left → Viable (left_of c room s) t
  kept_viable t le =
      let q = on t le in
      (kept OTHER_DATA t ++ q.0, spelled q.0, q.1, spelled-append (kept OTHER_DATA t) q.0 ∙ ap (λ (b : List Bool). b ++ spelled q.0) (spelled_kept t))

  pub kept_goes : (t : List Bool) (R : Reading → Type 0) → length t ≤ left → Residual (left_of c room s) (kept OTHER_DATA t) R → Goes R
  kept_goes t R le beyond = let q = on t le in (q.0, beyond.to q.0 q.1)

-- ---- Variables of a row.

pub same_row : (s : Stage) (a b nid dir : ℕ) (row : RowRest) → s ≡ Row a b row → ((r : RowRest) × (s ≡ Row nid dir r)) → s ≡ Row nid dir row
same_row s a b nid dir row is (r, at) =
    let two : ◌≡◌ {A = Stage} (Row a b row) (Row nid dir r) = sym is ∙ at in
    let number : a ≡ nid = cc in
    let direction : b ≡ dir = cc in
    rw (number, direction) at is

-- by several numbers of a row
pub run_taken : (c : Carrier) (s s' : Stage) (p : Reading) (n : List ℕ) (e : Event) (H M : Holds) → numbers p ≡ n → ((vs : List PacketValue) (f : List ℕ) (k : List Bool) → H vs f k → M vs (f ++ n) k)
    → ((f : List ℕ) (k : List Bool) (h : Reading) → Here c s f k h → After c s' (f ++ numbers p) k (h ++ p) e) → (q : Reading) → HoldsAt c s H q → Taken c s' M e (q ++ p)
run_taken c s s' p n e H M is absorbed here = taken c s s' (λ f. f ++ numbers p) (λ k. k) p e H M (rw is absorbed) here

-- of a row that is being read something is left
pub row_goes : (c : Carrier) (room : ℕ) (s : Stage) (nid dir : ℕ) (row : RowRest) → s ≡ Row nid dir row → Goes (left_of c room s) → Goes (ReadsIn row.place row.len)
row_goes c room s nid dir row e goes =
    let g : Goes (left_of c room (Row nid dir row)) = rw e at goes in
    (then_goes (ReadsIn row.place row.len) (PacketsIn c room) g).0

-- ---- Entries of a row, one after another.

pub entries_none : (row : Layout) (len : ℕ) (xs : List Bool) (at : ℕ) (left : Layout) (bits : ℕ) (H : Holds) → at ≤ length xs → Goes (ReadsIn row len) → left ≡ row → bits ≡ len → EntriesTo row len xs at 0 left bits H H
entries_none row len xs at left bits H within goes same much = record {
  numbers = [];
  run = no_run row len xs at left bits within same much;
  goes = rw (same, much) goes;
  held = λ vs f k h. subst (λ (t : List ℕ). H vs t k) (sym (append-nil f)) h;
}

-- one more
pub entries_more : (row : Layout) (len : ℕ) (xs : List Bool) (at taken : ℕ) (left : Layout) (bits : ℕ) (H M : Holds) (n : ℕ) (g : List ℕ) (new : Layout) (more : ℕ) (N : Holds) (kept : List ℕ) → EntriesTo row len xs at taken left bits H M → RunsTo left bits xs (at + taken) n g new more → Goes (ReadsIn new more)
    → kept ≡ g → ((vs : List PacketValue) (f : List ℕ) (k : List Bool) → M vs f k → N vs (f ++ kept) k) → EntriesTo row len xs at (taken + n) new more H N
entries_more row len xs at taken left bits H M n g new more N kept e run goes is step = record {
  numbers = e.numbers ++ g;
  run = runs_along row len xs at taken e.numbers left bits n g new more e.run run;
  goes = goes;
  held = λ vs f k h. (let all : f ++ (e.numbers ++ kept) ≡ f ++ (e.numbers ++ g) = ap (λ (t : List ℕ). f ++ (e.numbers ++ t)) is in
      subst (λ (t : List ℕ). N vs t k) (append_assoc f e.numbers kept ∙ all) (step vs (f ++ e.numbers) k (e.held vs f k h)));
}

pub entries_begin : (row : Layout) (len : ℕ) (xs : List Bool) (at taken : ℕ) (left : Layout) (bits : ℕ) (H M : Holds) (n : ℕ) (g : List ℕ) (new : Layout) (more : ℕ) → EntriesTo row len xs at taken left bits H M → RunsTo left bits xs (at + taken) n g new more → Goes (ReadsIn new more) → 0 < n → BeginsAt row len xs at
entries_begin row len xs at taken left bits H M n g new more e run goes some = record {
  count = taken + n;
  some = omega (arith, some);
  numbers = e.numbers ++ g;
  left = new;
  bits = more;
  run = runs_along row len xs at taken e.numbers left bits n g new more e.run run;
  goes = goes;
}

module _ (c : Carrier) (room : ℕ) (s : Stage) (nid dir : ℕ) (row : RowRest) (left : Layout) (bits : ℕ) (p : Reading) (e : s ≡ Row nid dir row) (goes : Goes (left_of c room s)) (more : Goes (ReadsIn left bits)) (to : ReadTo row.place row.len p left bits) where
  -- something continues after them
  after_run : (q : Reading) × left_of c room s (p ++ q)
  after_run =
      let Q = PacketsIn c room in
      let g : Goes (left_of c room (Row nid dir row)) = rw e at goes in
      let tail = (then_goes (ReadsIn row.place row.len) Q g).1 in
      let q = more.0 ++ tail.0 in
      rw e (q, (then_run row.place row.len p left bits Q row.looks_well to).from q (more.0, tail.0, refl, more.1, tail.1))

  -- so it does after their first bit
  pub run_viable : (xs : List Bool) (at count : ℕ) → 0 < count → spelled p ≡ part at count xs → Viable (left_of c room s) (part at 1 xs)
  run_viable xs at count some is =
      let q = after_run in
      let last = part (at + 1) (count - 1) xs in
      let size : 1 + (count - 1) ≡ count = omega (arith, some) in
      let cut : spelled p ≡ part at 1 xs ++ last = is ∙ sym (ap (λ (m : ℕ). part at m xs) size) ∙ part-add at 1 (count - 1) xs in
      (p ++ q.0, last ++ spelled q.0, q.1, spelled-append p q.0 ∙ ap (λ (b : List Bool). b ++ spelled q.0) cut ∙ append_assoc (part at 1 xs) last (spelled q.0))

  pub run_goes : (R : Reading → Type 0) → Residual (left_of c room s) p R → Goes R
  run_goes R beyond = let q = after_run in (q.0, beyond.to q.0 q.1)

-- ---- Packet 255.

-- it may come next in a telegram that has room for it
pub closing_starts : (c : Carrier) (room : ℕ) → c ≡ Telegram → 8 ≤ room → Starts (PacketsIn c room) NID_PACKET 0 255
closing_starts c room is le =
    let last : Reading = (NID_PACKET, 255) ∷ [] in
    let run : PacketsIn Telegram room last = ([], record { carried = All-nil (Carries Telegram); reading_is = refl; fills = omega (arith, le, length-sent NID_PACKET 255 []) }) in
    (255, [], rw is run, refl)

-- something is left after it
pub closing_goes : (c c' : Carrier) (room room' n : ℕ) (s s' : Stage) → Starts (left_of c room s) NID_PACKET 0 n → Moved c room s ((NID_PACKET, n) ∷ []) c' room' s' → Goes (left_of c' room' s')
closing_goes c c' room room' n s s' (m, r, l, e) moved =
    let same : m ≡ n = (let none : m / 2 ^ 0 ≡ m = omega arith in sym none ∙ e) in
    (r, moved.residual.to r (subst (λ (k : ℕ). left_of c room s ((NID_PACKET, k) ∷ r)) same l))

-- what is held with it
pub closing_held : (c c' : Carrier) (s s' : Stage) (n : ℕ) (H : Holds) → s ≡ Number → c' ≡ c → Becomes c s NID_PACKET n event.More s' → (q : Reading) → HoldsAt c s H q → HoldsAt c' s' H (q ++ (NID_PACKET, n) ∷ [])
closing_held c c' s s' n H number same becomes q (vs, f, k, h, holds, all, here, eq) =
    let none : keeps_at s ≡ keep.Nothing = ap keeps_at number in
    let here' : Here c s' f k (h ++ (NID_PACKET, n) ∷ []) = rw none at becomes f k h here in
    let whole : q ++ (NID_PACKET, n) ∷ [] ≡ readings_to (way_of c) vs ++ (h ++ (NID_PACKET, n) ∷ []) = ap (λ (t : Reading). t ++ (NID_PACKET, n) ∷ []) eq ∙ append_assoc (readings_to (way_of c) vs) h ((NID_PACKET, n) ∷ []) in
    rw same (vs, f, k, h ++ (NID_PACKET, n) ∷ [], holds, all, here', whole)

-- its bits
pub closing_bits : (n : ℕ) (t : List Bool) → num 8 n ≡ t → spelled ((NID_PACKET, n) ∷ []) ≡ t
closing_bits n t e = append-nil (num 8 n) ∙ e
