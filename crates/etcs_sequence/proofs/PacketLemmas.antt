-- Packets that are read one by one: what is held of them.
use Rattle.std.proofs.Common.{◌≡◌, ℕ, ◌+◌, ◌<◌, Bool, false, List, [], ◌∷◌, ◌++◌, length, Some, None, refl, sym, ap, subst, ◌∙◌, arith, append_assoc, append-nil}
use Rattle.std.specs.Prelude.{All, IsTrue, ◌==◌}
use Rattle.std.proofs.Math.Bool.{Bool-set}
use Rattle.std.proofs.lemmas.Bool.{ne_eqb}
use Rattle.std.proofs.lemmas.List.Elements.{All-push}
use Rattle.etcs_bits.specs.Bits.{num, part, bits}
use Rattle.etcs_vars.specs.declared.var.Var.{Var}
use Rattle.etcs_vars.specs.declared.var.Var.TheVariants.{NID_PACKET, NID_VBCMK, Q_DIR, L_PACKET, OTHER_DATA}
use Rattle.etcs_vars.specs.Reading.{Sent, Reading, spelled, numbers, kept}
use Rattle.etcs_tables.specs.declared.row.Way.TheVariants.{ToTrain, ToTrack}
use Rattle.etcs_rows.specs.declared.frames.Carrier.{Carrier}
use Rattle.etcs_rows.specs.Frames.{way_of}
use Rattle.etcs_tables.specs.Typed.{IsTyped}
use Rattle.etcs_tables.specs.declared.row.Way.{Way}
use Rattle.etcs_tables.specs.Frames.{is_marker}
use Rattle.etcs_flat.specs.Others.{other_fault}
use Rattle.etcs_packets.specs.PacketValues as packets
use Rattle.etcs_packets.specs.PacketValues.{PacketValue, IsTypedOf, IsPacketTo, variables_of}
use Rattle.etcs_packets.specs.PacketReadings.{in_frame, reading_to, readings_to}
use Rattle.etcs_sequence.specs.AtOnce.{Holds}
use Rattle.etcs_sequence.specs.Contents.{Carries}
use Rattle.etcs_sequence.specs.declared.stage.Stage.{Stage}
use Rattle.etcs_sequence.specs.declared.stage.Event.{Event}
use Rattle.etcs_sequence.specs.declared.stage.Keep.{Keep}
use Rattle.etcs_sequence.specs.declared.stage.Stage.TheVariants.{Direction, Row, Kept, Closed}
use Rattle.etcs_sequence.specs.Lefts.{next_of, is_closed, may_grow, keeps_at, numbers_with, bits_with, Here, After, Becomes, HoldsAt, MayFinish, Finishes}
use Rattle.etcs_sequence.specs.laws.Framed.{frame_between}
use Rattle.etcs_sequence.specs.laws.RunSteps.{carried_packet}
use Rattle.etcs_sequence.specs.declared.stage.Keep.TheVariants as keep
use Rattle.etcs_sequence.specs.declared.stage.Event.TheVariants as event

pub true_prop : (b : Bool) → IsProp (IsTrue b)
true_prop b = hlevel Bool-set

-- ---- A whole packet.

-- one packet more
pub packets_push : (way : Way) (vs : List PacketValue) (v : PacketValue) → readings_to way (vs ++ v ∷ []) ≡ readings_to way vs ++ reading_to way v
packets_push way [] v = append-nil (reading_to way v)
packets_push way (w ∷ vs) v = ap (λ (t : Reading). reading_to way w ++ t) (packets_push way vs v) ∙ sym (append_assoc (reading_to way w) (readings_to way vs) (reading_to way v))

pub held_whole : (c : Carrier) (s : Stage) (H : Holds) (vs : List PacketValue) (v : PacketValue) → H (vs ++ v ∷ []) [] [] → All (Carries c) vs → Carries c v → Here c s [] [] [] → HoldsAt c s H (readings_to (way_of c) vs ++ reading_to (way_of c) v)
held_whole c s H vs v held all carried here = (vs ++ v ∷ [], [], [], [], held, All-push (Carries c) vs v all carried, here, sym (packets_push (way_of c) vs v) ∙ sym (append-nil (readings_to (way_of c) (vs ++ v ∷ []))))

-- a store's packets go its way
pub its_packet : (way : Way) (c : Carrier) (v : PacketValue) → way_of c ≡ way → Carries c v → IsPacketTo way v
its_packet way c v to h = subst (λ (w : Way). IsPacketTo w v) to (carried_packet c v h)

pub finish_marker : (way : Way) (H H' : Holds) (m : ℕ) → ((vs : List PacketValue) → H vs [] [] → H' (vs ++ packets.marker m ∷ []) [] []) → Finishes way H H' (event.Marker m)
finish_marker way H H' m ok c s vs f k h to held all (ef, ek, carried, eh, here) =
    let held' : H vs [] [] = rw (ef, ek) at held in
    subst (λ (x : Reading). HoldsAt c s H' (readings_to (way_of c) vs ++ x)) (sym eh) (held_whole c s H' vs (packets.marker m) (ok vs held') all carried here)

pub finish_typed : (way : Way) (H H' : Holds) (nid dir : ℕ) → ((vs : List PacketValue) (f : List ℕ) (v : PacketValue) → H vs f [] → IsTypedOf nid dir v → IsPacketTo way v → numbers (variables_of v) ≡ f → H' (vs ++ v ∷ []) [] []) → Finishes way H H' (event.Typed nid dir)
finish_typed way H H' nid dir ok c s vs f k h to held all (ek, (r, (carried, en, eh)), here) =
    let held' : H vs f [] = rw ek at held in
    let v = packets.typed nid dir r in
    let new = ok vs f v held' (refl, refl) (its_packet way c v to carried) en in
    subst (λ (x : Reading). HoldsAt c s H' (readings_to (way_of c) vs ++ x)) (sym eh) (held_whole c s H' vs v new all carried here)

pub finish_kept : (way : Way) (H H' : Holds) (nid dir : ℕ) → ((vs : List PacketValue) (k : List Bool) → H vs [] k → H' (vs ++ packets.kept nid dir k ∷ []) [] []) → Finishes way H H' (event.Kept nid dir)
finish_kept way H H' nid dir ok c s vs f k h to held all (ef, carried, eh, here) =
    let held' : H vs [] k = rw ef at held in
    subst (λ (x : Reading). HoldsAt c s H' (readings_to (way_of c) vs ++ x)) (sym eh) (held_whole c s H' vs (packets.kept nid dir k) (ok vs k held') all carried here)

-- ---- What an event asks of the store.

pub marker_admitted : (way : Way) (c : Carrier) (s : Stage) (f : List ℕ) (k : List Bool) (h : Reading) (m : ℕ) → way_of c ≡ way → After c s f k h (event.Marker m) → IsTrue (is_marker way m)
marker_admitted way c s f k h m to (ef, ek, carried, eh, here) = its_packet way c (packets.marker m) to carried

pub typed_held : (way : Way) (H : Holds) (c : Carrier) (s : Stage) (vs : List PacketValue) (f : List ℕ) (k : List Bool) (h : Reading) (nid dir : ℕ) → way_of c ≡ way → H vs f k → After c s f k h (event.Typed nid dir) → H vs f [] × IsTyped way nid dir f
typed_held way H c s vs f k h nid dir to held (ek, (r, (carried, en, eh)), here) =
    let (row, e, a, reads, short) = its_packet way c (packets.typed nid dir r) to carried in
    (rw ek at held, (row, e, a, (spelled r, (r, reads, en, refl), short)))

pub kept_held : (way : Way) (H : Holds) (c : Carrier) (s : Stage) (vs : List PacketValue) (f : List ℕ) (k : List Bool) (h : Reading) (nid dir : ℕ) → way_of c ≡ way → H vs f k → After c s f k h (event.Kept nid dir) → H vs [] k × (other_fault way nid dir (length k) ≡ None)
kept_held way H c s vs f k h nid dir to held (ef, carried, eh, here) = (rw ef at held, its_packet way c (packets.kept nid dir k) to carried)

-- ---- One bit.

pub one_sent : (n byte : ℕ) → n ≡ 1 → byte ≡ 1 → part 7 1 (bits (byte ∷ [])) ≡ (n == 1) ∷ []
unfolding bits num
one_sent n byte e f = rw (e, f) refl

pub none_sent : (n byte : ℕ) → (n ≡ 1 → ⊥) → byte ≡ 0 → part 7 1 (bits (byte ∷ [])) ≡ (n == 1) ∷ []
unfolding bits num
none_sent n byte e f = rw (f, ne_eqb n 1 e) refl

-- ---- A number of a variable.

pub open_next : (s : Stage) (x : Var) → next_of s ≡ Some x → is_closed s ≡ false
open_next Closed x e = absurd cc
open_next s x e = refl

-- the kept bits have room for one more
pub kept_room : (c : Carrier) (s : Stage) (f : List ℕ) (k : List Bool) (h : Reading) → keeps_at s ≡ keep.Bit → Here c s f k h → length k < 8191
kept_room c (Kept nid dir left) f k h e here = omega (arith, here.1, (frame_between (way_of c)).0)
kept_room c s f k h e here = absurd cc

pub grows_kept : (s : Stage) → (keeps_at s ≡ keep.Nothing → ⊥) → IsTrue (may_grow s)
grows_kept (Row nid dir row) other = refl
grows_kept (Kept nid dir left) other = refl
grows_kept s other = absurd (other refl)

-- after Q_DIR no packet is whole
frame_more : (way : Way) (nid nid' n dir bits : ℕ) (r : Reading) → ◌≡◌ {A = Reading} ((NID_PACKET, nid) ∷ (Q_DIR, n) ∷ []) (in_frame way nid' dir bits r) → ⊥
frame_more ToTrain nid nid' n dir bits r e = absurd cc
frame_more ToTrack nid nid' n dir bits r e =
    let sent : ◌≡◌ {A = Sent} (Q_DIR, n) (L_PACKET, 21 + bits) = cc in
    let same : Q_DIR ≡ L_PACKET = ap (λ (p : Sent). p.0) sent in
    absurd cc

direction_more : (c : Carrier) (s : Stage) (nid n : ℕ) (x : Var) (f : List ℕ) (k : List Bool) (h : Reading) (e : Event) → x ≡ Q_DIR → h ≡ (NID_PACKET, nid) ∷ [] → After c s f k (h ++ (x, n) ∷ []) e → e ≡ event.More
direction_more c s nid n x f k h event.More ex eh after = refl
direction_more c s nid n x f k h (event.Marker m) ex eh (ef, ek, carried, is, here) =
    let sent : ◌≡◌ {A = Sent} (x, n) (NID_VBCMK, m) = cc in
    let same : x ≡ NID_VBCMK = ap (λ (p : Sent). p.0) sent in
    absurd cc
direction_more c s nid n x f k h (event.Typed nid' dir) ex eh (ek, (r, (carried, en, is)), here) = absurd (frame_more (way_of c) nid nid' n dir (length (spelled r)) r (rw (eh, ex) at is))
direction_more c s nid n x f k h (event.Kept nid' dir) ex eh (ef, carried, is, here) = absurd (frame_more (way_of c) nid nid' n dir (length k) (kept OTHER_DATA k) (rw (eh, ex) at is))

-- if a packet is whole, a list grew
pub grows_whole : (c : Carrier) (s s' : Stage) (x : Var) (n : ℕ) (e : Event) (f : List ℕ) (k : List Bool) (h : Reading) → next_of s ≡ Some x → Becomes c s x n e s' → Here c s f k h → (e ≡ event.More → ⊥) → IsTrue (may_grow s)
grows_whole c (Direction nid) s' x n e f k h next b here other = absurd (other (direction_more c s' nid n x _ _ h e (let same : Q_DIR ≡ x = cc in sym same) here.2 (b f k h here)))
grows_whole c Closed s' x n e f k h next b here other = absurd cc
grows_whole c s s' x n e f k h next b here other = refl

-- ---- More variables.

-- after the variables t the store holds M, and e may make a packet of it
pub record Taken (c : Carrier) (s : Stage) (M : Holds) (e : Event) (t : Reading) : Type 0 where
  pub whole : List PacketValue
  pub numbers : List ℕ
  pub bits : List Bool
  pub last : Reading
  pub held : M whole numbers bits
  pub carried : All (Carries c) whole
  pub after : After c s numbers bits last e
  pub reading_is : t ≡ readings_to (way_of c) whole ++ last

-- by the variables p the numbers and the bits that are held become those that F and K give
pub taken : (c : Carrier) (s s' : Stage) (F : List ℕ → List ℕ) (K : List Bool → List Bool) (p : Reading) (e : Event) (H M : Holds) → ((vs : List PacketValue) (f : List ℕ) (k : List Bool) → H vs f k → M vs (F f) (K k))
    → ((f : List ℕ) (k : List Bool) (h : Reading) → Here c s f k h → After c s' (F f) (K k) (h ++ p) e) → (q : Reading) → HoldsAt c s H q → Taken c s' M e (q ++ p)
taken c s s' F K p e H M absorbed after q (vs, f, k, h, held, all, here, eq) = record {
  whole = vs;
  numbers = F f;
  bits = K k;
  last = h ++ p;
  held = absorbed vs f k held;
  carried = all;
  after = after f k h here;
  reading_is = ap (λ (t : Reading). t ++ p) eq ∙ append_assoc (readings_to (way_of c) vs) h p;
}

-- by a number, which is kept so
pub number_taken : (c : Carrier) (s s' : Stage) (x : Var) (n : ℕ) (e : Event) (H M : Holds) (keep : Keep) → keep ≡ keeps_at s → ((vs : List PacketValue) (f : List ℕ) (k : List Bool) → H vs f k → M vs (numbers_with keep f n) (bits_with keep k n))
    → Becomes c s x n e s' → (q : Reading) → HoldsAt c s H q → Taken c s' M e (q ++ (x, n) ∷ [])
number_taken c s s' x n e H M keep same absorbed here = taken c s s' (λ f. numbers_with (keeps_at s) f n) (λ k. bits_with (keeps_at s) k n) ((x, n) ∷ []) e H M (rw same at absorbed) here

pub event_held : (way : Way) {c : Carrier} {s : Stage} {M : Holds} {e : Event} {t : Reading} → way_of c ≡ way → Taken c s M e t → MayFinish way M e
event_held way {c} {s} to x = (c, s, x.whole, x.numbers, x.bits, x.last, to, x.held, x.after)

pub more_held : (way : Way) {c : Carrier} {s : Stage} {M : Holds} {e : Event} {t : Reading} → way_of c ≡ way → (N : Holds) (c' : Carrier) → c' ≡ c → Finishes way M N e → Taken c s M e t → HoldsAt c' s N t
more_held way {c} {s} to N c' same fin x = rw (same, x.reading_is) (fin c s x.whole x.numbers x.bits x.last to x.held x.carried x.after)
