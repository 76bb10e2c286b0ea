-- At which variables of packets memory is asked for.
use Rattle.std.proofs.Common.{◌≡◌, ℕ, zero, suc, Bool, true, false, List, [], ◌∷◌, ◌++◌, ◌&&◌, ◌+◌, ◌≤◌, length, Some, refl, ap, subst, ◌∙◌, arith}
use Rattle.std.specs.Prelude.{IsTrue, MatchBool, nat_le}
use Rattle.std.specs.List.{list_all}
use Rattle.std.proofs.lemmas.Bool.{and_parts, leb-true}
use Rattle.std.proofs.lemmas.List.{length-append}
use Rattle.etcs_vars.specs.declared.var.Var.{Var}
use Rattle.etcs_vars.specs.declared.var.Var.TheVariants.{NID_PACKET, NID_VBCMK, L_PACKET, OTHER_DATA}
use Rattle.etcs_vars.specs.Reading.{Reading, Then, Times, spelled}
use Rattle.etcs_vars.specs.laws.Spellings.{spelled-append}
use Rattle.etcs_tables.specs.declared.row.Way.TheVariants.{ToTrain, ToTrack}
use Rattle.etcs_rows.specs.declared.frames.Carrier.{Carrier}
use Rattle.etcs_rows.specs.Frames.{way_of}
use Rattle.etcs_tables.specs.Layouts.{Layout, whole, one, guarded, counted, Scope, holds, count_before, Reads}
use Rattle.etcs_tables.specs.Rows.{row_to, rows_to}
use Rattle.etcs_tables.proofs.EachRow.{of_each}
use Rattle.etcs_tables.specs.declared.row.Way.{Way}
use Rattle.etcs_packets.specs.PacketValues.{PacketValue}
use Rattle.etcs_packets.specs.PacketReadings.{readings_to}
use Rattle.etcs_packets.specs.laws.PacketReadings.{length-in_frame}
use Rattle.etcs_reader.specs.Rests.{Goes}
use Rattle.etcs_sequence.specs.declared.stage.Stage.{Stage}
use Rattle.etcs_sequence.specs.declared.stage.Stage.TheVariants.{Number, Marker, Direction, Length, Row, Kept, Closed}
use Rattle.etcs_sequence.specs.Lefts.{next_of, left_of, may_grow, Here, HoldsAt}
use Rattle.etcs_rows.specs.laws.RestLaws.{row_begins_with}
use Rattle.etcs_sequence.specs.Progress.{asks_memory, asked_from}
use Rattle.etcs_sequence.specs.laws.Framed.{frame_between}

-- ---- At each variable of a typed packet's row.

-- packets to the track are after 74 bits of a header
abbrev pub asked_after : Way → ℕ
asked_after ToTrain = 0
asked_after ToTrack = 74

abbrev Asks : Way → Var → Type 0
Asks way x = IsTrue (asks_memory x) × (asked_from x ≤ asked_after way + 1)

abbrev asks_all : ℕ → Layout → Bool
asks_all n whole = true
asks_all n (one v rest) = (asks_memory v && nat_le (asked_from v) n) && asks_all n rest
asks_all n (guarded g group rest) = asks_all n group && asks_all n rest
asks_all n (counted group rest) = asks_all n group && asks_all n rest

each_asks : (way : Way) → list_all (λ p. asks_all (asked_after way + 1) p.1) (rows_to way) ≡ true
each_asks ToTrain = refl
each_asks ToTrack = refl

typed_ask : (way : Way) (nid : ℕ) (row : Layout) → row_to way nid ≡ Some row → asks_all (asked_after way + 1) row ≡ true
typed_ask way nid row e = of_each (λ n r. asks_all (asked_after way + 1) r) (rows_to way) nid row (each_asks way) e

-- at each of its variables
abbrev AllAsk : Way → Reading → Type 0
AllAsk way [] = Unit {0}
AllAsk way (p ∷ r) = Asks way p.0 × AllAsk way r

append_ask : (way : Way) (a b : Reading) → AllAsk way a → AllAsk way b → AllAsk way (a ++ b)
append_ask way [] b h k = k
append_ask way (p ∷ a) b h k = (h.0, append_ask way a b h.1 k)

after_ask : (way : Way) (a b : Reading) → AllAsk way (a ++ b) → AllAsk way b
after_ask way [] b h = h
after_ask way (p ∷ a) b h = after_ask way a b h.1

then_ask : (way : Way) (P Q : Reading → Type 0) → ((r : Reading) → P r → AllAsk way r) → ((r : Reading) → Q r → AllAsk way r) → (r : Reading) → Then P Q r → AllAsk way r
then_ask way P Q p q r (a, b, e, h, k) = rw e (append_ask way a b (p a h) (q b k))

times_ask : (way : Way) (n : ℕ) (P : Reading → Type 0) → ((r : Reading) → P r → AllAsk way r) → (r : Reading) → Times n P r → AllAsk way r
times_ask way zero P p r h = rw h tt
times_ask way (suc n) P p r h = then_ask way P (Times n P) p (times_ask way n P p) r h

either_ask : (b : Bool) {P Q : Type 0} (A : Type 0) → (P → A) → (Q → A) → MatchBool b P Q → A
either_ask true A f g h = f h
either_ask false A f g h = g h

reads_ask : (way : Way) (row : Layout) (s : Scope) (r : Reading) → asks_all (asked_after way + 1) row ≡ true → Reads row s r → AllAsk way r
unfolding Reads
reads_ask way whole s r a h = rw h tt
reads_ask way (one v rest) s r a (n, q, admitted, e, h) =
    let most = asked_after way + 1 in
    let both = and_parts (asks_memory v && nat_le (asked_from v) most) (asks_all most rest) a in
    let here = and_parts (asks_memory v) (nat_le (asked_from v) most) both.0 in
    rw e ((here.0, leb-true (asked_from v) most here.1), reads_ask way rest ((v, n) ∷ s) q both.1 h)
reads_ask way (guarded g group rest) s r a h =
    let both = and_parts (asks_all (asked_after way + 1) group) (asks_all (asked_after way + 1) rest) a in
    either_ask (holds g s) (AllAsk way r) (then_ask way (Reads group s) (Reads rest s) (λ q. reads_ask way group s q both.0) (λ q. reads_ask way rest s q both.1) r) (reads_ask way rest s r both.1) h
reads_ask way (counted group rest) s r a h =
    let both = and_parts (asks_all (asked_after way + 1) group) (asks_all (asked_after way + 1) rest) a in
    then_ask way (Times (count_before s) (Reads group s)) (Reads rest s) (times_ask way (count_before s) (Reads group s) (λ q. reads_ask way group s q both.0)) (λ q. reads_ask way rest s q both.1) r h

-- ---- At the variable that comes next.

-- at one of a frame, of a marker and of kept bits, after any bits
pub asks_anywhere : (n : ℕ) (x y : Var) → asks_memory y ≡ true → asked_from y ≡ 0 → y ≡ x → IsTrue (asks_memory x) × (asked_from x ≤ n)
asks_anywhere n x y asks none same = subst (λ (v : Var). IsTrue (asks_memory v) × (asked_from v ≤ n)) same (asks, omega (arith, none))

here_asks : (c : Carrier) (room : ℕ) (s : Stage) (f : List ℕ) (k : List Bool) (h : Reading) → may_grow s ≡ true → Here c s f k h → Goes (left_of c room s) → (x : Var) → next_of s ≡ Some x → IsTrue (asks_memory x) × (asked_from x ≤ asked_after (way_of c) + length (spelled h))
here_asks c room Number f k h grows here g x e = asks_anywhere (asked_after (way_of c) + length (spelled h)) x NID_PACKET refl refl cc
here_asks c room Marker f k h grows here g x e = asks_anywhere (asked_after (way_of c) + length (spelled h)) x NID_VBCMK refl refl cc
here_asks c room (Direction nid) f k h grows here g x e = absurd cc
here_asks c room (Length nid dir) f k h grows here g x e = asks_anywhere (asked_after (way_of c) + length (spelled h)) x L_PACKET refl refl cc
here_asks c room (Row nid dir row) f k h grows (none, is) (r, (u, v, e', l, m)) x e =
    let way = way_of c in
    let (n, q, begins) = row_begins_with row.place row.len x e u l in
    let all = reads_ask way is.row [] (is.read ++ u) (typed_ask way nid is.row is.typed) (is.residual.from u l).0 in
    let asks = (subst (AllAsk way) begins (after_ask way is.read u all)).0 in
    let long = ap (λ (t : Reading). length (spelled t)) is.here ∙ length-in_frame way nid dir is.total is.read in
    (asks.0, omega (arith, asks.1, long, (frame_between way).0))
here_asks c room (Kept nid dir left) f k h grows here g x e = asks_anywhere (asked_after (way_of c) + length (spelled h)) x OTHER_DATA refl refl cc
here_asks c room Closed f k h grows here g x e = absurd cc

-- after any bits of a telegram and of a message to the train, and after the header of one to the track
pub packets_ask : (c : Carrier) (room : ℕ) (s : Stage) (held : List PacketValue → List ℕ → List Bool → Type 0) (q : Reading) → may_grow s ≡ true → HoldsAt c s held q → Goes (left_of c room s) → (x : Var) → next_of s ≡ Some x → IsTrue (asks_memory x) × (asked_from x ≤ asked_after (way_of c) + length (spelled q))
packets_ask c room s held q grows (vs, f, k, t, h, carried, here, is) g x e =
    let asks = here_asks c room s f k t grows here g x e in
    let first = readings_to (way_of c) vs in
    let long = ap (λ (r : Reading). length (spelled r)) is ∙ ap length (spelled-append first t) ∙ length-append (spelled first) (spelled t) in
    (asks.0, omega (arith, asks.1, long))
