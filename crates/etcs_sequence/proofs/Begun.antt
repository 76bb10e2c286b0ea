-- What is held of the packet that is being read, and that nothing is held if nothing was read.
use Rattle.std.proofs.Common.{◌≡◌, ℕ, ◌+◌, ◌<◌, Bool, true, false, List, [], ◌∷◌, ◌++◌, ◌&&◌, length, Some, None, refl, sym, ap, ◌∙◌, arith, inl, inr}
use Rattle.std.specs.Prelude.{IsTrue, Option, is_some, nat_lt, map}
use Rattle.std.proofs.lemmas.List.{length-append}
use Rattle.etcs_vars.specs.declared.var.Var.{Var}
use Rattle.etcs_vars.specs.Reading.{Reading, Then, spelled}
use Rattle.etcs_vars.proofs.Prefixes.{width_pos}
use Rattle.etcs_vars.specs.laws.Spellings.{spelled-append}
use Rattle.etcs_vars.proofs.Sent.{length-sent}
use Rattle.etcs_tables.specs.Layouts.{Layout, ReadsIn}
use Rattle.etcs_rows.specs.declared.frames.Carrier.{Carrier}
use Rattle.etcs_tables.specs.Rows.{row_to}
use Rattle.etcs_tables.specs.Frames.{is_kept, is_direction}
use Rattle.etcs_tables.specs.declared.row.Way.{Way}
use Rattle.etcs_rows.specs.Places.{first_variable}
use Rattle.etcs_rows.proofs.PlaceLemmas.{and_both}
use Rattle.etcs_rows.specs.Frames.{way_of}
use Rattle.etcs_packets.specs.PacketValues.{PacketValue, Form}
use Rattle.etcs_packets.specs.PacketReadings.{reading_to, readings_to}
use Rattle.etcs_packets.specs.laws.PacketReadings.{bits_are}
use Rattle.etcs_sequence.specs.Contents.{PacketsIn}
use Rattle.etcs_sequence.specs.Runs.{Begun, BegunRow}
use Rattle.etcs_sequence.specs.laws.Agreement.{some_bits}
use Rattle.etcs_reader.specs.Rests.{Goes}
use Rattle.etcs_sequence.specs.declared.stage.Stage.{Stage}
use Rattle.etcs_sequence.specs.declared.stage.Stage.TheVariants.{Number, Marker, Direction, Length, Row, Kept, Closed}
use Rattle.etcs_sequence.specs.Lefts.{left_of, is_stage, is_closed, RowHere, Here, HoldsAt}
use Rattle.etcs_sequence.specs.laws.LeftLaws.{some_left}
use Rattle.etcs_sequence.specs.Held.{list_holds}
use Rattle.etcs_rows.specs.laws.RestLaws.{row_begins_with}

-- a row of which a variable comes next has bits left
row_more : (row : Layout) (len : ℕ) (first : Option Var) → first_variable row ≡ first → is_some first ≡ true → (u : Reading) → ReadsIn row len u → 0 < len
row_more row len None e h u l = absurd cc
row_more row len (Some x) e h u l =
    let (n, q, is) = row_begins_with row len x e u l in
    let long = ap (λ (t : Reading). length (spelled t)) is in
    omega (arith, l.1, long, length-sent x n q, width_pos x)

-- a row's packet that is being read
row_begun : (c : Carrier) (room nid dir len : ℕ) (left : Layout) (f : List ℕ) (h : Reading) → is_some (row_to (way_of c) nid) ≡ true → is_some (first_variable left) ≡ true → Goes (Then (ReadsIn left len) (PacketsIn c room)) → RowHere (way_of c) nid dir left len f h → BegunRow (way_of c) h f
row_begun c room nid dir len left f h typed some (r, (u, v, e, l, m)) is =
    let whole = is.residual.from u l in
    let bits = ap length (spelled-append is.read u) ∙ length-append (spelled is.read) (spelled u) in
    let more = row_more left len (first_variable left) refl some u l in
    (nid, dir, is.total, is.read, is.here, is.numbers_are, omega (arith, whole.1, l.1, bits, more), typed)

-- what is held of the packet that is being read has begun one
pub begun_of : (c : Carrier) (room : ℕ) (s : Stage) (f : List ℕ) (k : List Bool) (h : Reading) → IsTrue (is_stage c room s) → is_closed s ≡ false → Goes (left_of c room s) → Here c s f k h → Begun (way_of c) h f k
begun_of c room Number f k h stands o g (e, e', is) = inl (inl is, e, e')
begun_of c room Marker f k h stands o g (e, e', is) = inl (inr (inl (0, is)), e, e')
begun_of c room (Direction nid) f k h stands o g (e, e', is) = inl (inr (inl (nid, is)), e, e')
begun_of c room (Length nid dir) f k h stands o g (e, e', is) = inl (inr (inr (nid, dir, is)), e, e')
begun_of c room (Row nid dir row) f k h stands o g (e, is) =
    let both = and_both (is_some (row_to (way_of c) nid)) (is_direction (way_of c) dir && is_some (first_variable row.place)) stands in
    inr (inl (row_begun c room nid dir row.len row.place f h both.0 (and_both (is_direction (way_of c) dir) (is_some (first_variable row.place)) both.1).1 g is, e))
begun_of c room (Kept nid dir left) f k h stands o g (e, le, is) =
    let some = some_left c room nid dir left stands in
    inr (inr ((nid, dir, length k + left, is, omega (arith, some), (and_both (is_kept (way_of c) nid) (is_direction (way_of c) dir && nat_lt 0 left) stands).0), e))
begun_of c room Closed f k h stands o g is = absurd cc

-- ---- Nothing was read.

none_here : (c : Carrier) (s : Stage) (f : List ℕ) (k : List Bool) (h : Reading) → h ≡ [] → Here c s f k h → (f ≡ []) × (k ≡ [])
none_here c Number f k h e (a, b, is) = (a, b)
none_here c Marker f k h e (a, b, is) = (a, b)
none_here c (Direction nid) f k h e (a, b, is) = (a, b)
none_here c (Length nid dir) f k h e (a, b, is) = (a, b)
none_here c (Row nid dir row) f k h e (b, is) = let two = sym e ∙ is.here in absurd cc
none_here c (Kept nid dir left) f k h e (a, le, is) = let two = sym e ∙ is in absurd cc
none_here c Closed f k h e (a, b, is) = (a, b)

no_packet : (way : Way) (vs : List PacketValue) (h : Reading) → [] ≡ readings_to way vs ++ h → (vs ≡ []) × (h ≡ [])
no_packet way [] h e = (refl, sym e)
no_packet way (v ∷ vs) h e =
    let first = reading_to way v in
    let rest = readings_to way vs in
    let one = ap (λ (t : Reading). length (spelled t)) e in
    let two = ap length (spelled-append (first ++ rest) h) ∙ length-append (spelled (first ++ rest)) (spelled h) in
    let three = ap length (spelled-append first rest) ∙ length-append (spelled first) (spelled rest) in
    absurd (omega (arith, one, two, three, bits_are way v, some_bits way v))

pub none_listed : {P : Type 0} (form : P → Form) (ps : List P) → [] ≡ map (λ p. (form p).value) ps → ps ≡ []
none_listed form [] e = refl
none_listed form (p ∷ ps) e = absurd cc

-- a list that holds what nothing read holds nothing
pub nothing_held : {P : Type 0} (form : P → Form) (c : Carrier) (s : Stage) (ps : List P) (f : List ℕ) (k : List Bool) → HoldsAt c s (list_holds form ps f k) [] → (ps ≡ []) × (f ≡ []) × (k ≡ [])
nothing_held form c s ps f k (vs, g, l, h, (vs_is, (made, (g_is, l_is))), carried, here, e) =
    let none = no_packet (way_of c) vs h e in
    let more = none_here c s g l h none.1 here in
    (none_listed form ps (sym none.0 ∙ vs_is), sym g_is ∙ more.0, sym l_is ∙ more.1)
