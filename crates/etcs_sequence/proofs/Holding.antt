-- What was read is given by the numbers that are held of it.
use Rattle.std.proofs.Common.{◌≡◌, ℕ, ◌+◌, Bool, List, ◌++◌, length, Some, refl, sym, ap, ◌∙◌, arith}
use Rattle.std.specs.Prelude.{Option}
use Rattle.std.proofs.lemmas.List.{length-append}
use Rattle.etcs_vars.specs.Reading.{Reading, Then, spelled}
use Rattle.etcs_vars.specs.laws.Spellings.{spelled-append}
use Rattle.etcs_tables.specs.Layouts.{Layout, ReadsIn}
use Rattle.etcs_rows.specs.Places.{read_of}
use Rattle.etcs_rows.proofs.RowLaws.{read_is}
use Rattle.etcs_tables.specs.declared.row.Way.{Way}
use Rattle.etcs_rows.specs.declared.frames.Carrier.{Carrier}
use Rattle.etcs_tables.specs.Rows.{row_to}
use Rattle.etcs_rows.specs.Frames.{way_of}
use Rattle.etcs_packets.specs.PacketValues.{Form}
use Rattle.etcs_packets.specs.PacketReadings.{in_frame}
use Rattle.etcs_sequence.specs.Contents.{PacketsIn}
use Rattle.etcs_sequence.specs.Runs.{row_so_far}
use Rattle.etcs_reader.specs.Rests.{Goes}
use Rattle.etcs_sequence.specs.declared.stage.Stage.{Stage}
use Rattle.etcs_sequence.specs.declared.stage.Stage.TheVariants.{Number, Marker, Direction, Length, Row, Kept, Closed}
use Rattle.etcs_sequence.specs.Lefts.{left_of, RowHere, Here, HoldsAt}
use Rattle.etcs_sequence.specs.Held.{here_of, list_holds, packets_so_far}

row_is : (way : Way) (nid dir len : ℕ) (left : Layout) (f : List ℕ) (h : Reading) → ((u : Reading) × ReadsIn left len u) → RowHere way nid dir left len f h → h ≡ row_so_far way (row_to way nid) nid dir f len
row_is way nid dir len left f h (u, l) r =
    let whole-is = r.residual.from u l in
    let read-is : read_of r.row f ≡ r.read = ap (read_of r.row) (sym r.numbers_are) ∙ read_is r.row r.read u r.looks_well whole-is.0 in
    let bits : length (spelled (r.read ++ u)) ≡ length (spelled r.read) + length (spelled u) = ap length (spelled-append r.read u) ∙ length-append (spelled r.read) (spelled u) in
    let total : r.total ≡ length (spelled (read_of r.row f)) + len = (let e = ap (λ (t : Reading). length (spelled t)) read-is in omega (arith, bits, whole-is.1, l.1, e)) in
    let same : in_frame way nid dir r.total r.read ≡ row_so_far way (Some r.row) nid dir f len = rw (total, read-is) refl in
    r.here ∙ same ∙ ap (λ (o : Option Layout). row_so_far way o nid dir f len) (sym r.typed)

pub first_of : (P Q : Reading → Type 0) → Goes (Then P Q) → (u : Reading) × P u
first_of P Q (r, (u, v, e, l, k)) = (u, l)

-- what is held gives the variables
pub here_is : (c : Carrier) (room : ℕ) (s : Stage) (f : List ℕ) (k : List Bool) (h : Reading) → Goes (left_of c room s) → Here c s f k h → h ≡ here_of c s f k
here_is c room Number f k h g (e, e', is) = is
here_is c room Marker f k h g (e, e', is) = is
here_is c room (Direction nid) f k h g (e, e', is) = is
here_is c room (Length nid dir) f k h g (e, e', is) = is
here_is c room (Row nid dir row) f k h g (e, is) = row_is (way_of c) nid dir row.len row.place f h (first_of (ReadsIn row.place row.len) (PacketsIn c room) g) is
here_is c room (Kept nid dir left) f k h g (e, le, is) = is
here_is c room Closed f k h g (e, e', is) = is

-- those of packets
pub packets_far : {P : Type 0} (form : P → Form) (c : Carrier) (room : ℕ) (s : Stage) (ps : List P) (f : List ℕ) (k : List Bool) (h : Reading) → Goes (left_of c room s) → HoldsAt c s (list_holds form ps f k) h → h ≡ packets_so_far form c s ps f k
packets_far form c room s ps f k h g (vs, m, l, r, (vs_is, (made, (m_is, l_is))), carried, here, e) =
    let is : r ≡ here_of c s f k = here_is c room s m l r g here ∙ rw (m_is, l_is) refl in
    e ∙ rw (vs_is, is) refl
