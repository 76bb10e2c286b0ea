-- What a sink holds that took variables, one after another.
use Rattle.std.proofs.Common.{◌≡◌, ℕ, ◌+◌, ◌≤◌, List, [], ◌∷◌, ◌++◌, length, Some, None, Result, Ok, Err, refl, ap, sym, ◌∙◌, arith}
use Rattle.std.specs.Prelude.{Bool, Option, OnOk, map}
use Rattle.std.proofs.lemmas.List.{length-append}
use Rattle.etcs_vars.specs.declared.var.Var.TheVariants.{NID_PACKET, L_PACKET}
use Rattle.etcs_vars.specs.Reading.{Reading, spelled}
use Rattle.etcs_vars.specs.laws.Spellings.{spelled-append}
use Rattle.etcs_tables.specs.declared.row.Way.{Way}
use Rattle.etcs_tables.specs.declared.row.Way.TheVariants.{ToTrain, ToTrack}
use Rattle.etcs_tables.specs.Frames.{frame_bits, directed}
use Rattle.etcs_tables.specs.Layouts.{Layout, ReadsIn, whole, one, guarded, counted}
use Rattle.etcs_rows.specs.declared.frames.Carrier.{Carrier}
use Rattle.etcs_rows.specs.Frames.{way_of}
use Rattle.etcs_rows.specs.Places.{first_variable, read_of}
use Rattle.etcs_packets.specs.PacketValues.{Form}
use Rattle.etcs_packets.specs.PacketReadings.{readings_to}
use Rattle.etcs_packets.specs.laws.PacketReadings.{directed-append, length-in_frame}
use Rattle.etcs_sequence.specs.declared.stage.Stage.{Stage}
use Rattle.etcs_sequence.specs.Held.{here_of, packets_so_far}
use Rattle.etcs_sequence.specs.Lefts.{RowHere}
use Rattle.etcs_sequence.specs.Runs.{row_so_far}

-- two runs, which are all of q
pub two_sent : {S : Type 0} (with : S → Reading → S) → ((s : S) (a b : Reading) → with s (a ++ b) ≡ with (with s a) b) → (old mid new : S) (a b q : Reading) → mid ≡ with old a → new ≡ with mid b → q ≡ a ++ b → new ≡ with old q
two_sent {S} with both old mid new a b q first second is = second ∙ ap (λ (t : S). with t b) first ∙ sym (both old a b) ∙ ap (with old) (sym is)

pub two_sent_ok : {S T E : Type 0} (with : S → Reading → S) → ((s : S) (a b : Reading) → with s (a ++ b) ≡ with (with s a) b) → (r : Result T E) (old mid new : S) (a b q : Reading) → mid ≡ with old a → OnOk r (new ≡ with mid b) → q ≡ a ++ b → OnOk r (new ≡ with old q)
two_sent_ok with both (Ok x) old mid new a b q first second is = two_sent with both old mid new a b q first second is
two_sent_ok with both (Err x) old mid new a b q first second is = tt

-- ---- The numbers of a row.

-- if no variable comes next, there are none
pub read_ended : (row : Layout) (n : ℕ) (f : List ℕ) → first_variable row ≡ None → read_of row (n ∷ f) ≡ []
read_ended whole n f e = refl
read_ended (one w rest) n f e = absurd cc
read_ended (guarded g group rest) n f e = refl
read_ended (counted group rest) n f e = refl

-- ---- A packet of whose row this many bits are left.

frame_short : (way : Way) → frame_bits way ≤ 40
frame_short ToTrain = omega arith
frame_short ToTrack = omega arith

module _ (way : Way) (nid dir len : ℕ) where
  -- its frame, and the numbers of its row
  pub framed_cut : (length : ℕ) (r : Reading) → (NID_PACKET, nid) ∷ directed way dir ((L_PACKET, length) ∷ r) ≡ ((NID_PACKET, nid) ∷ directed way dir ((L_PACKET, length) ∷ [])) ++ r
  framed_cut length r = ap (λ (t : Reading). (NID_PACKET, nid) ∷ t) (sym (directed-append way dir ((L_PACKET, length) ∷ []) r))

  -- its length, by how many bits were read
  pub row_sent : (o : Option Layout) (row : Layout) (f : List ℕ) (here : ℕ) → o ≡ Some row → here ≡ length (spelled (row_so_far way o nid dir f len)) → (NID_PACKET, nid) ∷ directed way dir ((L_PACKET, here + len) ∷ read_of row f) ≡ row_so_far way o nid dir f len
  row_sent o row f here is long =
      let r = read_of row f in
      let bits : here ≡ frame_bits way + length (spelled r) = rw is at long ∙ length-in_frame way nid dir (length (spelled r) + len) r in
      let all : here + len ≡ frame_bits way + (length (spelled r) + len) = omega (arith, bits) in
      rw is (ap (λ (n : ℕ). (NID_PACKET, nid) ∷ directed way dir ((L_PACKET, n) ∷ r)) all)

  -- which L_PACKET counts
  pub row_short : (left : Layout) (f : List ℕ) (h : Reading) → ((u : Reading) × ReadsIn left len u) → RowHere way nid dir left len f h → length (spelled h) + len ≤ 8191
  row_short left f h (u, l) r =
      let all = r.residual.from u l in
      let bits : length (spelled (r.read ++ u)) ≡ length (spelled r.read) + length (spelled u) = ap length (spelled-append r.read u) ∙ length-append (spelled r.read) (spelled u) in
      let long = ap (λ (t : Reading). length (spelled t)) r.here ∙ length-in_frame way nid dir r.total r.read in
      let short = r.short in
      omega (arith, bits, all.1, l.1, long, short, frame_short way)

-- how many bits the packets before take, and how many that one
pub taken_cut : {P : Type 0} (form : P → Form) (c : Carrier) (s : Stage) (ps : List P) (f : List ℕ) (k : List Bool) (taken : ℕ) → taken ≡ length (spelled (packets_so_far form c s ps f k)) → taken ≡ length (spelled (readings_to (way_of c) (map (λ p. (form p).value) ps))) + length (spelled (here_of c s f k))
taken_cut form c s ps f k taken e =
    let before = readings_to (way_of c) (map (λ p. (form p).value) ps) in
    let here = here_of c s f k in
    e ∙ ap length (spelled-append before here) ∙ length-append (spelled before) (spelled here)
