-- The variables of packets so far, by what is held of them (SUBSET-026, 7.4 and 8).
use Rattle.std.specs.Prelude.{◌≡◌, ℕ, ◌+◌, Bool, List, [], ◌∷◌, ◌++◌, length, map, All}
use Rattle.etcs_vars.specs.declared.var.Var.TheVariants.{NID_PACKET, OTHER_DATA}
use Rattle.etcs_vars.specs.Reading.{Reading, kept}
use Rattle.etcs_rows.specs.declared.frames.Carrier.{Carrier}
use Rattle.etcs_rows.specs.Frames.{way_of}
use Rattle.etcs_tables.specs.Rows.{row_to}
use Rattle.etcs_tables.specs.Frames.{directed}
use Rattle.etcs_packets.specs.PacketValues.{PacketValue, Form}
use Rattle.etcs_packets.specs.PacketReadings.{in_frame, readings_to}
use Rattle.etcs_sequence.specs.Contents.{closing}
use Rattle.etcs_sequence.specs.Runs.{row_so_far}
use Rattle.etcs_sequence.specs.declared.stage.Stage.{Stage}
use Rattle.etcs_sequence.specs.declared.stage.Stage.TheVariants.{Number, Marker, Direction, Length, Row, Kept, Closed}

-- the variables so far of the packet that is being read, by the numbers f of its row or the bits k that are kept
abbrev pub here_of : Carrier → Stage → List ℕ → List Bool → Reading
here_of c Number f k = []
here_of c Marker f k = (NID_PACKET, 0) ∷ []
here_of c (Direction nid) f k = (NID_PACKET, nid) ∷ []
here_of c (Length nid dir) f k = (NID_PACKET, nid) ∷ directed (way_of c) dir []
here_of c (Row nid dir row) f k = row_so_far (way_of c) (row_to (way_of c) nid) nid dir f row.len
here_of c (Kept nid dir left) f k = in_frame (way_of c) nid dir (length k + left) (kept OTHER_DATA k)
here_of c Closed f k = closing c

-- the variables of the packets ps, and then those that were read of the next one at the stage s, whose numbers are f
-- and whose kept bits are k
abbrev pub packets_so_far : {P : Type 0} → (P → Form) → Carrier → Stage → List P → List ℕ → List Bool → Reading
packets_so_far form c s ps f k = readings_to (way_of c) (map (λ p. (form p).value) ps) ++ here_of c s f k

-- a list of the packets ps, the numbers f and the bits k holds exactly these packets, and of the one that is being read
-- exactly these numbers and bits; each packet is one that its own type admits
abbrev pub list_holds : {P : Type 0} → (P → Form) → List P → List ℕ → List Bool → List PacketValue → List ℕ → List Bool → Type 0
list_holds form ps f k vs g l = (vs ≡ map (λ p. (form p).value) ps) × (All (λ p. (form p).made) ps × ((g ≡ f) × (l ≡ k)))
