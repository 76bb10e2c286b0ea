-- Laws of messages to the track (SUBSET-026, chapter 8).
use Rattle.std.specs.Prelude.{◌≡◌, ℕ, ◌*◌, ◌-◌, ◌≤◌, ◌↔◌, ◌⊎◌, List, [], length, All, Some}
use Rattle.etcs_vars.specs.Reading.{Reading, spelled, Viable, IsAdmitted}
use Rattle.etcs_tables.specs.declared.row.Way.TheVariants.{ToTrack}
use Rattle.etcs_tables.specs.Layouts.{Layout, Reads}
use Rattle.etcs_tables.specs.Rows.{message_row_to}
use Rattle.etcs_rows.specs.declared.frames.Carrier.TheVariants as carrier
use Rattle.etcs_packets.specs.PacketValues.{PacketValue}
use Rattle.etcs_sequence.specs.Contents.{Carries}
use Rattle.etcs_messages.specs.Messages.{head_reading}
use Rattle.etcs_messages.specs.Promises as promises
use Rattle.etcs_messages.specs.Readers as readers
use Rattle.etcs_track.specs.TrackPackets.{track_form}
use Rattle.etcs_train.specs.declared.body.TrainHead.{TrainHead}
use Rattle.etcs_train.specs.Bodies.{head_variables, train_head, train_body}
use Rattle.etcs_train.specs.Messages.{MessageLanguage}

-- two messages of which one's spelling begins the other's are the same, and nothing follows
abbrev pub OneSpelling : Type 0
OneSpelling = promises.OneSpelling ToTrack train_head train_body track_form

-- of the same bits, any two packets, numbers, kept bits, part and taken with HeldIn are equal, all five
abbrev pub OneHolding : Type 0
OneHolding = readers.OneHolding ToTrack track_form

-- a header, the variables of its row and packets, one after another
abbrev pub begun : ℕ → ℕ → TrainHead → Reading → List PacketValue → Reading
begun nid len head body vs = promises.begun ToTrack nid len (head_variables head) body vs

-- an admitted header, a reading of its row and packets begin a message exactly if they are at most its bits and leave
-- at most 7 of them or at least 21
abbrev pub RoomRule : Type 0
RoomRule =
    (nid len : ℕ) (head : TrainHead) (row : Layout) (body : Reading) (vs : List PacketValue)
    → message_row_to ToTrack nid ≡ Some row → IsAdmitted (head_reading nid len (head_variables head)) → Reads row [] body → All (Carries (carrier.Message ToTrack)) vs
    → (Viable (MessageLanguage) (spelled (begun nid len head body vs)) ↔ ((length (spelled (begun nid len head body vs)) ≤ 8 * len) × ((8 * len - length (spelled (begun nid len head body vs)) ≤ 7) ⊎ (21 ≤ 8 * len - length (spelled (begun nid len head body vs))))))
