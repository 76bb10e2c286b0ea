-- Laws of messages to the train (SUBSET-026, chapter 8).
use Rattle.std.specs.Prelude.{◌≡◌, ℕ, ◌*◌, ◌-◌, ◌≤◌, ◌↔◌, ◌⊎◌, List, [], length, All, Some}
use Rattle.etcs_vars.specs.Reading.{Reading, spelled, Viable, IsAdmitted}
use Rattle.etcs_tables.specs.declared.row.Way.TheVariants.{ToTrain}
use Rattle.etcs_rows.specs.declared.frames.Carrier.TheVariants as carrier
use Rattle.etcs_tables.specs.Layouts.{Layout, Reads}
use Rattle.etcs_tables.specs.Rows.{message_row_to}
use Rattle.etcs_packets.specs.PacketValues.{PacketValue, form}
use Rattle.etcs_sequence.specs.Contents.{Carries}
use Rattle.etcs_messages.specs.Messages.{head_reading}
use Rattle.etcs_messages.specs.Promises as promises
use Rattle.etcs_messages.specs.Readers as readers
use Rattle.etcs_radio.specs.declared.body.RadioHead.{RadioHead}
use Rattle.etcs_radio.specs.Bodies.{head_variables, radio_head, radio_body}
use Rattle.etcs_radio.specs.Messages.{MessageLanguage}

-- two messages of which one's spelling begins the other's are the same, and nothing follows
abbrev pub OneSpelling : Type 0
OneSpelling = promises.OneSpelling ToTrain radio_head radio_body form

-- of the same bits, any two packets, numbers, kept bits, part and taken with HeldIn are equal, all five
abbrev pub OneHolding : Type 0
OneHolding = readers.OneHolding ToTrain form

-- a header, the variables of its row and packets, one after another
abbrev pub begun : ℕ → ℕ → RadioHead → Reading → List PacketValue → Reading
begun nid len head body vs = promises.begun ToTrain nid len (head_variables head) body vs

-- an admitted header, a reading of its row and packets begin a message exactly if they are at most its bits and leave
-- at most 7 of them or at least 23
abbrev pub RoomRule : Type 0
RoomRule =
    (nid len : ℕ) (head : RadioHead) (row : Layout) (body : Reading) (vs : List PacketValue)
    → message_row_to ToTrain nid ≡ Some row → IsAdmitted (head_reading nid len (head_variables head)) → Reads row [] body → All (Carries (carrier.Message ToTrain)) vs
    → (Viable MessageLanguage (spelled (begun nid len head body vs)) ↔ ((length (spelled (begun nid len head body vs)) ≤ 8 * len) × ((8 * len - length (spelled (begun nid len head body vs)) ≤ 7) ⊎ (23 ≤ 8 * len - length (spelled (begun nid len head body vs))))))
