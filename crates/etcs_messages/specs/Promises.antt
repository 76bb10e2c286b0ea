-- Laws of messages (SUBSET-026, chapter 8).
use Rattle.std.specs.Prelude.{◌≡◌, ℕ, ◌*◌, ◌-◌, ◌≤◌, ◌↔◌, ◌⊎◌, Bool, List, [], ◌++◌, length, All, Some}
use Rattle.etcs_vars.specs.Reading.{Reading, spelled, Viable, IsAdmitted}
use Rattle.etcs_tables.specs.declared.row.Way.{Way}
use Rattle.etcs_tables.specs.Frames.{frame_bits}
use Rattle.etcs_rows.specs.declared.frames.Carrier.TheVariants as carrier
use Rattle.etcs_tables.specs.Layouts.{Layout, Reads}
use Rattle.etcs_tables.specs.Rows.{message_row_to}
use Rattle.etcs_reader.specs.Fields.{ReadsFields}
use Rattle.etcs_packets.specs.PacketValues.{PacketValue, Form}
use Rattle.etcs_packets.specs.PacketReadings.{readings_to}
use Rattle.etcs_sequence.specs.Contents.{Carries}
use Rattle.etcs_messages.specs.Kinds.{HeadOf, OwnOf}
use Rattle.etcs_tables.specs.Headers.{head_row}
use Rattle.etcs_messages.specs.declared.message.Content.{Content}
use Rattle.etcs_messages.specs.Messages.{IsMessage, MessageReads, MessageLanguage, head_reading, message_value}

-- two messages of which one's spelling begins the other's are the same, and nothing follows
abbrev pub OneSpelling : {H B P : Type 0} → Way → HeadOf H → OwnOf B → (P → Form) → Type 0
OneSpelling {H} {B} {P} way k o form = (m n : Content H B P) (a b : Reading) (beyond : List Bool) → IsMessage way k o form m → IsMessage way k o form n → MessageReads way (message_value way k o form m) a → MessageReads way (message_value way k o form n) b → spelled b ≡ spelled a ++ beyond → (m ≡ n) × (beyond ≡ [])

-- a header, the variables of its row and packets, one after another
abbrev pub begun : Way → ℕ → ℕ → Reading → Reading → List PacketValue → Reading
begun way nid len head body vs = head_reading nid len head ++ body ++ readings_to way vs

-- an admitted header, a reading of its row and packets begin a message exactly if they are at most its bits and leave
-- at most 7 of them or at least the frame of a packet: 23 to the train, 21 to the track
abbrev pub RoomRule : Way → Type 0
RoomRule way =
    (nid len : ℕ) (head : Reading) (row : Layout) (body : Reading) (vs : List PacketValue)
    → message_row_to way nid ≡ Some row → ReadsFields (head_row way) head → IsAdmitted (head_reading nid len head) → Reads row [] body → All (Carries (carrier.Message way)) vs
    → (Viable (MessageLanguage way) (spelled (begun way nid len head body vs)) ↔ ((length (spelled (begun way nid len head body vs)) ≤ 8 * len) × ((8 * len - length (spelled (begun way nid len head body vs)) ≤ 7) ⊎ (frame_bits way ≤ 8 * len - length (spelled (begun way nid len head body vs))))))
