-- What a message is but for its packets and PADDING (SUBSET-026, chapter 8).
use Rattle.std.specs.Prelude.{◌≡◌, ℕ, ◌-◌, ◌*◌, ◌≤◌, Bool, List, length}
use Rattle.etcs_bits.specs.Bits.{part}
use Rattle.etcs_vars.specs.Reading.{Reading, spelled}
use Rattle.etcs_tables.specs.declared.row.Way.{Way}
use Rattle.etcs_rows.specs.declared.frames.Carrier.TheVariants.{Message}
use Rattle.etcs_packets.specs.PacketValues.{PacketValue}
use Rattle.etcs_sequence.specs.AtOnce.{RunAt}
use Rattle.etcs_messages.specs.declared.whole.Outline.{Outline}
use Rattle.etcs_messages.specs.declared.whole.Outline.TheVariants.{Typed, Kept}
use Rattle.etcs_messages.specs.Kinds.{OwnOf}
use Rattle.etcs_messages.specs.Messages.{MessageValue, typed_message, kept_message, MessageReads}

-- the first bits are the message's, as many as this number of bytes has
abbrev pub BeginsWith : Way → List Bool → ℕ → MessageValue → Type 0
BeginsWith way xs bytes m = (r : Reading) × MessageReads way m r × (spelled r ≡ part 0 (8 * bytes) xs)

-- the bits begin with a message of this outline and this many bytes: with the packets of its room, whatever they are, and
-- the bits after them as PADDING
abbrev pub IsOutline : {H B : Type 0} → Way → (H → Reading) → (B → Reading) → OwnOf B → List Bool → ℕ → Outline H B → Type 0
IsOutline way head_of body_of own xs bytes (Typed head body front) =
    (front ≤ 8 * bytes) × (8 * bytes ≤ length xs) × ((vs : List PacketValue) (left : ℕ) → RunAt (Message way) (8 * bytes - front) (λ us f k. us ≡ vs) xs front left → BeginsWith way xs bytes (typed_message (own.nid body) (head_of head) (body_of body) vs (part (8 * bytes - left) left xs)))
IsOutline way head_of body_of own xs bytes (Kept nid b) = BeginsWith way xs bytes (kept_message nid b)
