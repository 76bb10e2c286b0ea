-- Packet 68, the track conditions (SUBSET-026, 7.4.2).
use Rattle.std.proofs.Common.{ℕ, List, Option, ◌⊎◌, inl, inr}
use Rattle.etcs_vars.specs.declared.var.Var.TheVariants.{Q_SCALE, Q_TRACKINIT, D_TRACKINIT}
use Rattle.etcs_vars.specs.declared.fault.BuildFault.{BuildFault}
use Rattle.etcs_bodies.specs.Formats.{Format, number, ◌⊗◌, either, entries}
use Rattle.etcs_bodies.specs.PacketFormats.{PacketFormat, packet_of, packet_fault}
use Rattle.etcs_parts.specs.declared.condition.Condition.{Condition}
use Rattle.etcs_parts.specs.Conditions.{condition_format}
use Rattle.etcs_grouped.specs.declared.track_state.TrackState.{TrackState}
use Rattle.etcs_grouped.specs.declared.track_state.TrackState.TheVariants.{Initial, Conditions}

-- ---- From where on the initial states are resumed, or a first condition and further ones.

-- a distance, or a first condition and further ones
abbrev pub StateValue : Type 0
StateValue = ℕ ⊎ (Condition × List Condition)

-- the state that packet 68 gives, without the memory that holds it: a distance, or a first condition and further ones
abbrev pub state_of : TrackState → StateValue
state_of (Initial n) = inl n
state_of (Conditions first further) = inr (first, further.items)

-- the format of such a state: after Q_TRACKINIT, D_TRACKINIT if it is 1, else the conditions
abbrev pub state_format : Format StateValue
state_format = either Q_TRACKINIT (number D_TRACKINIT) (entries condition_format)

-- ---- The packet.

-- packet 68: its direction and its numbers and parts
pub record TrackConditionValue : Type 0 where
  pub dir : ℕ
  pub q_scale : ℕ
  pub state : StateValue

-- packet 68, of this direction and these numbers and parts, in the order of the constructor's
abbrev pub track_condition_value : ℕ → ℕ → StateValue → TrackConditionValue
track_condition_value dir q_scale state = record { dir = dir; q_scale = q_scale; state = state }

-- the format of packet 68: its direction, and its variables after L_PACKET in the order of sending
abbrev pub track_condition_packet : PacketFormat (ℕ × StateValue) TrackConditionValue
track_condition_packet =
    packet_of (λ p. p.dir) (λ p. (p.q_scale, p.state)) (λ dir b. record { dir = dir; q_scale = b.0; state = b.1 }) (
    number Q_SCALE ⊗ state_format)

-- the first fault of packet 68: the direction, the scale, then the distance or the count of further conditions;
-- the conditions aren't looked at again
abbrev pub track_condition_fault : TrackConditionValue → Option BuildFault
track_condition_fault = packet_fault track_condition_packet
