-- What packets leave of the longest message.
use Rattle.std.proofs.Common.{◌≡◌, ℕ, ◌+◌, ◌<◌, List, Some, None, length, arith}
use Rattle.std.specs.Prelude.{Option, IfSome, IfNone}
use Rattle.etcs_vars.specs.Reading.{spelled}
use Rattle.etcs_tables.specs.declared.row.Way.{Way}
use Rattle.etcs_packets.specs.PacketValues.{Form}
use Rattle.etcs_packets.specs.PacketReadings.{readings_to}
use Rattle.etcs_messages.specs.Kinds.{OwnOf}
use Rattle.etcs_messages.specs.Messages.{values_of, all_bits, front_of}

-- the room is what the front leaves
pub fit_some : {B P : Type 0} (way : Way) (bd : OwnOf B) (form : P → Form) (body : B) (ps : List P) (room : ℕ) → front_of way (bd.reading body) + room ≡ 8184 → (o : Option ℕ) → IfSome o (λ left. length (spelled (readings_to way (values_of form ps))) + left ≡ room) → IfSome o (λ left. all_bits way bd form body ps + left ≡ 8184)
fit_some way bd form body ps room e None h = tt
fit_some way bd form body ps room e (Some left) h = omega (arith, e, h)

pub fit_none : {B P : Type 0} (way : Way) (bd : OwnOf B) (form : P → Form) (body : B) (ps : List P) (room : ℕ) → front_of way (bd.reading body) + room ≡ 8184 → (o : Option ℕ) → IfNone o (room < length (spelled (readings_to way (values_of form ps)))) → IfNone o (8184 < all_bits way bd form body ps)
fit_none way bd form body ps room e None h = omega (arith, e, h)
fit_none way bd form body ps room e (Some left) h = tt
