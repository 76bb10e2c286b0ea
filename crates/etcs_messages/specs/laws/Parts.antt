-- A message's reading in parts.
use Rattle.std.proofs.Common.{◌≡◌, Bool, List, ◌++◌, append_assoc, refl}
use Rattle.std.specs.Prelude.{Some, None}
use Rattle.etcs_bits.specs.Bits.{num}
use Rattle.etcs_vars.specs.declared.var.Var.TheVariants.{OTHER_DATA, PADDING}
use Rattle.etcs_vars.specs.Reading.{Reading, kept}
use Rattle.etcs_tables.specs.declared.row.Way.{Way}
use Rattle.etcs_packets.specs.PacketValues.{Form}
use Rattle.etcs_packets.specs.PacketReadings.{readings_to}
use Rattle.etcs_messages.specs.declared.message.Content.{Content}
use Rattle.etcs_messages.specs.declared.message.Content.TheVariants.{Typed, Kept}
use Rattle.etcs_messages.specs.Kinds.{HeadOf, OwnOf}
use Rattle.etcs_messages.specs.Messages.{values_of}
use Rattle.etcs_messages.specs.Readings.{front_reading, kept_of, message_reading, packets_of, padding_bits_of, padding_of}

-- packets and PADDING
abbrev pub closed_message : {H B P : Type 0} → Way → OwnOf B → (P → Form) → Content H B P → Reading
closed_message way o form m = readings_to way (values_of form (packets_of m)) ++ kept PADDING (num (padding_bits_of way o form m) (padding_of m))

module _ {H B P : Type 0} (way : Way) (k : HeadOf H) (o : OwnOf B) (form : P → Form) where
  pub typed_by : (m : Content H B P) → kept_of m ≡ None → message_reading way k o form m ≡ front_reading way k o form m ++ closed_message way o form m
  typed_by (Typed head body ps padding) h = append_assoc (front_reading way k o form (Typed head body ps padding)) (readings_to way (values_of form ps)) _
  typed_by (Kept nid b) h = absurd cc

  pub kept_by : (m : Content H B P) (b : List Bool) → kept_of m ≡ Some b → message_reading way k o form m ≡ front_reading way k o form m ++ kept OTHER_DATA b
  kept_by (Typed head body ps padding) b h = absurd cc
  kept_by (Kept nid c) b h = let e : c ≡ b = cc in rw e refl
