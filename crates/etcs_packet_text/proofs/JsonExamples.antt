-- The definitions, computed on packets.
use Rattle.std.proofs.Common.{◌≡◌, [], ◌∷◌, refl}
use Rattle.std.specs.Prelude.{codes}
use Rattle.std.specs.Fmt.{digits}
use Rattle.json.specs.Print.{escape_byte}
use Rattle.serde_json.specs.Written.{compact_text}
use Rattle.etcs_vars.specs.declared.var.Var.TheVariants.{Q_SRSTOP, NID_RADIO, M_ERROR}
use Rattle.etcs_tables.specs.declared.row.Way.TheVariants.{ToTrain, ToTrack}
use Rattle.etcs_packets.specs.PacketValues as packet
use Rattle.etcs_packet_text.specs.Trees.{packet_tree, pair_tree}

pub typed_packet : compact_text (packet_tree ToTrain (packet.typed 137 1 ((Q_SRSTOP, 1) ∷ []))) ≡ codes "{\"dir\":1,\"fields\":[[\"Q_SRSTOP\",1]],\"nid\":137}"
unfolding digits escape_byte
typed_packet = refl

pub train_packet : compact_text (packet_tree ToTrack (packet.typed 4 0 ((M_ERROR, 1) ∷ []))) ≡ codes "{\"fields\":[[\"M_ERROR\",1]],\"nid\":4}"
unfolding digits escape_byte
train_packet = refl

-- the digits of NID_RADIO
pub radio_pair : compact_text (pair_tree (NID_RADIO, 1311768467750121216)) ≡ codes "[\"NID_RADIO\",\"12345678abcdef00\"]"
unfolding digits escape_byte
radio_pair = refl
