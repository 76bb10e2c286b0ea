-- The definitions, computed on whole messages.
use Rattle.std.proofs.Common.{◌≡◌, true, false, [], ◌∷◌, refl}
use Rattle.std.specs.Prelude.{codes, replicate}
use Rattle.std.specs.Fmt.{digits}
use Rattle.etcs_bits.specs.Bits.{num}
use Rattle.etcs_vars.specs.declared.var.Var.TheVariants.{T_TRAIN, M_ACK, NID_LRBG, Q_SRSTOP, NID_EM, Q_SCALE, D_REF, NID_ENGINE, Q_STATUS}
use Rattle.etcs_vars.specs.Reading.{Reading}
use Rattle.etcs_tables.specs.declared.row.Way.TheVariants.{ToTrain, ToTrack}
use Rattle.etcs_packets.specs.PacketValues as packet
use Rattle.etcs_messages.specs.Messages.{typed_message, kept_message}
use Rattle.etcs_text.specs.Messages.{message_text}

abbrev head : Reading
head = (T_TRAIN, 0) ∷ (M_ACK, 0) ∷ (NID_LRBG, 16385) ∷ []

-- a packet 137 after the header, and five bits of PADDING
pub packet_text : message_text ToTrain (typed_message 24 head [] (packet.typed 137 1 ((Q_SRSTOP, 1) ∷ []) ∷ []) (replicate 5 false)) 1 ≡ codes "item 1 radio 104 bits\n  NID_MESSAGE 24\n  L_MESSAGE 13\n  T_TRAIN 0\n  M_ACK 0\n  NID_LRBG 16385\npacket 137\n  Q_DIR 1\n  L_PACKET 24\n  Q_SRSTOP 1\nend\n  PADDING 5 00000\n"
unfolding digits num message_text
packet_text = refl

-- an emergency stop whose bit of PADDING is set
pub emergency_text : message_text ToTrain (typed_message 16 head ((NID_EM, 5) ∷ []) [] (true ∷ [])) 2 ≡ codes "item 2 radio 80 bits\n  NID_MESSAGE 16\n  L_MESSAGE 10\n  T_TRAIN 0\n  M_ACK 0\n  NID_LRBG 16385\n  NID_EM 5\nend\n  PADDING 1 1\n"
unfolding digits num message_text
emergency_text = refl

-- a location that is moved by -100
pub shifted_text : message_text ToTrain (typed_message 33 head ((Q_SCALE, 1) ∷ (D_REF, 65436) ∷ []) [] (replicate 3 false)) 1 ≡ codes "item 1 radio 96 bits\n  NID_MESSAGE 33\n  L_MESSAGE 12\n  T_TRAIN 0\n  M_ACK 0\n  NID_LRBG 16385\n  Q_SCALE 1\n  D_REF -100\nend\n  PADDING 3 000\n"
unfolding digits num message_text
shifted_text = refl

-- message 15, which is kept as bits
pub kept_text : message_text ToTrain (kept_message 15 (replicate 6 true)) 1 ≡ codes "item 1 radio 24 bits\n  NID_MESSAGE 15\n  L_MESSAGE 3\n  OTHER_DATA 6 111111\n"
unfolding digits num message_text
kept_text = refl

-- to the track no packet has a direction
pub train_text : message_text ToTrack (typed_message 157 ((T_TRAIN, 0) ∷ (NID_ENGINE, 7) ∷ []) ((Q_STATUS, 1) ∷ []) (packet.kept 44 0 (true ∷ []) ∷ []) (replicate 6 false)) 1 ≡ codes "item 1 train 104 bits\n  NID_MESSAGE 157\n  L_MESSAGE 13\n  T_TRAIN 0\n  NID_ENGINE 7\n  Q_STATUS 1\npacket 44\n  L_PACKET 22\n  OTHER_DATA 1 1\nend\n  PADDING 6 000000\n"
unfolding digits num message_text
train_text = refl
