-- The definitions, computed on whole items.
use Rattle.std.proofs.Common.{◌≡◌, true, false, [], ◌∷◌, refl}
use Rattle.std.specs.Prelude.{codes, replicate}
use Rattle.std.specs.Fmt.{digits}
use Rattle.json.specs.Print.{escape_byte}
use Rattle.serde_json.specs.Written.{compact_text}
use Rattle.etcs_vars.specs.declared.var.Var.TheVariants.{T_TRAIN, M_ACK, NID_LRBG, NID_EM, NID_ENGINE, Q_STATUS}
use Rattle.etcs_vars.specs.Reading.{Reading}
use Rattle.etcs_tables.specs.declared.row.Way.TheVariants.{ToTrain, ToTrack}
use Rattle.etcs_packets.specs.PacketValues as packet
use Rattle.etcs_messages.specs.Messages.{typed_message, kept_message}
use Rattle.etcs_telegram.specs.declared.size.Size.TheVariants.{Short}
use Rattle.etcs_telegram.specs.Telegrams.{HeaderValue}
use Rattle.etcs_text.specs.Entries.{of_message, of_telegram}
use Rattle.etcs_text.specs.Trees.{json_tree}

abbrev head : Reading
head = (T_TRAIN, 0) ∷ (M_ACK, 0) ∷ (NID_LRBG, 16385) ∷ []

abbrev header : HeaderValue
header = record { m_version = 16; n_pig = 0; n_total = 1; m_dup = 0; m_mcount = 255; nid_c = 1; nid_bg = 2; q_link = true }

-- an emergency stop
pub stop_line : compact_text (json_tree (of_message ToTrain (typed_message 16 head ((NID_EM, 5) ∷ []) [] (false ∷ [])))) ≡ codes "{\"fields\":[[\"NID_EM\",5]],\"header\":[[\"T_TRAIN\",0],[\"M_ACK\",0],[\"NID_LRBG\",16385]],\"kind\":\"radio\",\"nid\":16,\"packets\":[],\"padding\":\"0\"}"
unfolding digits escape_byte
stop_line = refl

-- message 15, which is kept as bits
pub kept_line : compact_text (json_tree (of_message ToTrain (kept_message 15 (replicate 6 true)))) ≡ codes "{\"data\":\"111111\",\"kind\":\"radio\",\"nid\":15}"
unfolding digits escape_byte
kept_line = refl

-- packet 0 and a packet that is kept as bits
pub telegram_line : compact_text (json_tree (of_telegram (record { size = Short; header = header; packets = packet.marker 5 ∷ packet.kept 44 2 (true ∷ []) ∷ []; fill = true ∷ true ∷ [] }))) ≡ codes "{\"fill\":\"11\",\"header\":[[\"Q_UPDOWN\",1],[\"M_VERSION\",16],[\"Q_MEDIA\",0],[\"N_PIG\",0],[\"N_TOTAL\",1],[\"M_DUP\",0],[\"M_MCOUNT\",255],[\"NID_C\",1],[\"NID_BG\",2],[\"Q_LINK\",1]],\"kind\":\"short\",\"packets\":[{\"fields\":[[\"NID_VBCMK\",5]],\"nid\":0},{\"data\":\"1\",\"dir\":2,\"nid\":44}]}"
unfolding digits escape_byte
telegram_line = refl

-- to the track no packet has a direction
pub train_line : compact_text (json_tree (of_message ToTrack (typed_message 157 ((T_TRAIN, 0) ∷ (NID_ENGINE, 7) ∷ []) ((Q_STATUS, 1) ∷ []) (packet.kept 44 0 (true ∷ []) ∷ []) (replicate 6 false)))) ≡ codes "{\"fields\":[[\"Q_STATUS\",1]],\"header\":[[\"T_TRAIN\",0],[\"NID_ENGINE\",7]],\"kind\":\"train\",\"nid\":157,\"packets\":[{\"data\":\"1\",\"nid\":44}],\"padding\":\"000000\"}"
unfolding digits escape_byte
train_line = refl
