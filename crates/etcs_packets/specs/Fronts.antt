-- What comes before a packet's variables or kept bits (SUBSET-026, 7.4).
use Rattle.std.specs.Prelude.{[], ◌∷◌, length}
use Rattle.etcs_vars.specs.declared.var.Var.TheVariants.{NID_PACKET}
use Rattle.etcs_vars.specs.Reading.{Reading, spelled}
use Rattle.etcs_packets.specs.PacketValues.{PacketValue, marker, typed, kept}
use Rattle.etcs_packets.specs.PacketReadings.{frame}

-- the frame, or the number alone of packet 0
abbrev pub front_of : PacketValue → Reading
front_of (marker n) = (NID_PACKET, 0) ∷ []
front_of (typed nid dir r) = frame nid dir (length (spelled r))
front_of (kept nid dir b) = frame nid dir (length b)
