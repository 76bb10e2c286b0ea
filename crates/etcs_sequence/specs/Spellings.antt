-- That packets in a room are known by their spelling (SUBSET-026, 7.4 and 8).
use Rattle.std.specs.Prelude.{◌≡◌, ℕ, Bool, List, [], ◌++◌}
use Rattle.etcs_vars.specs.Reading.{Reading, spelled}
use Rattle.etcs_rows.specs.declared.frames.Carrier.{Carrier}
use Rattle.etcs_packets.specs.PacketValues.{PacketValue}
use Rattle.etcs_sequence.specs.Contents.{ReadsPackets}

-- packets of one room with one spelling are the same, and none of their spellings begins another
abbrev pub OneSpelling : Type 0
OneSpelling = (c : Carrier) (room : ℕ) (vs us : List PacketValue) (a b : Reading) (beyond : List Bool) → ReadsPackets c room vs a → ReadsPackets c room us b → spelled b ≡ spelled a ++ beyond → (vs ≡ us) × (beyond ≡ [])
