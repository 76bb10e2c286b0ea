-- Lemmas about specs/TrackPackets.antt.
use Rattle.std.proofs.Common.{◌≡◌, length}
use Rattle.etcs_vars.specs.Reading.{spelled}
use Rattle.etcs_tables.specs.declared.row.Way.TheVariants.{ToTrack}
use Rattle.etcs_packets.specs.PacketValues.{PacketValue}
use Rattle.etcs_packets.specs.laws.PacketReadings.{bits_are}
use Rattle.etcs_track.specs.TrackPackets.{track_bits_of, track_reading}

-- ---- Its bits.

pub track_bits : (v : PacketValue) → length (spelled (track_reading v)) ≡ track_bits_of v
track_bits v = bits_are ToTrack v
