-- What a packet to the track stands for (SUBSET-026, 7.4.3), and the clauses of its own type about it. To the track
-- every packet has the direction 0, which isn't sent.
use Rattle.std.specs.Prelude.{◌≡◌, ℕ, List, length, None}
use Rattle.etcs_vars.specs.Reading.{Reading}
use Rattle.etcs_tables.specs.declared.row.Way.TheVariants.{ToTrack}
use Rattle.etcs_bodies.specs.Formats.{Is, reading}
use Rattle.etcs_flat.specs.Flats.{flat_fault_to, flat_reading_to}
use Rattle.etcs_flat.specs.Others.{other_fault}
use Rattle.etcs_packets.specs.PacketValues.{PacketValue, typed, kept, Form, form_of, bits_to}
use Rattle.etcs_packets.specs.PacketReadings.{reading_to}
use Rattle.etcs_track.specs.Reports.{position_report_format, position_report_two_format}
use Rattle.etcs_track.specs.declared.train_packet.TrainPacket.{TrainPacket}
use Rattle.etcs_track.specs.declared.train_packet.TrainPacket.TheVariants.{Report, ReportTwo, Fault, RunningNumber, Other}

-- the form of a packet without groups
abbrev flat_form : ℕ → List ℕ → Form
flat_form nid ns = form_of (typed nid 0 (flat_reading_to ToTrack nid ns)) (flat_fault_to ToTrack nid 0 ns ≡ None)

-- of a packet to the track what it stands for, and the clauses of the type of its own variant about it
abbrev pub track_form : TrainPacket → Form
track_form (Report p) = form_of (typed 0 0 (reading position_report_format p)) (Is position_report_format p)
track_form (ReportTwo p) = form_of (typed 1 0 (reading position_report_two_format p)) (Is position_report_two_format p)
track_form (Fault ns) = flat_form 4 ns
track_form (RunningNumber ns) = flat_form 5 ns
track_form (Other p) = form_of (kept p.nid 0 p.body) (other_fault ToTrack p.nid 0 (length p.body) ≡ None)

-- what a packet to the track stands for: number, direction 0 and variables of a typed packet; number, direction 0 and
-- bits of a kept one
abbrev pub track_value : TrainPacket → PacketValue
track_value p = (track_form p).value

-- the clauses of the type of a packet's own variant about it
abbrev pub IsTrackMade : TrainPacket → Type 0
IsTrackMade p = (track_form p).made

-- how many bits a packet takes to the track with its frame: 21 and the bits after it
abbrev pub track_bits_of : PacketValue → ℕ
track_bits_of v = bits_to ToTrack v

-- a packet's variables to the track, in the order of sending: NID_PACKET, L_PACKET (21 and the bits after it), and the
-- row's variables or OTHER_DATA bit by bit
abbrev pub track_reading : PacketValue → Reading
track_reading v = reading_to ToTrack v
