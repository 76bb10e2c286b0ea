-- No two packets to the track stand for one value.
use Rattle.std.proofs.Common.{◌≡◌, ℕ, Bool, List, length, None, refl, ap, ◌∙◌}
use Rattle.etcs_tables.specs.declared.row.Way.TheVariants.{ToTrack}
use Rattle.etcs_flat.specs.Others.{other_fault}
use Rattle.etcs_packets.specs.PacketValues.{kept}
use Rattle.etcs_packets.specs.laws.Variants.{typed_one, ◌also◌, Every, place, found, value_place, one_value}
use Rattle.etcs_track.specs.TrainOthers.{TrainOther, train_other_value}
use Rattle.etcs_track.specs.laws.Reports.{position_report_codes, position_report_two_codes}
use Rattle.etcs_track.specs.laws.TrainFlats.{train_flat_codes}
use Rattle.etcs_track.specs.contracts.train_packet.TrainPacket as packet
use Rattle.etcs_track.specs.declared.train_packet.TrainPacket.{TrainPacket}
use Rattle.etcs_track.specs.declared.train_packet.TrainPacket.TheVariants.{Report}
use Rattle.etcs_track.specs.TrackPackets.{track_form, track_value, IsTrackMade}

-- 255 is the number of no typed packet
other_one : ℕ × ((x y : TrainOther × Unit {0}) → other_fault ToTrack x.0.nid 0 (length x.0.body) ≡ None → other_fault ToTrack y.0.nid 0 (length y.0.body) ≡ None → kept x.0.nid 0 x.0.body ≡ kept y.0.nid 0 y.0.body → x ≡ y)
other_one = (
  255,
  λ x y hx hy e.
      let n : x.0.nid ≡ y.0.nid = cc in
      let b : x.0.body ≡ y.0.body = cc in
      ap (λ (k : ℕ). (train_other_value k x.0.body, tt {0})) n ∙ ap (λ (l : List Bool). (train_other_value y.0.nid l, tt {0})) b,
)

abbrev every : Every track_form packet.enum.parts packet.enum.make
every =
    typed_one position_report_codes also
    typed_one position_report_two_codes also
    typed_one (train_flat_codes 4 refl) also
    typed_one (train_flat_codes 5 refl) also
    other_one also
    tt {0}

placed : (p : TrainPacket) → place packet.enum.parts (packet.enum.as_values p) ≡ value_place packet.enum track_form every (track_value p)
unfolding place found value_place typed_one other_one
placed (Report r) = refl
placed p = refl

pub one_packet : (p q : TrainPacket) → IsTrackMade p → IsTrackMade q → track_value p ≡ track_value q → p ≡ q
one_packet p q hp hq e = one_value packet.enum track_form every placed p q hp hq e
