-- No two packets stand for one value.
use Rattle.std.proofs.Common.{◌≡◌, ℕ, Bool, List, length, None, refl, ap, ◌∙◌}
use Rattle.std.specs.Prelude.{IsTrue}
use Rattle.etcs_vars.specs.declared.var.Var.TheVariants.{NID_VBCMK}
use Rattle.etcs_vars.specs.Vars.{admits}
use Rattle.etcs_tables.specs.declared.row.Way.TheVariants.{ToTrain}
use Rattle.etcs_flat.specs.laws.FlatCodes.{flat_codes}
use Rattle.etcs_flat.specs.declared.other.Other.{Other as OtherValue}
use Rattle.etcs_flat.specs.Others.{other_value, other_fault}
use Rattle.etcs_grouped.specs.laws.BaliseLists.{balise_list_codes}
use Rattle.etcs_grouped.specs.laws.Chains.{linking_codes, gradient_codes, speed_profile_codes, mode_profile_codes}
use Rattle.etcs_grouped.specs.laws.Level1Mas.{level1_ma_codes}
use Rattle.etcs_grouped.specs.laws.Level23Mas.{level23_ma_codes}
use Rattle.etcs_grouped.specs.laws.LevelOrders.{level_order_codes}
use Rattle.etcs_grouped.specs.laws.ConditionalLevelOrders.{conditional_level_order_codes}
use Rattle.etcs_grouped.specs.laws.PlainTexts.{plain_text_codes}
use Rattle.etcs_grouped.specs.laws.FixedTexts.{fixed_text_codes}
use Rattle.etcs_grouped.specs.laws.InfillLocations.{infill_location_codes}
use Rattle.etcs_grouped.specs.laws.ReportParameters.{report_parameters_codes}
use Rattle.etcs_grouped.specs.laws.TrackConditions.{track_condition_codes}
use Rattle.etcs_packets.specs.contracts.packet.Packet as packet
use Rattle.etcs_packets.specs.declared.packet.Packet.{Packet}
use Rattle.etcs_packets.specs.declared.packet.Packet.TheVariants.{VbcMarker}
use Rattle.etcs_packets.specs.PacketValues.{marker, kept, form, packet_value, IsMade}
use Rattle.etcs_packets.specs.laws.Variants.{typed_one, ◌also◌, Every, place, found, value_place, one_value}

-- ---- One variant.

marker_one : ℕ × ((x y : ℕ × Unit {0}) → IsTrue (admits NID_VBCMK x.0) → IsTrue (admits NID_VBCMK y.0) → marker x.0 ≡ marker y.0 → x ≡ y)
marker_one = (0, λ x y hx hy e. let same : x.0 ≡ y.0 = cc in ap (λ (n : ℕ). (n, tt {0})) same)

-- 255 is the number of no packet
other_one : ℕ × ((x y : OtherValue × Unit {0}) → other_fault ToTrain x.0.nid x.0.dir (length x.0.body) ≡ None → other_fault ToTrain y.0.nid y.0.dir (length y.0.body) ≡ None → kept x.0.nid x.0.dir x.0.body ≡ kept y.0.nid y.0.dir y.0.body → x ≡ y)
other_one = (
  255,
  λ x y hx hy e.
      let n : x.0.nid ≡ y.0.nid = cc in
      let d : x.0.dir ≡ y.0.dir = cc in
      let b : x.0.body ≡ y.0.body = cc in
      ap (λ (k : ℕ). (other_value k x.0.dir x.0.body, tt {0})) n ∙ ap (λ (k : ℕ). (other_value y.0.nid k x.0.body, tt {0})) d ∙ ap (λ (l : List Bool). (other_value y.0.nid y.0.dir l, tt {0})) b,
)

-- ---- All variants, in their order.

abbrev every : Every form packet.enum.parts packet.enum.make
every =
    marker_one also
    typed_one (flat_codes 2 refl) also
    typed_one linking_codes also
    typed_one level1_ma_codes also
    typed_one level23_ma_codes also
    typed_one (flat_codes 16 refl) also
    typed_one gradient_codes also
    typed_one speed_profile_codes also
    typed_one level_order_codes also
    typed_one (flat_codes 42 refl) also
    typed_one (flat_codes 45 refl) also
    typed_one conditional_level_order_codes also
    typed_one (balise_list_codes 49 refl refl) also
    typed_one (flat_codes 57 refl) also
    typed_one report_parameters_codes also
    typed_one (balise_list_codes 63 refl refl) also
    typed_one (flat_codes 64 refl) also
    typed_one (flat_codes 65 refl) also
    typed_one (flat_codes 66 refl) also
    typed_one track_condition_codes also
    typed_one plain_text_codes also
    typed_one fixed_text_codes also
    typed_one mode_profile_codes also
    typed_one (flat_codes 131 refl) also
    typed_one (flat_codes 132 refl) also
    typed_one (flat_codes 135 refl) also
    typed_one infill_location_codes also
    typed_one (flat_codes 137 refl) also
    typed_one (flat_codes 140 refl) also
    typed_one (flat_codes 141 refl) also
    typed_one (flat_codes 145 refl) also
    typed_one (flat_codes 254 refl) also
    other_one also
    tt {0}

placed : (p : Packet) → place packet.enum.parts (packet.enum.as_values p) ≡ value_place packet.enum form every (packet_value p)
unfolding place found value_place marker_one typed_one other_one
placed (VbcMarker n) = refl
placed p = refl

pub one_packet : (p q : Packet) → IsMade p → IsMade q → packet_value p ≡ packet_value q → p ≡ q
one_packet p q hp hq e = one_value packet.enum form every placed p q hp hq e
