-- `==` of packets is equality of values.
use Rattle.std.proofs.Common.{◌≡◌, Bool, false, List, [], ◌∷◌, ap, inl, inr}
use Rattle.std.specs.Bool.{Decides}
use denote.Struct.Field.{Field}
use denote.Struct.Values.{Values}
use denote.Enum.Declared.{Choice, Record, values_one}
use denote.Enum.Compared.{Each, by}
use Rattle.etcs_bodies.specs.Equality.{IsExact}
use Rattle.etcs_flat.proofs.Equality.{marker_exact, flat_exact, other_exact}
use Rattle.etcs_parts.specs.laws.Links.{link_exact}
use Rattle.etcs_parts.specs.laws.Slopes.{slope_exact}
use Rattle.etcs_parts.specs.laws.Speeds.{speed_exact}
use Rattle.etcs_parts.specs.laws.ModeSections.{mode_section_exact}
use Rattle.etcs_grouped.specs.laws.Chains.{chain_exact}
use Rattle.etcs_grouped.specs.laws.Level1Mas.{level1_ma_exact}
use Rattle.etcs_grouped.specs.laws.Level23Mas.{level23_ma_exact}
use Rattle.etcs_grouped.specs.laws.LevelOrders.{level_order_exact}
use Rattle.etcs_grouped.specs.laws.ConditionalLevelOrders.{conditional_level_order_exact}
use Rattle.etcs_grouped.specs.laws.PlainTexts.{plain_text_exact}
use Rattle.etcs_grouped.specs.laws.FixedTexts.{fixed_text_exact}
use Rattle.etcs_grouped.specs.laws.InfillLocations.{infill_location_exact}
use Rattle.etcs_grouped.specs.laws.BaliseLists.{balise_list_exact}
use Rattle.etcs_grouped.specs.laws.ReportParameters.{report_parameters_exact}
use Rattle.etcs_grouped.specs.laws.TrackConditions.{track_condition_exact}
use Rattle.etcs_packets.specs.contracts.packet.Packet as packet
use Rattle.etcs_packets.specs.contracts.packet.PacketPartialEq.TheImpl as packet_eq

-- ---- Of an enum, if it is so for each variant.

abbrev pub Exact : (Fss : List (List Field)) → Each Bool Fss → Type 0
Exact [] each = Unit
Exact (Fs ∷ Fss) each = ((x y : Values Fs) → Decides (each.0 x y) (x ≡ y)) × Exact Fss each.1

choices : (Fss : List (List Field)) (each : Each Bool Fss) → Exact Fss each → (c d : Choice Fss) → Decides (by false false Fss each c d) (c ≡ d)
choices [] each h c d = absurd c
choices (Fs ∷ Fss) each h (inl x) (inl y) = let k = h.0 x y in ((λ e. ap inl (k.0 e)), (λ e. k.1 cc))
choices (Fs ∷ Fss) each h (inl x) (inr y) = ((λ e. absurd cc), (λ e. absurd cc))
choices (Fs ∷ Fss) each h (inr x) (inl y) = ((λ e. absurd cc), (λ e. absurd cc))
choices (Fs ∷ Fss) each h (inr x) (inr y) = let k = choices Fss each.1 h.1 x y in ((λ e. ap inr (k.0 e)), (λ e. k.1 cc))

pub enum_exact : (N : Record) (each : Each Bool N.parts) → Exact N.parts each → (x y : N.D) → Decides (by false false N.parts each (N.as_values x) (N.as_values y)) (x ≡ y)
enum_exact N each h x y = let k = choices N.parts each h (N.as_values x) (N.as_values y) in ((λ e. values_one N x y (k.0 e)), (λ e. k.1 (ap N.as_values e)))

-- a variant of one field
pub one : {V : Type 0} {E : V → V → Bool} → IsExact E → (x y : V × Unit {0}) → Decides (E x.0 y.0) (x ≡ y)
one {V} {E} e x y = ((λ h. ap (λ (v : V). (v, tt {0})) ((e x.0 y.0).0 h)), (λ h. (e x.0 y.0).1 (ap (λ (v : V × Unit {0}). v.0) h)))

-- ---- Of packets.

-- each variant by its type
pub packet_exact : IsExact packet_eq.ghosts.eq
packet_exact a b =
    enum_exact packet.enum _ (search (
      one marker_exact,
      one flat_exact,
      one (chain_exact link_exact),
      one level1_ma_exact,
      one level23_ma_exact,
      one (chain_exact slope_exact),
      one (chain_exact speed_exact),
      one level_order_exact,
      one conditional_level_order_exact,
      one balise_list_exact,
      one report_parameters_exact,
      one track_condition_exact,
      one plain_text_exact,
      one fixed_text_exact,
      one (chain_exact mode_section_exact),
      one infill_location_exact,
      one other_exact,
    )) a b
