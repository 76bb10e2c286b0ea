-- A packet has no stand-in: its number is its own.
use Rattle.std.proofs.Common.{◌≡◌, ℕ, ◌==◌, false, List, [], ◌∷◌, length, map, refl, ap, ap₂}
use Rattle.std.specs.Prelude.{All, IsTrue}
use Rattle.std.proofs.lemmas.Bool.{eqb-true, false_from_ne_true}
use Rattle.std.proofs.lemmas.List.Elements.{All-head, All-tail}
use Rattle.etcs_tables.specs.declared.row.Way.{Way}
use Rattle.etcs_tables.specs.declared.row.Way.TheVariants.{ToTrain, ToTrack}
use Rattle.etcs_tables.specs.Frames.{is_kept}
use Rattle.etcs_packets.specs.PacketValues.{PacketValue, marker, typed, kept, IsPacketTo}
use Rattle.etcs_json_trees.specs.Loose.{stand_in, unnamed}
use Rattle.etcs_json_trees.proofs.Frames.{kept_parts}

differs : (nid other : ℕ) → IsTrue (is_kept ToTrain nid) → is_kept ToTrain other ≡ false → (nid == other) ≡ false
differs nid other h is = false_from_ne_true (nid == other) (λ e. let both = rw (eqb-true nid other e) at h in absurd cc)

own_number : (way : Way) (nid : ℕ) → IsTrue (is_kept way nid) → stand_in way nid ≡ nid
own_number ToTrain nid h = rw (differs nid 49 h refl, differs nid 57 h refl, differs nid 58 h refl, differs nid 63 h refl, differs nid 68 h refl, differs nid 80 h refl, differs nid 131 h refl) refl
own_number ToTrack nid h = refl

pub unnamed_own : (way : Way) (v : PacketValue) → IsPacketTo way v → unnamed way v ≡ v
unnamed_own way (marker n) h = refl
unnamed_own way (typed nid dir r) h = refl
unnamed_own way (kept nid dir b) h = ap (λ (n : ℕ). kept n dir b) (own_number way nid (kept_parts way nid dir (length b) h).0)

pub unnamed_all : (way : Way) (vs : List PacketValue) → All (IsPacketTo way) vs → map (unnamed way) vs ≡ vs
unnamed_all way [] h = refl
unnamed_all way (v ∷ vs) h = ap₂ (λ (w : PacketValue) (ws : List PacketValue). w ∷ ws) (unnamed_own way v (All-head (IsPacketTo way) v vs h)) (unnamed_all way vs (All-tail (IsPacketTo way) v vs h))
