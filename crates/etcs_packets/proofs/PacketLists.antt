-- Packets one after another, over the bits of bytes.
use Rattle.std.proofs.Common.{◌≡◌, ℕ, ◌+◌, ◌<◌, ◌≤◌, List, [], ◌∷◌, ◌++◌, length, take, drop, get_or, map, sym, ap, ◌∙◌, arith, append-nil}
use Rattle.std.proofs.lemmas.List.{map_more, map-append, take-append-drop}
use Rattle.std.proofs.lemmas.Grind.{flat_map-append}
use Rattle.etcs_vars.specs.Reading.{Reading, spelled}
use Rattle.etcs_tables.specs.declared.row.Way.{Way}
use Rattle.etcs_packets.specs.PacketValues.{PacketValue, bits_to}
use Rattle.etcs_packets.specs.PacketReadings.{reading_to, readings_to}
use Rattle.etcs_packets.specs.laws.PacketReadings.{bits_are}
use Rattle.etcs_packets.proofs.PacketBits.{length-spelled}

-- ---- Packets of any type, by what each stands for.

module _ {P : Type 0} (way : Way) (value : P → PacketValue) where
  pub packets_more : (ps : List P) (i : ℕ) (p : P) → i < length ps → p ≡ get_or ps i p → readings_to way (map value (take (i + 1) ps)) ≡ readings_to way (map value (take i ps)) ++ reading_to way (value p)
  packets_more ps i p h e =
      let before = map value (take i ps) in
      ap (readings_to way) (map_more value ps i p h)
      ∙ flat_map-append (reading_to way) before (value (get_or ps i p) ∷ [])
      ∙ ap (λ (r : Reading). readings_to way before ++ r) (append-nil (reading_to way (value (get_or ps i p))))
      ∙ ap (λ (q : P). readings_to way before ++ reading_to way (value q)) (sym e)

  pub packets_room : (ps : List P) (i : ℕ) (p : P) → i < length ps → p ≡ get_or ps i p → length (spelled (readings_to way (map value (take i ps)))) + bits_to way (value p) ≤ length (spelled (readings_to way (map value ps)))
  packets_room ps i p h e =
      let before = readings_to way (map value (take i ps)) in
      let beyond = readings_to way (map value (drop (i + 1) ps)) in
      let one = reading_to way (value p) in
      let cut : readings_to way (map value ps) ≡ (before ++ one) ++ beyond =
      ap (λ (qs : List P). readings_to way (map value qs)) (sym (take-append-drop (i + 1) ps))
      ∙ ap (readings_to way) (map-append value (take (i + 1) ps) (drop (i + 1) ps))
      ∙ flat_map-append (reading_to way) (map value (take (i + 1) ps)) (map value (drop (i + 1) ps))
      ∙ ap (λ (r : Reading). r ++ beyond) (packets_more ps i p h e) in
      let all : length (spelled (readings_to way (map value ps))) ≡ length (spelled before) + length (spelled one) + length (spelled beyond) =
      ap (λ (r : Reading). length (spelled r)) cut ∙ length-spelled (before ++ one) beyond ∙ ap (λ (k : ℕ). k + length (spelled beyond)) (length-spelled before one) in
      omega (arith, all, bits_are way (value p))
