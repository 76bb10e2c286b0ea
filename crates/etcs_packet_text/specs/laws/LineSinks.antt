-- Lemmas about specs/LineSinks.antt.
use Rattle.std.proofs.Common.{◌≡◌, ℕ, ◌+◌, List, [], ◌∷◌, ◌++◌, flat_map, fold, length, None, Some, refl, sym, ap, ◌∙◌, append_assoc, append-nil}
use Rattle.std.proofs.lemmas.Grind.{flat_map-append}
use Rattle.std.proofs.lemmas.List.{take_at}
use Rattle.etcs_vars.specs.declared.var.Var.TheVariants.{NID_VBCMK, L_PACKET}
use Rattle.etcs_vars.specs.Reading.{Reading, spelled}
use Rattle.etcs_tables.specs.declared.row.Way.{Way}
use Rattle.etcs_tables.specs.Frames.{directed, frame_bits}
use Rattle.etcs_packets.specs.PacketValues.{PacketValue, marker, typed}
use Rattle.etcs_packet_text.specs.Fronts.{Begins}
use Rattle.etcs_packet_text.specs.laws.Fronts.{begins_more}
use Rattle.etcs_packet_text.specs.Packets.{packet_line, packet_text, packets_text}
use Rattle.etcs_packet_text.specs.Show.{variable_line}
use Rattle.etcs_packet_text.specs.LineSinks.{with_lines, and_lines, begun_lines}

-- ---- Its laws.

pub with_lines_none : (text : List ℕ) → with_lines text [] ≡ text
with_lines_none text = append-nil text

pub with_lines_both : (text : List ℕ) (a b : Reading) → with_lines text (a ++ b) ≡ with_lines (with_lines text a) b
with_lines_both text a b =
    ap (λ (t : List ℕ). text ++ t) (flat_map-append variable_line a b) ∙ sym (append_assoc text (flat_map variable_line a) (flat_map variable_line b))

pub with_lines_begins : (text : List ℕ) (r : Reading) (new : List ℕ) → Begins (with_lines text r) new → Begins text new
with_lines_begins text r new h = begins_more text (with_lines text r) new (flat_map variable_line r) refl h

-- ---- Its packets.

pub lines_sent : (text : List ℕ) (r : Reading) → Begins text (with_lines text r)
lines_sent text r = take_at text (flat_map variable_line r) (length text) refl

pub lines_typed : (way : Way) (nid dir : ℕ) (text : List ℕ) (r : Reading) → with_lines (begun_lines way nid (Some dir) (frame_bits way + length (spelled r)) text) r ≡ and_lines way text (typed nid dir r)
lines_typed way nid dir text r =
    append_assoc text (packet_line nid ++ flat_map variable_line (directed way dir ((L_PACKET, frame_bits way + length (spelled r)) ∷ []))) (flat_map variable_line r)

pub lines_marker : (way : Way) (number count : ℕ) (text : List ℕ) → with_lines (begun_lines way 0 None count text) ((NID_VBCMK, number) ∷ []) ≡ and_lines way text (marker number)
lines_marker way number count text =
    append_assoc text (packet_line 0) (variable_line (NID_VBCMK, number) ++ [])
    ∙ ap (λ (t : List ℕ). text ++ (packet_line 0 ++ t)) (append-nil (variable_line (NID_VBCMK, number)))
    ∙ ap (λ (t : List ℕ). text ++ (t ++ variable_line (NID_VBCMK, number))) (sym (append-nil (packet_line 0)))

pub packets_lines : (way : Way) (text : List ℕ) (vs : List PacketValue) → fold (and_lines way) text vs ≡ text ++ packets_text way vs
packets_lines way text [] = sym (append-nil text)
packets_lines way text (v ∷ vs) = packets_lines way (text ++ packet_text way v) vs ∙ append_assoc text (packet_text way v) (packets_text way vs)
