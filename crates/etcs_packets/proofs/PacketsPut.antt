-- Packets put over bits.
use Rattle.std.proofs.Common.{◌≡◌, ℕ, ◌+◌, ◌-◌, ◌<◌, Bool, List, [], ◌∷◌, length, take, get_or, map, sym, ap, ◌∙◌}
use Rattle.std.specs.Prelude.{Some, None}
use Rattle.etcs_bits.specs.Bits.{num, value, bits}
use Rattle.etcs_vars.specs.declared.var.Var.TheVariants.{NID_PACKET, Q_DIR, L_PACKET}
use Rattle.etcs_vars.specs.Reading.{Reading, spelled}
use Rattle.etcs_tables.specs.declared.row.Way.{Way}
use Rattle.etcs_vars.specs.declared.word_sink.WordSink.{WordSink}
use Rattle.etcs_packets.specs.Fronts.{front_of}
use Rattle.etcs_packets.specs.PacketReadings.{reading_to, readings_to, packet_reading}
use Rattle.etcs_packets.specs.PacketValues.{PacketValue, marker, typed, kept, nid_of, dir_of, bits_of}
use Rattle.etcs_vars.specs.WordSinks.{and_bits}
use Rattle.etcs_vars.specs.laws.WordSinks.{and_both, spelled_both}
use Rattle.etcs_packets.proofs.PacketBits.{rest_of, spelled_parts, front_marked}
use Rattle.etcs_packets.proofs.PacketLists.{packets_more}

-- ---- Packets.

pub append_more : {P : Type 0} (way : Way) (value : P → PacketValue) (ps : List P) (i : ℕ) (p : P) (s one two : WordSink) → i < length ps → p ≡ get_or ps i p → one ≡ and_bits s (spelled (readings_to way (map value (take i ps)))) → two ≡ and_bits one (spelled (reading_to way (value p))) → two ≡ and_bits s (spelled (readings_to way (map value (take (i + 1) ps))))
append_more way value ps i p s one two h is e f =
    let a = readings_to way (map value (take i ps)) in
    let b = reading_to way (value p) in
    f
    ∙ ap (λ (t : WordSink). and_bits t (spelled b)) e
    ∙ sym (spelled_both s a b)
    ∙ ap (λ (r : Reading). and_bits s (spelled r)) (sym (packets_more way value ps i p h is))

-- a packet's front, and what follows it
pub append_parts : (v : PacketValue) (s one two : WordSink) (rest : List Bool) → rest ≡ rest_of v → one ≡ and_bits s (spelled (front_of v)) → two ≡ and_bits one rest → two ≡ and_bits s (spelled (packet_reading v))
append_parts v s one two rest is e f =
    f
    ∙ ap (and_bits one) is
    ∙ ap (λ (t : WordSink). and_bits t (rest_of v)) e
    ∙ and_both s (spelled (front_of v)) (rest_of v)
    ∙ ap (and_bits s) (sym (spelled_parts v))

-- ---- What is in front of a packet, as one number.

abbrev frame_of : ℕ → ℕ → ℕ → Reading
frame_of nid dir len = (NID_PACKET, nid) ∷ (Q_DIR, dir) ∷ (L_PACKET, len) ∷ []

front_framed : (v : PacketValue) (d : ℕ) → Some d ≡ dir_of v → frame_of (nid_of v) d (bits_of v) ≡ front_of v
front_framed (marker n) d e = absurd cc
front_framed (typed nid dir r) d e = let same : d ≡ dir = cc in ap (λ (k : ℕ). frame_of nid k (23 + length (spelled r))) same
front_framed (kept nid dir b) d e = let same : d ≡ dir = cc in ap (λ (k : ℕ). frame_of nid k (23 + length b)) same

pub front_number : (v : PacketValue) (wide number nid d len : ℕ) → wide ≡ 23 → num 23 number ≡ spelled ((NID_PACKET, nid) ∷ (Q_DIR, d) ∷ (L_PACKET, len) ∷ []) → nid ≡ nid_of v → len ≡ bits_of v → Some d ≡ dir_of v → num wide number ≡ spelled (front_of v)
front_number v wide number nid d len w e n l dir =
    ap (λ (k : ℕ). num k number) w
    ∙ e
    ∙ ap (λ (k : ℕ). spelled (frame_of k d len)) n
    ∙ ap (λ (k : ℕ). spelled (frame_of (nid_of v) d k)) l
    ∙ ap spelled (front_framed v d dir)

pub front_marker : (v : PacketValue) (number nid : ℕ) → number ≡ nid → nid ≡ nid_of v → None ≡ dir_of v → num 8 number ≡ spelled (front_of v)
front_marker v number nid e n dir = ap (num 8) (e ∙ n) ∙ front_marked v dir
