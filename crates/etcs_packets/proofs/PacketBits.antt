-- Packets over the bits of bytes.
use Rattle.std.proofs.Common.{◌≡◌, ℕ, ◌+◌, ◌*◌, ◌<◌, Bool, true, false, List, [], ◌∷◌, ◌++◌, length, None, refl, sym, ap, ◌∙◌, append_assoc, append-nil, length-append}
use Rattle.etcs_bits.specs.Bits.{num}
use Rattle.etcs_vars.specs.declared.var.Var.TheVariants.{NID_PACKET, Q_DIR, L_PACKET, OTHER_DATA}
use Rattle.etcs_vars.specs.Reading.{Reading, spelled}
use Rattle.etcs_vars.specs.Reading as sent
use Rattle.etcs_vars.proofs.Stepping.{next_number}
use Rattle.etcs_vars.specs.laws.Spellings.{spelled-append}
use Rattle.etcs_flat.specs.declared.other.Other.{Other as OtherValue}
use Rattle.etcs_packets.specs.declared.packet.Packet.{Packet}
use Rattle.etcs_packets.specs.declared.packet.Packet.TheVariants.{Other}
use Rattle.etcs_packets.specs.PacketValues.{PacketValue, marker, typed, kept, packet_value, nid_of, dir_of, variables_of}
use Rattle.etcs_packets.specs.PacketReadings.{packet_reading}
use Rattle.etcs_packets.specs.Fronts.{front_of}

pub length-spelled : (p q : Reading) → length (spelled (p ++ q)) ≡ length (spelled p) + length (spelled q)
length-spelled p q = ap length (spelled-append p q) ∙ length-append (spelled p) (spelled q)

-- ---- The frame.

pub frame_number : (nid dir len : ℕ) → dir < 4 → len < 8192 → num 23 ((nid * 4 + dir) * 8192 + len) ≡ spelled ((NID_PACKET, nid) ∷ (Q_DIR, dir) ∷ (L_PACKET, len) ∷ [])
frame_number nid dir len d l =
    let first : num 23 ((nid * 4 + dir) * 8192 + len) ≡ num 10 (nid * 4 + dir) ++ num 13 len = next_number 10 13 (nid * 4 + dir) len l in
    let second : num 10 (nid * 4 + dir) ≡ num 8 nid ++ num 2 dir = next_number 8 2 nid dir d in
    first ∙ ap (λ (b : List Bool). b ++ num 13 len) second ∙ append_assoc (num 8 nid) (num 2 dir) (num 13 len) ∙ ap (λ (b : List Bool). num 8 nid ++ (num 2 dir ++ b)) (sym (append-nil (num 13 len)))

-- ---- What is in front.

pub front_marked : (v : PacketValue) → None ≡ dir_of v → num 8 (nid_of v) ≡ spelled (front_of v)
front_marked (marker n) e = sym (append-nil (num 8 0))
front_marked (typed nid dir r) e = absurd cc
front_marked (kept nid dir b) e = absurd cc

-- ---- What follows.

-- the variables or the kept bits
abbrev pub rest_of : PacketValue → List Bool
rest_of (marker n) = spelled (variables_of (marker n))
rest_of (typed nid dir r) = spelled r
rest_of (kept nid dir b) = b

pub spelled_kept : (b : List Bool) → spelled (sent.kept OTHER_DATA b) ≡ b
unfolding num
spelled_kept [] = refl
spelled_kept (true ∷ b) = ap (λ (l : List Bool). true ∷ l) (spelled_kept b)
spelled_kept (false ∷ b) = ap (λ (l : List Bool). false ∷ l) (spelled_kept b)

pub spelled_parts : (v : PacketValue) → spelled (packet_reading v) ≡ spelled (front_of v) ++ rest_of v
spelled_parts (marker n) = spelled-append (front_of (marker n)) (variables_of (marker n))
spelled_parts (typed nid dir r) = spelled-append (front_of (typed nid dir r)) r
spelled_parts (kept nid dir b) = spelled-append (front_of (kept nid dir b)) (sent.kept OTHER_DATA b) ∙ ap (λ (l : List Bool). spelled (front_of (kept nid dir b)) ++ l) (spelled_kept b)

pub rest_kept : (p : Packet) (o : OtherValue) → p ≡ Other o → o.body ≡ rest_of (packet_value p)
rest_kept p o e = sym (ap (λ (q : Packet). rest_of (packet_value q)) e)

pub rest_sent : (p : Packet) → ((o : OtherValue) → p ≡ Other o → ⊥) → spelled (variables_of (packet_value p)) ≡ rest_of (packet_value p)
rest_sent (Other o) h = absurd (h o refl)
rest_sent p h = refl
