-- Packets are cut by the lengths in their own bits.
use Rattle.std.proofs.Common.{◌≡◌, ℕ, zero, suc, ◌+◌, ◌-◌, ◌<◌, ◌≤◌, ◌==◌, Bool, false, List, [], ◌∷◌, ◌++◌, length, take, drop, refl, sym, ap, ◌∙◌, arith, append_assoc, length-append}
use Rattle.std.specs.Prelude.{All, if◌then◌else◌}
use Rattle.std.proofs.lemmas.Bool.{ne_eqb}
use Rattle.std.proofs.lemmas.List.{take_at, drop_at, take_all, length-drop}
use Rattle.std.proofs.lemmas.List.Elements.{All-head, All-tail}
use Rattle.etcs_bits.specs.Bits.{value, part}
use Rattle.etcs_vars.specs.Reading.{spelled}
use Rattle.etcs_vars.specs.laws.Spellings.{spelled-append}
use Rattle.etcs_tables.specs.declared.row.Way.TheVariants.{ToTrain}
use Rattle.etcs_packets.specs.PacketValues.{PacketValue, marker, typed, kept, IsPacket}
use Rattle.etcs_packets.specs.PacketReadings.{packet_reading, packets_reading}
use Rattle.etcs_packets.specs.laws.PacketReadings.{packet_bits}
use Rattle.etcs_sequence.specs.laws.Agreement.{some_bits}
use Rattle.etcs_sequence.specs.Refs.{IsPacketBits, ArePackets, spellings, bits_ahead, refs, BeginsWithPacket}
use Rattle.etcs_sequence.proofs.Fronts.{packet_number, packet_ahead}

-- the first packet, and what is after it
first_packet : (v : PacketValue) (c b : List Bool) → IsPacket v → b ≡ spelled (packet_reading v) ++ c → (bits_ahead b ≡ length (spelled (packet_reading v))) × (take (bits_ahead b) b ≡ spelled (packet_reading v)) × (drop (bits_ahead b) b ≡ c)
first_packet v c b h e =
    let s = spelled (packet_reading v) in
    let l : bits_ahead b ≡ length s = ap bits_ahead e ∙ packet_ahead v c h ∙ sym (packet_bits v) in
    (l, ap (take (bits_ahead b)) e ∙ take_at s c (bits_ahead b) (sym l), ap (drop (bits_ahead b)) e ∙ drop_at s c (bits_ahead b) (sym l))

pub ahead_inside : (b : List Bool) → BeginsWithPacket b → bits_ahead b ≤ length b
ahead_inside b (v, c, h, e) =
    let f = first_packet v c b h e in
    let all : length b ≡ length (spelled (packet_reading v)) + length c = ap (λ (t : List Bool). length t) e ∙ length-append (spelled (packet_reading v)) c in
    omega (arith, f.0, all)

pub least_ahead : (b : List Bool) → BeginsWithPacket b → 14 ≤ length b
least_ahead b (v, c, h, e) =
    let all : length b ≡ length (spelled (packet_reading v)) + length c = ap (λ (t : List Bool). length t) e ∙ length-append (spelled (packet_reading v)) c in
    omega (arith, all, packet_bits v, some_bits ToTrain v)

-- a packet with a frame takes as many bits as L_PACKET counts, and is here
framed_ahead : (b : List Bool) → BeginsWithPacket b → (value (part 0 8 b) ≡ 0 → ⊥) → 23 ≤ length b
framed_ahead b (marker n, c, h, e) other = absurd (other (ap (λ (t : List Bool). value (part 0 8 t)) e ∙ packet_number (marker n) c h))
framed_ahead b (typed nid dir r, c, h, e) other =
    let v = typed nid dir r in
    omega (arith, packet_bits v, ap (λ (t : List Bool). length t) e, length-append (spelled (packet_reading v)) c)
framed_ahead b (kept nid dir s, c, h, e) other =
    let v = kept nid dir s in
    omega (arith, packet_bits v, ap (λ (t : List Bool). length t) e, length-append (spelled (packet_reading v)) c)

pub said_ahead : (b : List Bool) → BeginsWithPacket b → (value (part 0 8 b) ≡ 0 → ⊥) → (23 ≤ length b) × (value (part 10 13 b) ≤ length b)
said_ahead b h other =
    let test : (value (part 0 8 b) == 0) ≡ false = ne_eqb (value (part 0 8 b)) 0 other in
    let said : bits_ahead b ≡ value (part 10 13 b) = ap (λ (t : Bool). if t then 14 else value (part 10 13 b)) test in
    (framed_ahead b h other, omega (arith, said, ahead_inside b h))

-- ---- One after another.

more_packets : (v : PacketValue) (vs : List PacketValue) (c : List Bool) → spelled (packets_reading (v ∷ vs)) ++ c ≡ spelled (packet_reading v) ++ (spelled (packets_reading vs) ++ c)
more_packets v vs c = ap (λ (t : List Bool). t ++ c) (spelled-append (packet_reading v) (packets_reading vs)) ∙ append_assoc (spelled (packet_reading v)) (spelled (packets_reading vs)) c

pub refs_spellings : (vs : List PacketValue) (c b : List Bool) → All IsPacket vs → b ≡ spelled (packets_reading vs) ++ c → refs (length vs) b ≡ spellings vs
refs_spellings [] c b all e = refl
refs_spellings (v ∷ vs) c b all e =
    let f = first_packet v (spelled (packets_reading vs) ++ c) b (All-head IsPacket v vs all) (e ∙ more_packets v vs c) in
    let rest = refs_spellings vs c (drop (bits_ahead b) b) (All-tail IsPacket v vs all) f.2 in
    rw (f.1, rest) refl

pub packets_ahead : (n : ℕ) (b : List Bool) → 0 < n → ArePackets n b → BeginsWithPacket b
packets_ahead n b pos ([], c, all, l, e) = absurd (omega (arith, l, pos))
packets_ahead n b pos (v ∷ vs, c, all, l, e) = (v, spelled (packets_reading vs) ++ c, All-head IsPacket v vs all, e ∙ more_packets v vs c)

pub packets_first : (n : ℕ) (b : List Bool) → 0 < n → ArePackets n b → IsPacketBits (take (bits_ahead b) b)
packets_first n b pos are =
    let (v, c, h, e) = packets_ahead n b pos are in
    (v, h, sym (first_packet v c b h e).1)

pub packets_after : (n : ℕ) (b : List Bool) → 0 < n → ArePackets n b → ArePackets (n - 1) (drop (bits_ahead b) b)
packets_after n b pos ([], c, all, l, e) = absurd (omega (arith, l, pos))
packets_after n b pos (v ∷ vs, c, all, l, e) =
    let f = first_packet v (spelled (packets_reading vs) ++ c) b (All-head IsPacket v vs all) (e ∙ more_packets v vs c) in
    (vs, c, All-tail IsPacket v vs all, omega (arith, l), f.2)

refs_next : (n : ℕ) (b : List Bool) → 0 < n → refs n b ≡ take (bits_ahead b) b ∷ refs (n - 1) (drop (bits_ahead b) b)
refs_next zero b pos = absurd (omega (arith, pos))
refs_next (suc n) b pos =
    let less : suc n - 1 ≡ n = omega arith in
    ap (λ (k : ℕ). take (bits_ahead b) b ∷ refs k (drop (bits_ahead b) b)) (sym less)

part_rest : (n : ℕ) (b : List Bool) → part n (length b - n) b ≡ drop n b
part_rest n b = take_all (length b - n) (drop n b) (omega (arith, length-drop n b))

-- ---- As they are cut.

pub cut_first : (b r : List Bool) (l : ℕ) → r ≡ part 0 l b → l ≡ bits_ahead b → r ≡ take (bits_ahead b) b
cut_first b r l e same = e ∙ ap (λ (k : ℕ). take k b) same

pub cut_after : (b r : List Bool) (l m : ℕ) → r ≡ part l (m - l) b → l ≡ bits_ahead b → m ≡ length b → r ≡ drop (bits_ahead b) b
cut_after b r l m e same whole = e ∙ ap (λ (k : ℕ). part k (m - k) b) same ∙ ap (λ (k : ℕ). part (bits_ahead b) (k - bits_ahead b) b) whole ∙ part_rest (bits_ahead b) b

-- the first packet is given, and the others are left
pub refs_cut : (n : ℕ) (b first rest : List Bool) → 0 < n → first ≡ take (bits_ahead b) b → rest ≡ drop (bits_ahead b) b → refs n b ≡ first ∷ refs (n - 1) rest
refs_cut n b first rest pos e f = refs_next n b pos ∙ rw (e, f) refl
