-- The numbers before a packet's bits, and the bits after its frame.
use Rattle.std.proofs.Common.{◌≡◌, ℕ, ◌+◌, ◌-◌, ◌^◌, ◌<◌, ◌≤◌, ◌==◌, Bool, false, List, [], ◌++◌, length, refl, sym, ap, ◌∙◌, arith, append_assoc, length-append}
use Rattle.std.specs.Prelude.{if◌then◌else◌}
use Rattle.std.proofs.Math.Seq.{take-length}
use Rattle.std.proofs.lemmas.Bool.{ne_eqb}
use Rattle.std.proofs.lemmas.List.{take_at}
use Rattle.etcs_bits.specs.Bits.{num, value, part}
use Rattle.etcs_bits.proofs.Numbers.{length-num, value-num}
use Rattle.etcs_bits.proofs.Lists.{part-append_right}
use Rattle.etcs_vars.specs.declared.var.Var.TheVariants.{Q_DIR}
use Rattle.etcs_vars.specs.Reading.{Reading, spelled}
use Rattle.etcs_vars.proofs.Prefixes.{admits_parts}
use Rattle.etcs_tables.specs.declared.row.Way.TheVariants.{ToTrain}
use Rattle.etcs_packets.specs.PacketValues.{PacketValue, marker, typed, kept, nid_of, bits_of, IsPacket}
use Rattle.etcs_packets.specs.PacketReadings.{packet_reading}
use Rattle.etcs_sequence.proofs.Wholes.{spelled_kept}
use Rattle.etcs_sequence.specs.laws.Typed.{typed_number}
use Rattle.etcs_sequence.specs.laws.Others.{kept_parts, kept_number}
use Rattle.etcs_sequence.specs.Refs.{bits_ahead}

-- ---- Lists between others.

part_between : (p x c : List Bool) (n w : ℕ) → length p ≡ n → length x ≡ w → part n w (p ++ (x ++ c)) ≡ x
part_between p x c n w e l = part-append_right p (x ++ c) n 0 w (omega (arith, e)) ∙ take_at x c w l

pub number_between : (p c : List Bool) (n w m : ℕ) → length p ≡ n → m < 2 ^ w → value (part n w (p ++ (num w m ++ c))) ≡ m
number_between p c n w m e fits = ap value (part_between p (num w m) c n w e (length-num w m)) ∙ value-num w m fits

-- ---- Frames.

-- number, direction and length, and what is after them
abbrev pub framed : ℕ → ℕ → ℕ → List Bool → List Bool
framed nid dir l s = num 8 nid ++ (num 2 dir ++ (num 13 l ++ s))

framed_more : (nid dir l : ℕ) (s c : List Bool) → framed nid dir l s ++ c ≡ framed nid dir l (s ++ c)
framed_more nid dir l s c =
    append_assoc (num 8 nid) (num 2 dir ++ (num 13 l ++ s)) c
    ∙ ap (λ (t : List Bool). num 8 nid ++ t) (append_assoc (num 2 dir) (num 13 l ++ s) c ∙ ap (λ (t : List Bool). num 2 dir ++ t) (append_assoc (num 13 l) s c))

-- the bits of a packet that has a frame, with those after it
pub record IsFrameOf (nid dir : ℕ) (s b : List Bool) : Type 0 where
  pub bits : b ≡ framed nid dir (23 + length s) s
  pub least : 0 < nid
  pub most : nid < 255
  pub directed : dir < 2 ^ 2
  pub short : length s ≤ 8168

module _ (nid dir : ℕ) (s b : List Bool) (h : IsFrameOf nid dir s b) where
  with_more : (c : List Bool) → b ++ c ≡ framed nid dir (23 + length s) (s ++ c)
  with_more c = ap (λ (t : List Bool). t ++ c) h.bits ∙ framed_more nid dir (23 + length s) s c

  frame_length : length (framed nid dir (23 + length s) s) ≡ 23 + length s
  frame_length =
      let one = length-append (num 8 nid) (num 2 dir ++ (num 13 (23 + length s) ++ s)) in
      let two = length-append (num 2 dir) (num 13 (23 + length s) ++ s) in
      let three = length-append (num 13 (23 + length s)) s in
      omega (arith, one, two, three, length-num 8 nid, length-num 2 dir, length-num 13 (23 + length s))

  pub frame_bits : length b ≡ 23 + length s
  frame_bits = ap (λ (t : List Bool). length t) h.bits ∙ frame_length

  pub frame_number : (c : List Bool) → value (part 0 8 (b ++ c)) ≡ nid
  frame_number c = ap (λ (t : List Bool). value (part 0 8 t)) (with_more c) ∙ number_between [] (num 2 dir ++ (num 13 (23 + length s) ++ (s ++ c))) 0 8 nid refl (omega (arith, h.most))

  pub frame_direction : value (part 8 2 b) ≡ dir
  frame_direction = ap (λ (t : List Bool). value (part 8 2 t)) h.bits ∙ number_between (num 8 nid) (num 13 (23 + length s) ++ s) 8 2 dir (length-num 8 nid) h.directed

  pub frame_ahead : (c : List Bool) → bits_ahead (b ++ c) ≡ 23 + length s
  frame_ahead c =
      let front = num 8 nid ++ num 2 dir in
      let l = 23 + length s in
      let long : length front ≡ 10 = omega (arith, length-append (num 8 nid) (num 2 dir), length-num 8 nid, length-num 2 dir) in
      let cut : b ++ c ≡ front ++ (num 13 l ++ (s ++ c)) = with_more c ∙ sym (append_assoc (num 8 nid) (num 2 dir) (num 13 l ++ (s ++ c))) in
      let other : (nid == 0) ≡ false = ne_eqb nid 0 (λ e. omega (arith, e, h.least)) in
      let said : value (part 10 13 (b ++ c)) ≡ l = ap (λ (t : List Bool). value (part 10 13 t)) cut ∙ number_between front (s ++ c) 10 13 l long (omega (arith, h.short)) in
      ap (λ (n : ℕ). if n == 0 then 14 else value (part 10 13 (b ++ c))) (frame_number c) ∙ ap (λ (t : Bool). if t then 14 else value (part 10 13 (b ++ c))) other ∙ said

  pub frame_body : part 23 (length b - 23) b ≡ s
  frame_body =
      let l = 23 + length s in
      let front = num 8 nid ++ (num 2 dir ++ num 13 l) in
      let long : length front ≡ 23 = omega (arith, length-append (num 8 nid) (num 2 dir ++ num 13 l), length-append (num 2 dir) (num 13 l), length-num 8 nid, length-num 2 dir, length-num 13 l) in
      let cut : b ≡ front ++ s = h.bits ∙ sym (append_assoc (num 8 nid) (num 2 dir ++ num 13 l) s ∙ ap (λ (t : List Bool). num 8 nid ++ t) (append_assoc (num 2 dir) (num 13 l) s)) in
      let less : length b - 23 ≡ length s = omega (arith, frame_bits) in
      ap (λ (n : ℕ). part 23 n b) less ∙ ap (λ (t : List Bool). part 23 (length s) t) cut ∙ part-append_right front s 23 0 (length s) (omega (arith, long)) ∙ take-length s

-- ---- Packets.

pub typed_frame : (nid dir : ℕ) (r : Reading) → IsPacket (typed nid dir r) → IsFrameOf nid dir (spelled r) (spelled (packet_reading (typed nid dir r)))
typed_frame nid dir r (row, e, a, reads, short) = record {
  bits = refl;
  least = (typed_number nid row e).0;
  most = (typed_number nid row e).1;
  directed = (admits_parts Q_DIR dir a).1;
  short = short;
}

pub kept_frame : (nid dir : ℕ) (b : List Bool) → IsPacket (kept nid dir b) → IsFrameOf nid dir b (spelled (packet_reading (kept nid dir b)))
kept_frame nid dir b h =
    let k = kept_parts ToTrain nid dir (length b) h in
    record {
      bits = ap (λ (t : List Bool). framed nid dir (23 + length b) t) (spelled_kept b);
      least = (kept_number nid k.0).0;
      most = (kept_number nid k.0).1;
      directed = (admits_parts Q_DIR dir k.1).1;
      short = k.2;
    }

pub marker_number : (n : ℕ) (c : List Bool) → value (part 0 8 (spelled (packet_reading (marker n)) ++ c)) ≡ 0
marker_number n c = ap (λ (t : List Bool). value (part 0 8 t)) (append_assoc (num 8 0) (num 6 n ++ []) c) ∙ number_between [] ((num 6 n ++ []) ++ c) 0 8 0 refl (omega arith)

pub packet_number : (v : PacketValue) (c : List Bool) → IsPacket v → value (part 0 8 (spelled (packet_reading v) ++ c)) ≡ nid_of v
packet_number (marker n) c h = marker_number n c
packet_number (typed nid dir r) c h = frame_number nid dir (spelled r) _ (typed_frame nid dir r h) c
packet_number (kept nid dir b) c h = frame_number nid dir b _ (kept_frame nid dir b h) c

pub packet_ahead : (v : PacketValue) (c : List Bool) → IsPacket v → bits_ahead (spelled (packet_reading v) ++ c) ≡ bits_of v
packet_ahead (marker n) c h =
    let b = spelled (packet_reading (marker n)) ++ c in
    ap (λ (k : ℕ). if k == 0 then 14 else value (part 10 13 b)) (marker_number n c)
packet_ahead (typed nid dir r) c h = frame_ahead nid dir (spelled r) _ (typed_frame nid dir r h) c
packet_ahead (kept nid dir b) c h = frame_ahead nid dir b _ (kept_frame nid dir b h) c
