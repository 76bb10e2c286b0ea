-- The kind of a packet, by its bits.
use Rattle.std.proofs.Common.{◌≡◌, ℕ, ◌+◌, ◌-◌, ◌≤◌, Bool, List, [], ◌++◌, length, Option, Some, None, refl, sym, ap, subst, ◌∙◌, arith, append-nil}
use Rattle.std.specs.Prelude.{IsTrue, IfOk, Result, Ok, Err}
use Rattle.etcs_bits.specs.Bits.{num, value, part}
use Rattle.etcs_bits.proofs.Numbers.{length-num}
use Rattle.etcs_vars.specs.declared.var.Var.TheVariants.{NID_VBCMK}
use Rattle.etcs_vars.specs.Vars.{admits}
use Rattle.etcs_vars.specs.Reading.{spelled}
use Rattle.etcs_vars.proofs.Apart.{apart}
use Rattle.etcs_vars.proofs.Prefixes.{admits_parts}
use Rattle.etcs_tables.specs.declared.row.Way.TheVariants.{ToTrain}
use Rattle.etcs_tables.specs.Layouts.{Layout}
use Rattle.etcs_tables.specs.Rows.{row_to}
use Rattle.etcs_packets.specs.PacketValues.{PacketValue, marker, typed, kept, nid_of, variables_of, packet_value, IsPacket, IsTypedOf}
use Rattle.etcs_packets.specs.declared.packet.Packet.{Packet}
use Rattle.etcs_packets.specs.PacketReadings.{packet_reading}
use Rattle.etcs_packets.specs.laws.PacketReadings.{packet_bits}
use Rattle.etcs_sequence.specs.Runs.{IsWhole}
use Rattle.etcs_sequence.specs.laws.Agreement.{packet_agree, packet_fit, some_bits}
use Rattle.etcs_sequence.proofs.OneSpelling.{packet_same}
use Rattle.etcs_sequence.specs.laws.Typed.{typed_number}
use Rattle.etcs_sequence.specs.laws.Others.{kept_parts, kept_untyped}
use Rattle.etcs_sequence.specs.Refs.{IsPacketBits, IsMarkerBits, IsTypedBits, IsKeptBits}
use Rattle.etcs_sequence.proofs.Fronts.{IsFrameOf, framed, frame_bits, frame_direction, frame_body, typed_frame, kept_frame, number_between, packet_number}

-- bits are of one packet
pub one_value : (v u : PacketValue) (b : List Bool) → IsPacket v → IsPacket u → spelled (packet_reading v) ≡ b → spelled (packet_reading u) ≡ b → v ≡ u
one_value v u b hv hu ev eu =
    let same : spelled (packet_reading v) ++ [] ≡ spelled (packet_reading u) ++ [] = ap (λ (t : List Bool). t ++ []) (ev ∙ sym eu) in
    packet_same ToTrain v u hv hu (apart (packet_reading v) (packet_reading u) [] [] (packet_agree ToTrain v u hv hu) (packet_fit ToTrain v hv) (packet_fit ToTrain u hu) same).0

-- and have its number first
pub number_said : (v : PacketValue) (b : List Bool) → IsPacket v → spelled (packet_reading v) ≡ b → value (part 0 8 b) ≡ nid_of v
number_said v b h e = ap (λ (t : List Bool). value (part 0 8 t)) (sym e ∙ sym (append-nil (spelled (packet_reading v)))) ∙ packet_number v [] h

pub packet_least : (b : List Bool) → IsPacketBits b → 14 ≤ length b
packet_least b (v, h, e) = omega (arith, packet_bits v, some_bits ToTrain v, ap (λ (t : List Bool). length t) e)

-- a packet that was made of them is the one that they are
pub same_value : (E : Type 0) (r : Result Packet E) (b c : List Bool) → IfOk r IsWhole → IfOk r (λ p. spelled (packet_reading (packet_value p)) ≡ b) → b ≡ c → IfOk r (λ p. (v : PacketValue) → IsPacket v → spelled (packet_reading v) ≡ c → packet_value p ≡ v)
same_value E (Ok p) b c whole bits same = λ v h e. one_value (packet_value p) v c whole.1 h (bits ∙ same) e
same_value E (Err x) b c whole bits same = tt

-- n is the number of the packet that they are
abbrev pub SaysNumber : List Bool → ℕ → Type 0
SaysNumber b n = (v : PacketValue) → IsPacket v → spelled (packet_reading v) ≡ b → n ≡ nid_of v

pub is_typed : (b : List Bool) (n : ℕ) (row : Layout) → IsPacketBits b → SaysNumber b n → row_to ToTrain n ≡ Some row → IsTypedBits n b
is_typed b n row (marker m, h, e) said f = absurd (let same = said (marker m) h e in omega (arith, same, (typed_number n row f).0))
is_typed b n row (typed nid dir r, h, e) said f = subst (λ (k : ℕ). IsTypedBits k b) (sym (said (typed nid dir r) h e)) (dir, r, h, e)
is_typed b n row (kept nid dir s, h, e) said f = absurd (kept_untyped ToTrain nid row (kept_parts ToTrain nid dir (length s) h).0 (ap (row_to ToTrain) (sym (said (kept nid dir s) h e)) ∙ f))

pub is_kept : (b : List Bool) (n : ℕ) → IsPacketBits b → SaysNumber b n → (n ≡ 0 → ⊥) → row_to ToTrain n ≡ None → IsKeptBits n b
is_kept b n (marker m, h, e) said pos f = absurd (pos (said (marker m) h e))
is_kept b n (typed nid dir r, h, e) said pos f =
    let (row, g, a, reads, short) = h in
    absurd (let none : ◌≡◌ {A = Option Layout} (Some row) None = sym g ∙ ap (row_to ToTrain) (sym (said (typed nid dir r) h e)) ∙ f in cc)
is_kept b n (kept nid dir s, h, e) said pos f = subst (λ (k : ℕ). IsKeptBits k b) (sym (said (kept nid dir s) h e)) (dir, s, h, e)

-- ---- Packet 0.

pub marker_bits : (b : List Bool) → IsMarkerBits b → length b ≡ 14
marker_bits b (n, h, e) = ap (λ (t : List Bool). length t) (sym e) ∙ packet_bits (marker n)

marker_said : (b : List Bool) (m : IsMarkerBits b) → value (part 8 6 b) ≡ m.0
marker_said b (n, h, e) = ap (λ (t : List Bool). value (part 8 6 t)) (sym e) ∙ number_between (num 8 0) [] 8 6 n (length-num 8 0) (admits_parts NID_VBCMK n h).1

pub marker_read : (b : List Bool) (k : ℕ) → IsMarkerBits b → k ≡ value (part 8 6 b) → IsTrue (admits NID_VBCMK k) × (spelled (packet_reading (marker k)) ≡ b)
marker_read b k m e =
    let same : m.0 ≡ k = sym (e ∙ marker_said b m) in
    (subst (λ (n : ℕ). IsTrue (admits NID_VBCMK n)) same m.1, subst (λ (n : ℕ). spelled (packet_reading (marker n)) ≡ b) same m.2)

-- ---- A typed packet.

module _ (nid : ℕ) (b : List Bool) (t : IsTypedBits nid b) where
  typed_frame_of : IsFrameOf nid t.0 (spelled t.1) b
  typed_frame_of = subst (IsFrameOf nid t.0 (spelled t.1)) t.3 (typed_frame nid t.0 t.1 t.2)

  pub typed_least : 23 ≤ length b
  typed_least = omega (arith, frame_bits nid t.0 (spelled t.1) b typed_frame_of)

  typed_direction : (d : ℕ) → d ≡ value (part 8 2 b) → d ≡ t.0
  typed_direction d e = e ∙ frame_direction nid t.0 (spelled t.1) b typed_frame_of

  -- its variables are the row's
  pub typed_inside : (d : ℕ) → d ≡ value (part 8 2 b) → IsPacket (typed nid d t.1) × (spelled t.1 ≡ part 23 (length b - 23) b)
  typed_inside d e = (subst (λ (k : ℕ). IsPacket (typed nid k t.1)) (sym (typed_direction d e)) t.2, sym (frame_body nid t.0 (spelled t.1) b typed_frame_of))

  typed_spelled : (v : PacketValue) → IsPacket v → IsTypedOf nid t.0 v → spelled (packet_reading v) ≡ framed nid t.0 (23 + length (spelled (variables_of v))) (spelled (variables_of v))
  typed_spelled (marker n) h o = absurd (let d = o.1 in cc)
  typed_spelled (typed n d r) h o = let same : d ≡ t.0 = (let s = o.1 in cc) in rw (o.0, same) refl
  typed_spelled (kept n d s) h o =
      let (row, e, a, reads, short) = t.2 in
      absurd (kept_untyped ToTrain n row (kept_parts ToTrain n d (length s) h).0 (ap (row_to ToTrain) o.0 ∙ e))

  -- and a packet of them is spelled as it was
  pub typed_made : (v : PacketValue) (d : ℕ) → d ≡ value (part 8 2 b) → IsPacket v → IsTypedOf nid d v → spelled (variables_of v) ≡ part 23 (length b - 23) b → spelled (packet_reading v) ≡ b
  typed_made v d e h o s =
      let f = typed_frame_of in
      let same : spelled (variables_of v) ≡ spelled t.1 = s ∙ frame_body nid t.0 (spelled t.1) b f in
      let o' : IsTypedOf nid t.0 v = subst (λ (k : ℕ). IsTypedOf nid k v) (typed_direction d e) o in
      typed_spelled v h o' ∙ ap (λ (x : List Bool). framed nid t.0 (23 + length x) x) same ∙ sym f.bits

-- ---- A packet that is kept as bits.

module _ (nid : ℕ) (b : List Bool) (t : IsKeptBits nid b) where
  kept_frame_of : IsFrameOf nid t.0 t.1 b
  kept_frame_of = subst (IsFrameOf nid t.0 t.1) t.3 (kept_frame nid t.0 t.1 t.2)

  pub kept_least : 23 ≤ length b
  kept_least = omega (arith, frame_bits nid t.0 t.1 b kept_frame_of)

  pub kept_made : (d : ℕ) (s : List Bool) → d ≡ value (part 8 2 b) → s ≡ part 23 (length b - 23) b → IsPacket (kept nid d s) × (spelled (packet_reading (kept nid d s)) ≡ b)
  kept_made d s e l =
      let direction : t.0 ≡ d = sym (e ∙ frame_direction nid t.0 t.1 b kept_frame_of) in
      let body : t.1 ≡ s = sym (l ∙ frame_body nid t.0 t.1 b kept_frame_of) in
      let is : IsPacket (kept nid d t.1) × (spelled (packet_reading (kept nid d t.1)) ≡ b) = subst (λ (k : ℕ). IsPacket (kept nid k t.1) × (spelled (packet_reading (kept nid k t.1)) ≡ b)) direction (t.2, t.3) in
      subst (λ (x : List Bool). IsPacket (kept nid d x) × (spelled (packet_reading (kept nid d x)) ≡ b)) body is
