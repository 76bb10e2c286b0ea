-- What packets leave of a room of bits.
use Rattle.std.proofs.Common.{◌≡◌, ℕ, ◌+◌, ◌-◌, ◌<◌, ◌≤◌, List, [], ◌∷◌, ◌++◌, length, take, get_or, map, sym, ap, subst, ◌∙◌, arith}
use Rattle.std.specs.Prelude.{All}
use Rattle.std.proofs.lemmas.List.{take_all, map_more}
use Rattle.std.proofs.lemmas.List.Elements.{All-nil, All-cons, All-more, All-append}
use Rattle.etcs_vars.specs.Reading.{Reading, spelled}
use Rattle.etcs_tables.specs.declared.row.Way.{Way}
use Rattle.etcs_packets.specs.PacketValues.{PacketValue, Form, bits_to, IsPacketTo}
use Rattle.etcs_packets.specs.PacketReadings.{reading_to, readings_to}
use Rattle.etcs_packets.specs.laws.PacketReadings.{bits_are}
use Rattle.etcs_packets.proofs.PacketBits.{length-spelled}
use Rattle.etcs_packets.proofs.PacketLists.{packets_more, packets_room}

-- what each of these stands for
abbrev values : {P : Type 0} → (P → Form) → List P → List PacketValue
values form ps = map (λ p. (form p).value) ps

-- how many bits they take
abbrev all_bits : {P : Type 0} → Way → (P → Form) → List P → ℕ
all_bits way form ps = length (spelled (readings_to way (values form ps)))

-- the first i packets leave this many bits
pub record Leaves {P : Type 0} (way : Way) (form : P → Form) (room : ℕ) (ps : List P) (i left : ℕ) : Type 0 where
  pub left_is : all_bits way form (take i ps) + left ≡ room
  pub made : All (λ p. (form p).made) (take i ps)
  pub packets : All (IsPacketTo way) (values form (take i ps))

pub leaves_first : {P : Type 0} (way : Way) (form : P → Form) (room : ℕ) (ps : List P) → Leaves way form room ps 0 room
leaves_first {P} way form room ps = record { left_is = omega arith; made = All-nil (λ (p : P). (form p).made); packets = All-nil (IsPacketTo way) }

module _ {P : Type 0} (way : Way) (form : P → Form) (room : ℕ) (ps : List P) (i left : ℕ) (p : P) (h : i < length ps) (e : p ≡ get_or ps i p) (before : Leaves way form room ps i left) where
  sent_more : all_bits way form (take (i + 1) ps) ≡ all_bits way form (take i ps) + bits_to way (form p).value
  sent_more =
      ap (λ (r : Reading). length (spelled r)) (packets_more way (λ q. (form q).value) ps i p h e)
      ∙ length-spelled (readings_to way (values form (take i ps))) (reading_to way (form p).value)
      ∙ ap (λ (k : ℕ). all_bits way form (take i ps) + k) (bits_are way (form p).value)

  packets_next : IsPacketTo way (form p).value → All (IsPacketTo way) (values form (take (i + 1) ps))
  packets_next is =
      let last : All (IsPacketTo way) ((form p).value ∷ []) = All-cons (IsPacketTo way) (form p).value [] is (All-nil (IsPacketTo way)) in
      let all = All-append (IsPacketTo way) (values form (take i ps)) ((form p).value ∷ []) before.packets last in
      subst (All (IsPacketTo way)) (sym (map_more (λ q. (form q).value) ps i p h ∙ ap (λ (q : P). values form (take i ps) ++ (form q).value ∷ []) (sym e))) all

  pub leaves_next : bits_to way (form p).value ≤ left → (form p).made → IsPacketTo way (form p).value → Leaves way form room ps (i + 1) (left - bits_to way (form p).value)
  leaves_next fits made is = record {
    left_is = omega (arith, sent_more, before.left_is, fits);
    made = All-more (λ (q : P). (form q).made) ps i p h before.made (subst (λ (q : P). (form q).made) e made);
    packets = packets_next is;
  }

  pub leaves_none : left < bits_to way (form p).value → room < all_bits way form ps
  leaves_none short = omega (arith, packets_room way (λ q. (form q).value) ps i p h e, before.left_is, short)

module _ {P : Type 0} (way : Way) (form : P → Form) (room : ℕ) (ps : List P) (i left : ℕ) (h : length ps ≤ i) (l : Leaves way form room ps i left) where
  whole : take i ps ≡ ps
  whole = take_all i ps h

  pub leaves_end : all_bits way form ps + left ≡ room
  leaves_end = omega (arith, l.left_is, ap (all_bits way form) whole)

  pub made_end : All (λ p. (form p).made) ps
  made_end = subst (All (λ (p : P). (form p).made)) whole l.made

  pub packets_end : All (IsPacketTo way) (values form ps)
  packets_end = subst (λ (qs : List P). All (IsPacketTo way) (values form qs)) whole l.packets
