-- Further lemmas beside specs/laws/OnePacket.antt.
use Rattle.std.proofs.Common.{◌≡◌, List, [], ◌∷◌, refl}
use Rattle.std.specs.Prelude.{map, All}
use Rattle.std.proofs.lemmas.List.Elements.{All-head, All-tail}
use Rattle.etcs_packets.specs.declared.packet.Packet.{Packet}
use Rattle.etcs_packets.specs.PacketValues.{Form, form, packet_value, IsMade}
use Rattle.etcs_packets.specs.laws.OnePacket.{one_packet}

head_of : {A : Type 0} (a b : A) (more rest : List A) → a ∷ more ≡ b ∷ rest → (a ≡ b) × (more ≡ rest)
head_of a b more rest e = (let first : a ≡ b = cc in first, let others : more ≡ rest = cc in others)

-- if no two packets stand for one value, nor do two lists of packets
pub lists_one : {P : Type 0} (form : P → Form) → ((p q : P) → (form p).made → (form q).made → (form p).value ≡ (form q).value → p ≡ q)
    → (ps qs : List P) → All (λ p. (form p).made) ps → All (λ p. (form p).made) qs → map (λ p. (form p).value) ps ≡ map (λ p. (form p).value) qs → ps ≡ qs
lists_one form one [] [] hp hq e = refl
lists_one form one [] (q ∷ qs) hp hq e = absurd cc
lists_one form one (p ∷ ps) [] hp hq e = absurd cc
lists_one {P} form one (p ∷ ps) (q ∷ qs) hp hq e =
    let both = head_of (form p).value (form q).value (map (λ r. (form r).value) ps) (map (λ r. (form r).value) qs) e in
    let first = one p q (All-head (λ (r : P). (form r).made) p ps hp) (All-head (λ (r : P). (form r).made) q qs hq) both.0 in
    let rest = lists_one form one ps qs (All-tail (λ (r : P). (form r).made) p ps hp) (All-tail (λ (r : P). (form r).made) q qs hq) both.1 in
    rw (first, rest) refl

pub one_list : (ps qs : List Packet) → All IsMade ps → All IsMade qs → map packet_value ps ≡ map packet_value qs → ps ≡ qs
one_list ps qs hp hq e = lists_one form one_packet ps qs hp hq e
