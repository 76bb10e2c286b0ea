-- What is made of a number, a direction and what is after L_PACKET (SUBSET-026, 7.4).
use Rattle.std.specs.Prelude.{◌≡◌, ℕ, Option, IfSome, IsNone}
use Rattle.etcs_tables.specs.declared.row.Way.{Way}
use Rattle.etcs_bodies.specs.Taking.{Left, Says}
use Rattle.etcs_bodies.specs.Packets.{IsPacketLeft}
use Rattle.etcs_vars.specs.Reading.{Reading}
use Rattle.etcs_packets.specs.PacketValues.{typed, Form}

-- what is called makes of each value of a type a packet that stands for this number and the value's direction and
-- variables, and that its own type admits
abbrev pub Makes : {P Q : Type 0} → (Q → Form) → (P → Q → Type 0) → (P → Type 0) → ℕ → (P → ℕ) → (P → Reading) → Type 0
Makes {P} {Q} form post IsValue nid dir reading = (p : P) (q : Q) → IsValue p → post p q → (form q).made × ((form q).value ≡ typed nid (dir p) (reading p))

-- a typed packet of this number and direction, and of all that is after L_PACKET; or none, if there is no such packet
pub record IsMadeOf {Q : Type 0} (form : Q → Form) (way : Way) (nid dir : ℕ) (s : Left) (o : Option Q) : Type 0 where
  pub made : IfSome o (λ q. (form q).made)
  pub some : IfSome o (λ q. (r : Reading) × ((form q).value ≡ typed nid dir r) × Says s r)
  pub none : IsNone o → IsPacketLeft way nid dir s → ⊥
