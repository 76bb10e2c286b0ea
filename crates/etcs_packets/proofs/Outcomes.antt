-- What is made of a number, a direction and what is after L_PACKET, clause by clause.
use Rattle.std.specs.Prelude.{◌≡◌, ℕ, List, Bool, Option, None, Some, Result, Ok, Err, IfOk, IfSome, IsNone}
use Rattle.std.proofs.Common.{refl}
use Rattle.etcs_vars.specs.Reading.{Reading, numbers, spelled}
use Rattle.etcs_tables.specs.declared.row.Way.{Way}
use Rattle.etcs_tables.specs.Typed.{IsTyped, IsFramed}
use Rattle.etcs_bodies.specs.Taking.{Left, listed, in_bits, Says}
use Rattle.etcs_bodies.specs.Packets.{IsPacketLeft}
use Rattle.etcs_bodies.specs.laws.PacketCodes.{typed_left}
use Rattle.etcs_packets.specs.PacketValues.{typed, variables_of, IsTypedOf, Form}
use Rattle.etcs_packets.specs.Outcomes.{IsMadeOf}

module _ {Q E : Type 0} (form : Q → Form) (way : Way) (nid dir : ℕ) where
  abbrev AreMade : Result (Option Q) E → Type 0
  AreMade result = IfOk result (λ o. IfSome o (λ q. (form q).made))

  -- the packet, if there is one
  abbrev AreSaid : Left → Result (Option Q) E → Type 0
  AreSaid s result = IfOk result (λ o. IfSome o (λ q. IsTypedOf nid dir (form q).value × Says s (variables_of (form q).value)))

  -- of any numbers
  pub ok_left : (s : Left) (result : Result (Option Q) E) → IfOk result (λ o. IsMadeOf form way nid dir s o)
      → record { made : AreMade result; some : AreSaid s result; none : IfOk result (λ o. IsNone o → IsPacketLeft way nid dir s → ⊥) }
  ok_left s (Ok None) h = record { made = tt; some = tt; none = h.none }
  ok_left s (Ok (Some q)) h = let (r, is, said) = h.some in record { made = h.made; some = rw is ((refl, refl), said); none = h.none }
  ok_left s (Err e) h = record { made = tt; some = tt; none = tt }

  -- of a list
  pub ok_numbers : (f : List ℕ) (result : Result (Option Q) E) → IfOk result (λ o. IsMadeOf form way nid dir (listed f) o)
      → record { made : AreMade result; some : AreSaid (listed f) result; none : IfOk result (λ o. IsNone o → IsTyped way nid dir f → ⊥) }
  ok_numbers f (Ok None) h = record { made = tt; some = tt; none = λ n t. h.none n (typed_left way nid dir f t) }
  ok_numbers f (Ok (Some q)) h = let (r, is, said) = h.some in record { made = h.made; some = rw is ((refl, refl), said); none = λ n t. h.none n (typed_left way nid dir f t) }
  ok_numbers f (Err e) h = record { made = tt; some = tt; none = tt }

  -- of bits, which are these of some variables
  pub ok_bits : (b : List Bool) (result : Result (Option Q) E) → IfOk result (λ o. IsMadeOf form way nid dir (in_bits b) o)
      → record { made : AreMade result; some : AreSaid (in_bits b) result; typed : IfOk result (λ o. IfSome o (λ q. (r : Reading) × ((form q).value ≡ typed nid dir r))); none : IfOk result (λ o. IsNone o → (r : Reading) → IsFramed way nid dir r → spelled r ≡ b → ⊥) }
  ok_bits b (Ok None) h = record { made = tt; some = tt; typed = tt; none = λ n r framed e. h.none n (r, framed, e) }
  ok_bits b (Ok (Some q)) h = let (r, is, said) = h.some in record { made = h.made; some = rw is ((refl, refl), said); typed = (r, is); none = λ n r framed e. h.none n (r, framed, e) }
  ok_bits b (Err e) h = record { made = tt; some = tt; typed = tt; none = tt }
