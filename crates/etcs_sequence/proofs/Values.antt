-- A packet with a row is one if its numbers are, and if its bits are.
use Rattle.std.proofs.Common.{◌≡◌, ℕ, Bool, List, [], ◌∷◌, ◌++◌, length, Some, None, refl, sym, ap, subst, ◌∙◌}
use Rattle.std.specs.Prelude.{map, All, Option}
use Rattle.std.proofs.lemmas.Grind.{not_there}
use Rattle.std.proofs.lemmas.List.{map_push}
use Rattle.std.proofs.lemmas.List.Elements.{All-push}
use Rattle.etcs_vars.specs.Reading.{Reading, spelled, numbers}
use Rattle.etcs_tables.specs.declared.row.Way.{Way}
use Rattle.etcs_tables.specs.Layouts.{Layout, Reads}
use Rattle.etcs_tables.specs.Rows.{row_to}
use Rattle.etcs_tables.specs.Typed.{IsFramed}
use Rattle.etcs_rows.specs.laws.OneReading.{Reads-apart}
use Rattle.etcs_rows.proofs.RowLaws.{one_spelling}
use Rattle.etcs_packets.specs.PacketValues.{PacketValue, marker, typed, kept, variables_of, IsTypedOf, IsPacketTo, Form}
use Rattle.etcs_sequence.specs.laws.Others.{kept_parts, kept_untyped}

-- a packet of this number has a row
abbrev pub HasRow : Way → ℕ → Type 0
HasRow way nid = (row : Layout) × (row_to way nid ≡ Some row)

typed_value : (way : Way) (nid dir : ℕ) (v : PacketValue) → ¬ (¬ HasRow way nid) → IsPacketTo way v → IsTypedOf nid dir v → (r : Reading) × IsFramed way nid dir r × (v ≡ typed nid dir r)
typed_value way nid dir (marker n) has is (number, direction) = absurd cc
typed_value way nid dir (kept nid' dir' b) has is (number, direction) = absurd (has (λ (row, e). kept_untyped way nid row (rw number at (kept_parts way nid' dir' (length b) is).0) e))
typed_value way nid dir (typed nid' dir' r) has is (number, direction) = let to : dir' ≡ dir = cc in (r, rw (number, to) at is, rw (number, to) refl)

pub typed_row : (way : Way) (nid dir : ℕ) (v : PacketValue) → (r : Reading) × (v ≡ typed nid dir r) → IsPacketTo way v → HasRow way nid
typed_row way nid dir v (r, e) is = let framed : IsFramed way nid dir r = rw e at is in (framed.0, framed.1)

-- readings of one row with the same bits, and those with the same numbers
of_row : (way : Way) (nid dir : ℕ) (row : Layout) (q : Reading) → row_to way nid ≡ Some row → IsFramed way nid dir q → Reads row [] q
of_row way nid dir row q e (row', e', directed, reads, short) =
    let one : row' ≡ row = (let two : Some row' ≡ Some row = sym e' ∙ e in cc) in
    subst (λ (l : Layout). Reads l [] q) one reads

same_bits : (way : Way) (nid dir : ℕ) (r q : Reading) → IsFramed way nid dir r → IsFramed way nid dir q → spelled r ≡ spelled q → r ≡ q
same_bits way nid dir r q (row, e, directed, reads, short) framed bits = (Reads-apart row [] r q [] [] reads (of_row way nid dir row q e framed) (ap (λ (b : List Bool). b ++ []) bits)).0

same_numbers : (way : Way) (nid dir : ℕ) (r q : Reading) → IsFramed way nid dir r → IsFramed way nid dir q → numbers r ≡ numbers q → r ≡ q
same_numbers way nid dir r q (row, e, directed, reads, short) framed same = same_bits way nid dir r q (row, e, directed, reads, short) framed (one_spelling.1 row (numbers q) (spelled r) (spelled q) (r, reads, same, refl) (q, of_row way nid dir row q e framed, refl, refl))

-- so packets of which this is the same
module _ {A : Type 0} (of : Reading → A) (way : Way) (nid dir : ℕ) (one : (r q : Reading) → IsFramed way nid dir r → IsFramed way nid dir q → of r ≡ of q → r ≡ q) where
  one_by : (a : A) (v w : PacketValue) → ¬ (¬ HasRow way nid) → IsPacketTo way v → IsTypedOf nid dir v → of (variables_of v) ≡ a → IsPacketTo way w → IsTypedOf nid dir w → of (variables_of w) ≡ a → v ≡ w
  one_by a v w has v-is v-typed v-has w-is w-typed w-has =
      let (r, framed, e) = typed_value way nid dir v has v-is v-typed in
      let (q, framed', e') = typed_value way nid dir w has w-is w-typed in
      let same : of r ≡ of q = ap (λ (x : PacketValue). of (variables_of x)) (sym e) ∙ v-has ∙ sym w-has ∙ ap (λ (x : PacketValue). of (variables_of x)) e' in
      e ∙ ap (typed nid dir) (one r q framed framed' same) ∙ sym e'

pub one_by_numbers : (way : Way) (nid dir : ℕ) (f : List ℕ) (v w : PacketValue) → ¬ (¬ HasRow way nid) → IsPacketTo way v → IsTypedOf nid dir v → numbers (variables_of v) ≡ f → IsPacketTo way w → IsTypedOf nid dir w → numbers (variables_of w) ≡ f → v ≡ w
one_by_numbers way nid dir = one_by numbers way nid dir (same_numbers way nid dir)

pub one_by_bits : (way : Way) (nid dir : ℕ) (b : List Bool) (v w : PacketValue) → ¬ (¬ HasRow way nid) → IsPacketTo way v → IsTypedOf nid dir v → spelled (variables_of v) ≡ b → IsPacketTo way w → IsTypedOf nid dir w → spelled (variables_of w) ≡ b → v ≡ w
one_by_bits way nid dir = one_by spelled way nid dir (same_bits way nid dir)

-- one packet more
pub more_made : {P : Type 0} (form : P → Form) (old new : List P) (p : P) (vs : List PacketValue) (v : PacketValue) → new ≡ old ++ p ∷ [] → vs ≡ map (λ p. (form p).value) old → All (λ p. (form p).made) old → v ≡ (form p).value → (form p).made → (vs ++ v ∷ [] ≡ map (λ p. (form p).value) new) × All (λ p. (form p).made) new
more_made form old new p vs v is e made same one = rw is (rw (e, same) (sym (map_push (λ p. (form p).value) old p)), All-push (λ p. (form p).made) old p made one)

-- what is none in one place is none
pub none_by : {A B : Type 0} (o : Option B) → ∥ A ∥₁ → (A → o ≡ None) → o ≡ None
none_by None there is = refl
none_by (Some b) there is = absurd (not_there there (λ a. (let e = is a in absurd cc)))
