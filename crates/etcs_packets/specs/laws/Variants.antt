-- Packets of an enum that gives for each variant the value that it stands for: values that differ by their variants.
use Rattle.std.proofs.Common.{◌≡◌, ℕ, zero, suc, ◌==◌, List, [], ◌∷◌, Option, sym, ap, ◌∙◌, arith, inl, inr}
use Rattle.std.specs.Prelude.{if◌then◌else◌}
use denote.Struct.Field.{Field}
use denote.Struct.Values.{Values}
use denote.Enum.Declared.{Choice, Record, values_one}
use Rattle.etcs_vars.specs.Reading.{Reading, numbers}
use Rattle.etcs_tables.specs.declared.row.Way.{Way}
use Rattle.etcs_bodies.specs.Taking.{Left}
use Rattle.etcs_bodies.specs.PacketCodes.{PacketCodes}
use Rattle.etcs_bodies.specs.laws.PacketCodes.{all_apart}
use Rattle.etcs_packets.specs.PacketValues.{PacketValue, marker, typed, kept, Form}

-- ---- One variant.

unfoldable pub typed_one : {D : Type 0} {way : Way} {nid : ℕ} {dir : D → ℕ} {Made : D → Type 0} {reading : D → Reading} {from : ℕ → Left → Option D} → PacketCodes way nid dir Made reading from
    → ℕ × ((x y : D × Unit {0}) → Made x.0 → Made y.0 → typed nid (dir x.0) (reading x.0) ≡ typed nid (dir y.0) (reading y.0) → x ≡ y)
typed_one {D} {way} {nid} {dir} {reading = reading} codes = (
  nid,
  λ x y hx hy e.
      let same_dir : dir x.0 ≡ dir y.0 = cc in
      let same_reading : reading x.0 ≡ reading y.0 = cc in
      ap (λ (p : D). (p, tt {0})) (all_apart codes x.0 y.0 hx hy same_dir (ap numbers same_reading)),
)

infixr 10 ◌also◌
abbrev pub ◌also◌ : {A B : Type 0} → A → B → A × B
a also b = (a, b)

-- ---- All variants, in their order.

-- a number for each, of which no two values stand for one
abbrev pub Every : {P : Type 0} → (P → Form) → (Fss : List (List Field)) → (Choice Fss → P) → Type 0
Every form [] make = Unit {0}
Every form (Fs ∷ Fss) make =
    (ℕ × ((x y : Values Fs) → (form (make (inl x))).made → (form (make (inl y))).made → (form (make (inl x))).value ≡ (form (make (inl y))).value → x ≡ y))
    × Every form Fss (λ c. make (inr c))

-- the place of a value among them
unfoldable pub place : (Fss : List (List Field)) → Choice Fss → ℕ
place [] c = absurd c
place (Fs ∷ Fss) (inl x) = zero
place (Fs ∷ Fss) (inr c) = suc (place Fss c)

-- the place of a number among theirs
unfoldable pub found : {P : Type 0} (form : P → Form) (Fss : List (List Field)) (make : Choice Fss → P) → Every form Fss make → ℕ → ℕ
found form [] make each nid = zero
found form (Fs ∷ Fss) make each nid = if each.0.0 == nid then zero else suc (found form Fss (λ c. make (inr c)) each.1 nid)

-- 255 is the number of no typed packet
unfoldable pub value_place : (N : Record) (form : N.D → Form) → Every form N.parts N.make → PacketValue → ℕ
value_place N form every (marker n) = found form N.parts N.make every 0
value_place N form every (typed nid dir r) = found form N.parts N.make every nid
value_place N form every (kept nid dir b) = found form N.parts N.make every 255

same_variant : {P : Type 0} (form : P → Form) (Fss : List (List Field)) (make : Choice Fss → P) → Every form Fss make → (c d : Choice Fss) → place Fss c ≡ place Fss d → (form (make c)).made → (form (make d)).made → (form (make c)).value ≡ (form (make d)).value → c ≡ d
unfolding place
same_variant form [] make each c d at hc hd e = absurd c
same_variant form (Fs ∷ Fss) make each (inl x) (inl y) at hc hd e = ap inl (each.0.1 x y hc hd e)
same_variant form (Fs ∷ Fss) make each (inl x) (inr d) at hc hd e = absurd (omega (arith, at))
same_variant form (Fs ∷ Fss) make each (inr c) (inl y) at hc hd e = absurd (omega (arith, at))
same_variant form (Fs ∷ Fss) make each (inr c) (inr d) at hc hd e = ap inr (same_variant form Fss (λ k. make (inr k)) each.1 c d (omega (arith, at)) hc hd e)

-- each value has the place of its number
pub one_value : (N : Record) (form : N.D → Form) (every : Every form N.parts N.make) → ((p : N.D) → place N.parts (N.as_values p) ≡ value_place N form every (form p).value) → (p q : N.D) → (form p).made → (form q).made → (form p).value ≡ (form q).value → p ≡ q
one_value N form every placed p q hp hq e =
    let at : place N.parts (N.as_values p) ≡ place N.parts (N.as_values q) = placed p ∙ ap (value_place N form every) e ∙ sym (placed q) in
    values_one N p q (same_variant form N.parts N.make every (N.as_values p) (N.as_values q) at (rw (N.eta p) hp) (rw (N.eta q) hq) (rw (N.eta p, N.eta q) e))
