-- Lemmas about specs/Equality.antt.
use Rattle.std.proofs.Common.{◌≡◌, ◌∙◌, ◌&&◌, ℕ, Bool, None, Some, Decides, nat_eq, is_some, is_none, unwrap_or, true≢false, refl, sym, ap}
use Rattle.std.specs.Option.{option_eq}
use Rattle.std.specs.Cmp.{booleans_Decides, unsigned_Decides}
use Rattle.std.specs.Cmp.Lexicographic.{pointwise, pointwise_decides}
use Rattle.std.proofs.Math.Bool.{beq}
use Rattle.std.proofs.lemmas.Bool.Decides.{Decides-and}
use Rattle.etcs_bodies.specs.Equality.{IsExact}

pub number_exact : IsExact nat_eq
number_exact = unsigned_Decides

pub flag_exact : IsExact beq
flag_exact = booleans_Decides

along : {P Q : Type 0} (x : Bool) → Decides x P → (P → Q) → (Q → P) → Decides x Q
along x d f g = ((λ e. f (d.0 e)), (λ q. d.1 (g q)))

module _ {V : Type 0} {E : V → V → Bool} where
  pub option_exact : IsExact E → IsExact (option_eq E)
  option_exact e None None = (λ _. refl, λ _. refl)
  option_exact e None (Some w) = (λ h. absurd (true≢false (sym h)), λ h. ap is_some h)
  option_exact e (Some v) None = (λ h. absurd (true≢false (sym h)), λ h. ap is_none h)
  option_exact e (Some v) (Some w) = (λ h. ap Some ((e v w).0 h), λ h. (e v w).1 (ap (λ u. unwrap_or u v) h))

  pub list_exact : IsExact E → IsExact (pointwise E)
  list_exact e = pointwise_decides e

  -- of what has such a value for its fields
  pub fields_exact : {W : Type 0} (to : W → V) (from : V → W) → ((w : W) → from (to w) ≡ w) → IsExact E → IsExact (λ (a b : W). E (to a) (to b))
  fields_exact to from there e a b = along (E (to a) (to b)) (e (to a) (to b)) (λ h. sym (there a) ∙ ap from h ∙ there b) (λ h. ap to h)

module _ {V W : Type 0} {E : V → V → Bool} {F : W → W → Bool} where
  pub both_exact : IsExact E → IsExact F → IsExact (λ (a b : V × W). E a.0 b.0 && F a.1 b.1)
  both_exact e f a b = along (E a.0 b.0 && F a.1 b.1) (Decides-and (E a.0 b.0) (F a.1 b.1) (e a.0 b.0) (f a.1 b.1)) (λ h i. (h.0 i, h.1 i)) (λ h. (λ i. (h i).0, λ i. (h i).1))

-- of two numbers
pub numbers_exact : IsExact (λ (a b : ℕ × ℕ). nat_eq a.0 b.0 && nat_eq a.1 b.1)
numbers_exact = both_exact number_exact number_exact
