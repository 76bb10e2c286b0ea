-- `==` of messages is equality of their values if that of heads and bodies is.
use Rattle.std.proofs.Common.{◌≡◌, ◌&&◌, Bool, refl}
use Rattle.std.specs.Bool.{Decides}
use Rattle.etcs_bodies.specs.Equality.{IsExact}
use Rattle.etcs_bodies.specs.laws.Equality.{both_exact, fields_exact}
pub use Rattle.etcs_packets.proofs.Equality.{enum_exact, one}

-- ---- Variants of two and four fields.

pub two : {V W : Type 0} {E : V → V → Bool} {F : W → W → Bool} → IsExact E → IsExact F → (x y : V × (W × Unit {0})) → Decides (E x.0 y.0 && F x.1.0 y.1.0) (x ≡ y)
two {V} {W} {E} {F} e f = fields_exact (λ (p : V × (W × Unit {0})). (p.0, p.1.0)) (λ n. (n.0, (n.1, tt {0}))) (λ p. refl) (both_exact e f)

pub four : {U V W X : Type 0} {D : U → U → Bool} {E : V → V → Bool} {F : W → W → Bool} {G : X → X → Bool} → IsExact D → IsExact E → IsExact F → IsExact G → (x y : U × (V × (W × (X × Unit {0})))) → Decides (D x.0 y.0 && (E x.1.0 y.1.0 && (F x.1.1.0 y.1.1.0 && G x.1.1.1.0 y.1.1.1.0))) (x ≡ y)
four {U} {V} {W} {X} {D} {E} {F} {G} d e f g =
    fields_exact (λ (p : U × (V × (W × (X × Unit {0})))). (p.0, (p.1.0, (p.1.1.0, p.1.1.1.0)))) (λ n. (n.0, (n.1.0, (n.1.1.0, (n.1.1.1, tt {0}))))) (λ p. refl) (both_exact d (both_exact e (both_exact f g)))
