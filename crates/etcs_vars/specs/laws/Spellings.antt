-- The bits of readings, one after another.
use Rattle.std.proofs.Common.{◌≡◌, List, Bool, [], ◌∷◌, ◌++◌, refl, sym, ap, ◌∙◌, append_assoc}
use Rattle.etcs_bits.specs.Bits.{num}
use Rattle.etcs_vars.specs.Vars.{width}
use Rattle.etcs_vars.specs.Reading.{Reading, spelled}

pub spelled-append : (p q : Reading) → spelled (p ++ q) ≡ spelled p ++ spelled q
spelled-append [] q = refl
spelled-append (a ∷ p) q = ap (λ (t : List Bool). num (width a.0) a.1 ++ t) (spelled-append p q) ∙ sym (append_assoc (num (width a.0) a.1) (spelled p) (spelled q))
