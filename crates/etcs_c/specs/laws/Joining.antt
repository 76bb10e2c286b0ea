-- Fields of readings one after another.
use Rattle.std.proofs.Common.{◌≡◌, [], ◌∷◌, ◌++◌, refl}
use Rattle.etcs_vars.specs.Reading.{Reading}
use Rattle.etcs_c.specs.Fields.{Joined, join, joined}

pub joined_both : (s : Joined) (a b : Reading) → joined s (a ++ b) ≡ joined (joined s a) b
joined_both s [] b = refl
joined_both s (p ∷ a) b = joined_both (join s p) a b
