-- Bits put one after another.
use Rattle.std.specs.Prelude.{◌≡◌, Bool, List, ◌++◌}

-- the new bits begin with the old
abbrev pub Begins : List Bool → List Bool → Type 0
Begins old new = (more : List Bool) × (new ≡ old ++ more)
