-- Texts that begin with others.
use Rattle.std.proofs.Common.{◌≡◌, ℕ, List, take, length}

-- the new text begins with the old
abbrev pub Begins : List ℕ → List ℕ → Type 0
Begins old new = take (length old) new ≡ old
