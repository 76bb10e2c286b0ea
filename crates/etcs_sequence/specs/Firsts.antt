-- An item that bytes begin with, as the reader takes it from them.
use Rattle.std.specs.Prelude.{◌≡◌, ℕ, ◌≤◌, List, length, take}
use Rattle.etcs_bits.specs.Bits.{bits}
use Rattle.etcs_vars.specs.Reading.{Reading, spelled}

-- the item is one that its type admits, and the first n bytes are its spelling
abbrev pub IsFirst : {V W : Type 0} → (W → Reading → Type 0) → (V → W) → (V → Type 0) → List ℕ → V → ℕ → Type 0
IsFirst Reads value IsValue bytes v n = IsValue v × (n ≤ length bytes) × (r : Reading) × Reads (value v) r × (spelled r ≡ bits (take n bytes))
