-- Packets to the track of rows without groups, each its numbers (SUBSET-026, 7.4.3).
use Rattle.std.specs.Prelude.{ℕ, List}

-- the packet of some numbers, which has no direction of its own
abbrev pub alone : ℕ → List ℕ → List ℕ
alone dir ns = ns
