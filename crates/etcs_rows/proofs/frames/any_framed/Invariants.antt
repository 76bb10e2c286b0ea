use Rattle.std.proofs.Common.{ℕ, ◌<◌, ◌≤◌}
use Rattle.etcs_rows.specs.Frames.{LengthFits}
use Rattle.etcs_rows.proofs.frames.any_framed.Given as goal

-- none of the numbers so far fits
abbrev pub invariant-loop-nid : goal.invariant-loop-nid
invariant-loop-nid l = (n : ℕ) → n < l.nid → l.low ≤ n → ((x : ℕ) × LengthFits l.carrier n l.room x) → ⊥
