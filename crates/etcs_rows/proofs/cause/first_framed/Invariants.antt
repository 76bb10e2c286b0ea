use Rattle.std.proofs.Common.{ℕ, ◌<◌, ◌≤◌}
use Rattle.std.specs.Prelude.{IsTrue}
use Rattle.etcs_tables.specs.Frames.{is_framed}
use Rattle.etcs_rows.proofs.cause.first_framed.Given as goal

-- none of the numbers so far has a frame
abbrev pub invariant-loop-nid : goal.invariant-loop-nid
invariant-loop-nid l = (n : ℕ) → n < l.nid → l.low ≤ n → IsTrue (is_framed l.way n) → ⊥
