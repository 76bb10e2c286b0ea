use Rattle.std.proofs.Common.{◌≡◌, ◌↔◌, ◌<◌, ℕ, true, Some, slice_get, length}
use Rattle.etcs_group.specs.Messages.{IsLacking}
use Rattle.etcs_group.proofs.assembly.Assembly.missing.Given as goal

abbrev pub invariant-loop-position : goal.invariant-loop-position
invariant-loop-position l = (length l.missing ≡ 8) × ((p : ℕ) → (slice_get l.missing p ≡ Some true) ↔ ((p < l.position) × IsLacking l.self p))
