use Rattle.std.proofs.Common.{◌≡◌, Some, ℕ, ◌<◌, slice_get}
use Rattle.etcs_telegram.specs.Telegrams.{TelegramContent}
use Rattle.etcs_group.proofs.assembly.first_in.Given as goal

abbrev pub invariant-loop-slot : goal.invariant-loop-slot
invariant-loop-slot l = (k : ℕ) (t : TelegramContent) → k < l.slot-index → slice_get l.held k ≡ Some (Some t) → ⊥
