use Rattle.std.proofs.Common.{◌≡◌, Some, ℕ, ◌<◌, slice_get}
use Rattle.etcs_telegram.specs.Telegrams.{TelegramContent}
use Rattle.etcs_group.specs.Clashes.{Between}
use Rattle.etcs_group.proofs.clash.Clash.is_met.Given as goal

abbrev pub invariant-loop-slot : goal.invariant-loop-slot
invariant-loop-slot l = (k : ℕ) (u : TelegramContent) → k < l.slot-index → slice_get l.held k ≡ Some (Some u) → Between l.self l.telegram u → ⊥
