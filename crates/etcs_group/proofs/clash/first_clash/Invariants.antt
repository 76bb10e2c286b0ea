use Rattle.std.proofs.Common.{All, take}
use Rattle.etcs_group.specs.Clashes.{Clashes}
use Rattle.etcs_group.proofs.clash.first_clash.Given as goal

abbrev pub invariant-loop-clash : goal.invariant-loop-clash
invariant-loop-clash l = All (λ d. Clashes l.held l.telegram d → ⊥) (take l.clash-index l.clash-items)
