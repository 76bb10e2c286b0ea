use Rattle.std.proofs.Common.{arith}
use Rattle.std.proofs.lemmas.Bool.{iff_false}
use Rattle.std.proofs.lemmas.List.Elements.{All-more}
use Rattle.etcs_group.specs.declared.clash.Clash.TheVariants.{BadPosition}
use Rattle.etcs_group.specs.Clashes.{Clashes}
use Rattle.etcs_group.proofs.Clashing.{order, first_of, joins_after}
use Rattle.etcs_group.proofs.clash.first_clash.Goals as goal

pub loop-clash-init : goal.loop-clash-init
loop-clash-init c = λ k d h. absurd (omega (arith, h))

pub returns-then-is_met-clause-clash : goal.returns-then-is_met-clause-clash
returns-then-is_met-clause-clash c = first_of c.args.held.now c.args.telegram.now c.loop-clash.clash-index c.loop-clash-test.true (c.is_met.ensures.0 c.if-is_met.true) c.loop-clash.invariant

pub loop-clash-preserved : goal.loop-clash-preserved
loop-clash-preserved c = All-more (λ d. Clashes c.args.held.now c.args.telegram.now d → ⊥) order c.loop-clash.clash-index BadPosition c.loop-clash-test.true c.loop-clash.invariant (iff_false c.is_met.ensures c.if-is_met.false)

pub returns-clause-joins : goal.returns-clause-joins
returns-clause-joins c = joins_after c.args.held.now c.args.telegram.now c.loop-clash.clash-index (omega arith) c.loop-clash.invariant
