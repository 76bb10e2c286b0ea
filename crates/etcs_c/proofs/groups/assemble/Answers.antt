use Rattle.std.proofs.Common.{arith, inl, inr, refl}
use Rattle.etcs_c.proofs.Holding.{first_said, one_more}
use Rattle.etcs_c.proofs.groups.assemble.Goals as goal

pub returns-then-status-ne-WHOLE : goal.returns-then-status-ne-WHOLE
returns-then-status-ne-WHOLE c =
    elim c.add-status.ensures [
      | inl h ↦ absurd (omega (arith, h.4, c.if-status-ne-WHOLE.true))
      | inr h ↦ inr (first_said c.args.telegrams.now c.loop-i.i _ c.loop-i.assembly c.add-status.result c.add-status.new.answer _ c.loop-i-test.true c.loop-i.invariant h.1 refl refl refl, refl)
    ]

pub loop-i-preserved : goal.loop-i-preserved
loop-i-preserved c =
    elim c.add-status.ensures [
      | inl h ↦ one_more c.args.telegrams.now c.loop-i.i _ h.0 c.loop-i.assembly c.add-status.new.assembly c.loop-i-test.true h.1 h.2 h.3 c.loop-i.invariant
      | inr h ↦ absurd (h.0 (omega (arith, c.if-status-ne-WHOLE.false)))
    ]
