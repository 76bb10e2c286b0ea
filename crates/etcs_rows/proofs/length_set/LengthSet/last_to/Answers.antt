use Rattle.std.proofs.Common.{◌-◌, arith}
use Rattle.etcs_rows.proofs.NearLemmas.{set_below}
use Rattle.etcs_rows.proofs.length_set.LengthSet.last_to.Goals as goal

pub loop-end-init : goal.loop-end-init
loop-end-init c = record { to = omega (arith, c.saturating_add-end.ensures); all = λ k i l. omega (arith, l, c.saturating_add-end.ensures, c.requires) }

pub loop-end-preserved : goal.loop-end-preserved
loop-end-preserved c = record {
  to = omega (arith, c.loop-end.invariant.to);
  all = set_below c.args.self.now c.args.number (c.loop-end.end - 1) c.loop-end.end (omega arith) c.loop-end.invariant.all (λ i. let no = c.if-holds.false in let yes = c.holds.ensures.1 i in absurd cc);
}

pub returns-then-holds : goal.returns-then-holds
returns-then-holds c = ((c.holds.ensures.0 c.if-holds.true, omega (arith, c.loop-end.invariant.to)), λ k q. (let l = c.loop-end.invariant.all k q.0 q.1 in omega (arith, l)))

pub returns : goal.returns
returns c = λ k q. (let l = c.loop-end.invariant.all k q.0 q.1 in omega (arith, l))
