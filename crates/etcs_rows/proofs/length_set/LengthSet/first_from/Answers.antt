use Rattle.std.proofs.Common.{arith}
use Rattle.etcs_rows.proofs.NearLemmas.{set_above}
use Rattle.etcs_rows.proofs.SetLemmas.{in_small}
use Rattle.etcs_rows.proofs.length_set.LengthSet.first_from.Goals as goal

pub loop-n-init : goal.loop-n-init
loop-n-init c = record { from = omega arith; none = λ k i l. l }

pub loop-n-preserved : goal.loop-n-preserved
loop-n-preserved c = record {
  from = omega (arith, c.loop-n.invariant.from);
  none = set_above c.args.self.now c.args.number c.loop-n.n c.loop-n.invariant.none (λ i. let no = c.if-holds.false in let yes = c.holds.ensures.1 i in absurd cc);
}

pub returns-then-holds : goal.returns-then-holds
returns-then-holds c = ((c.holds.ensures.0 c.if-holds.true, c.loop-n.invariant.from), λ k q. c.loop-n.invariant.none k q.0 q.1)

pub returns : goal.returns
returns c = λ k q. (let l = c.loop-n.invariant.none k q.0 q.1 in let s = in_small c.args.self.now k (omega arith) q.0 in omega (arith, l, s))
