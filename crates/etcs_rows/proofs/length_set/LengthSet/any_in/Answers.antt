use Rattle.std.proofs.Common.{arith}
use Rattle.std.proofs.lemmas.Bool.{leb-true}
use Rattle.etcs_rows.specs.Sets.{In}
use Rattle.etcs_rows.proofs.SetLemmas.{in_small}
use Rattle.etcs_rows.proofs.length_set.LengthSet.any_in.Goals as goal

pub returns-then-low-high : goal.returns-then-low-high
unfolding In
returns-then-low-high c = (
  λ h. (let x = c.any_between.ensures.0 h in let under = x.3 in (x.0, x.1, x.2, omega (arith, under))),
  λ (m, has, over, under).
      let small = in_small c.args.self.now m (omega arith) has in c.any_between.ensures.1 (m, has, over, omega (arith, under, small)),
)

pub returns-else-low-high : goal.returns-else-low-high
returns-else-low-high c = (
  λ h. absurd (let t = leb-true c.args.low c.min-high.result h in omega (arith, t)),
  λ (m, has, over, under). absurd (let small = in_small c.args.self.now m (omega arith) has in omega (arith, over, under, small)),
)
