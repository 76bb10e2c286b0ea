use Rattle.std.proofs.Common.{◌≡◌, ◌≤◌, [], subst, arith}
use Rattle.etcs_tables.specs.Layouts.{Lengths}
use Rattle.etcs_rows.proofs.place.Place.can_take.Goals as goal

pub returns : goal.returns
returns c = (
  λ h. (let x = c.meets.ensures.0 h in let above = x.2 in let below = x.3 in let same : x.0 ≡ c.args.bits = omega (arith, above, below) in subst (λ k. Lengths c.args.self.now [] k) same x.1),
  λ l. c.meets.ensures.1 (c.args.bits, l, (let t : c.args.bits ≤ c.args.bits = omega arith in t), (let t : c.args.bits ≤ c.args.bits = omega arith in t)),
)
