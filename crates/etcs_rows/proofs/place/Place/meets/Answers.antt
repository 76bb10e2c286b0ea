use Rattle.std.proofs.Common.{◌≡◌, ℕ, ◌≤◌, [], subst}
use Rattle.std.specs.Prelude.{IsTrue, ◌↔◌}
use Rattle.etcs_tables.specs.Layouts.{Layout, Lengths}
use Rattle.etcs_rows.specs.Cursors.{left_of}
use Rattle.etcs_rows.proofs.LengthLemmas.{lengths_are}
use Rattle.etcs_rows.proofs.place.Place.meets.Goals as goal

pub returns-in-Some : goal.returns-in-Some
returns-in-Some c =
    let left = left_of c.self.inside.cursor in
    let is : left ≡ c.args.self.now = c.self.view_is in
    let all = λ (m : ℕ). lengths_are left c.self.invariant.2 m in
    let by_steps = c.in-Some.ensures in
    subst (λ (x : Layout). IsTrue c.in-Some.answer ↔ ((m : ℕ) × Lengths x [] m × (c.args.low ≤ m) × (m ≤ c.args.high))) is (
      λ h. (let x = by_steps.0 h in (x.0, (all x.0).1 (x.1, x.2), x.3, x.4)),
      λ (m, l, above, below). (let x = (all m).0 l in by_steps.1 (m, x.0, x.1, above, below)),
    )

pub returns-in-None : goal.returns-in-None
returns-in-None c = (
  λ h. (let x = c.any_in.ensures.0 h in (x.0, (c.lengths.ensures x.0).0 x.1, x.2, x.3)),
  λ (m, l, above, below). c.any_in.ensures.1 (m, (c.lengths.ensures m).1 l, above, below),
)
