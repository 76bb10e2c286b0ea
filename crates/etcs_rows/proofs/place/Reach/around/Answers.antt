use Rattle.std.proofs.Common.{ℕ, ◌≤◌, [], subst}
use Rattle.std.specs.Prelude.{◌↔◌}
use Rattle.etcs_tables.specs.Layouts.{Layout, Lengths}
use Rattle.etcs_rows.specs.Lengths.{LengthsBy}
use Rattle.etcs_rows.specs.Totals.{InSums}
use Rattle.etcs_rows.specs.Nearest.{IsNear}
use Rattle.etcs_rows.specs.Sets.{In}
use Rattle.etcs_rows.proofs.LengthLemmas.{lengths_are}
use Rattle.etcs_rows.proofs.NearLemmas.{near_to, near_same}
use Rattle.etcs_rows.proofs.place.Reach.around.Goals as goal

pub returns-in-Some-around : goal.returns-in-Some-around
returns-in-Some-around c =
    let left = c.self.inside.place in let items = c.in-Some.sums.sums.items in
    let known : (m : ℕ) → m ≤ 8191 → InSums items m ↔ LengthsBy left 0 m = rw c.in-Some.is at c.self.invariant.1 in
    let all = λ (m : ℕ). lengths_are left c.self.invariant.0 m in
    subst (λ (x : Layout). IsNear (λ m. Lengths x [] m) c.args.bits c.to.result) c.self.view_is
    (near_to (InSums items) (λ m. Lengths left [] m) c.args.bits 8191 c.in-Some-around.near c.to.result
    (λ m l. ((λ x. (all m).1 ((known m l).0 x, l)), (λ y. (known m l).1 ((all m).0 y).0)))
    (λ m y. ((all m).0 y).1)
    c.requires c.in-Some-around.ensures c.to.ensures.below c.to.ensures.above)

pub returns : goal.returns
returns c =
    let left = c.self.inside.place in
    subst (λ (x : Layout). IsNear (λ m. Lengths x [] m) c.args.bits c.around-2.result) c.self.view_is
    (near_same (In c.lengths.result) (λ m. Lengths left [] m) c.args.bits c.around-2.result c.lengths.ensures c.around-2.ensures)
