use Rattle.std.proofs.Common.{◌≡◌, ℕ, ◌-◌, ◌/◌, ◌^◌, ◌≤◌, sym, ap, ◌∙◌, arith, Some}
use Rattle.std.proofs.lemmas.Bool.{both_ways}
use Rattle.etcs_tables.specs.Layouts.{Layout, layout}
use Rattle.etcs_rows.specs.Lengths.{LengthsBy, front, beyond, GroupsWithin, SetsWithin}
use Rattle.etcs_rows.specs.Progressions.{InProgression, InGuarded, TimesWithin}
use Rattle.etcs_rows.specs.Sums.{Plus, SumOf}
use Rattle.etcs_rows.proofs.LengthLemmas.{set_along, set_back, set_self, SameSet}
use Rattle.etcs_rows.proofs.SumLemmas.{lengths-parts, most_admits}
use Rattle.etcs_rows.proofs.RowSums.{Plus-zero, passed_sum, not_passed_sum, counted_sum, counted_times}
use Rattle.etcs_rows.proofs.StepSums.{guarded_groups, some_are, times_within, plus_are, times_are, steps_none, steps_more, steps_same, steps_all}
use Rattle.etcs_rows.proofs.progression.+steps.Goals as goal
use Rattle.etcs_rows.proofs.progression.+steps.Goals.{groups_each-then-admits+in_ok-groups+in_ok-join, groups_each-else-admits}

pub steps_of-returns : goal.steps_of-returns
steps_of-returns t c =
    let row = layout c.args.items.now in let n = c.args.before in
    plus_are c.plus.result c.in_ok-groups.groups c.in_ok-open_steps.field-0 (LengthsBy (front row) n) (LengthsBy (beyond row) 0) (LengthsBy row n) c.in_ok-groups.ensures
    (rw c.after_groups.ensures.beyond at c.in_ok-open_steps.ensures) (set_back (LengthsBy row n) (Plus (LengthsBy (front row) n) (LengthsBy (beyond row) 0)) (lengths-parts row n)) c.plus.ensures

pub groups_steps-returns-in_ok-groups_steps-in-When : goal.groups_steps-returns-in_ok-groups_steps-in-When
groups_steps-returns-in_ok-groups_steps-in-When t c =
    let w = c.in-When in
    let group = layout w.group.now in let rest = front (layout w.rest.now) in let n = c.args.before in
    let row = front (layout c.args.items.now) in
    plus_are c.plus.result c.in_ok-own-in-When.own c.in_ok-groups_steps-in-When.field-0 (LengthsBy group n) (LengthsBy rest n) (LengthsBy row n)
    c.in_ok-own-in-When.ensures c.in_ok-groups_steps-in-When.ensures
    (passed_sum row w.guard group rest n (ap (λ (x : Layout). front x) w.ensures.0) (sym c.passes.ensures ∙ c.if-passes.true)) c.plus.ensures

pub groups_steps-returns-else-passes : goal.groups_steps-returns-else-passes
groups_steps-returns-else-passes t c =
    let w = c.in-When in
    let group = layout w.group.now in let rest = front (layout w.rest.now) in let n = c.args.before in
    let row = front (layout c.args.items.now) in
    some_are c.groups_steps-else-passes.result (LengthsBy rest n) (LengthsBy row n)
    (not_passed_sum row w.guard group rest n (ap (λ (x : Layout). front x) w.ensures.0) (sym c.passes.ensures ∙ c.if-passes.false)) c.groups_steps-else-passes.ensures

pub groups_steps-returns-in_ok-groups_steps-in-Many : goal.groups_steps-returns-in_ok-groups_steps-in-Many
groups_steps-returns-in_ok-groups_steps-in-Many t c =
    let w = c.in-Many in
    let group = layout w.group.now in let rest = front (layout w.rest.now) in let n = c.args.before in
    let row = front (layout c.args.items.now) in
    plus_are c.plus-in-Many.result c.in_ok-all-in-Many.all c.in_ok-groups_steps-in-Many.field-0 (SumOf n (LengthsBy group n)) (LengthsBy rest n) (LengthsBy row n)
    (times_are n c.in_ok-steps_of-in-Many.field-0 c.in_ok-all-in-Many.all (LengthsBy group n) c.in_ok-steps_of-in-Many.ensures c.in_ok-all-in-Many.ensures)
    c.in_ok-groups_steps-in-Many.ensures
    (counted_sum row group rest n (ap (λ (x : Layout). front x) w.ensures.0)) c.plus-in-Many.ensures

pub open_steps-returns-in-None : goal.open_steps-returns-in-None
open_steps-returns-in-None t c =
    let row = layout c.args.items.now in let W : ℕ → Type 0 = λ k. k ≡ c.in_ok-width.width in let Z : ℕ → Type 0 = λ k. k ≡ 0 in
    set_along (InProgression c.single-front.result) W (LengthsBy row 0) c.single-front.ensures
    (set_along W (Plus W Z) (LengthsBy row 0) (Plus-zero W) (set_back (LengthsBy row 0) (Plus W Z) (rw c.in-None.is at c.in_ok-width.ensures.sum)))

pub open_steps-returns-in_ok-tail-in-Some : goal.open_steps-returns-in_ok-tail-in-Some
open_steps-returns-in_ok-tail-in-Some t c =
    let v = c.in-Some.field-0.var in let rest = layout c.in-Some.field-0.rest.now in let row = layout c.args.items.now in
    let W : ℕ → Type 0 = λ k. k ≡ c.in_ok-width.width in
    let G = GroupsWithin v rest 0 18446744073709551615 in let B = LengthsBy (beyond rest) 0 in
    let both : SameSet (InProgression c.in_ok-tail-in-Some.tail) (Plus G B) =
    plus_are (Some c.in_ok-tail-in-Some.tail) c.in_ok-groups-in-Some.groups c.in_ok-open_steps-in-Some.field-0 G B (Plus G B)
    c.in_ok-groups-in-Some.ensures (rw c.after_groups.ensures.beyond at c.in_ok-open_steps-in-Some.ensures) (set_self (Plus G B)) c.in_ok-tail-in-Some.ensures in
    plus_are c.plus-in-Some.result c.single-front.result c.in_ok-tail-in-Some.tail W (Plus G B) (LengthsBy row 0) c.single-front.ensures both
    (set_back (LengthsBy row 0) (Plus W (Plus G B)) (rw c.in-Some.is at c.in_ok-width.ensures.sum)) c.plus-in-Some.ensures

pub groups_each-loop-number-init : goal.groups_each-loop-number-init
groups_each-loop-number-init t c = record {
  groups = steps_none c.args.var (λ (n : ℕ). LengthsBy (front (layout c.args.rest.now)) n) c.args.low;
  within = λ n l h. absurd (omega arith);
}

pub groups_each-loop-number-preserved : goal.groups_each-loop-number-preserved
groups_each-loop-number-preserved t c =
    let F = λ (n : ℕ). LengthsBy (front (layout c.args.rest.now)) n in let n = c.loop-number.number in let inv = c.loop-number.invariant in
    record {
      groups = elim c.if-admits.branch [
        | groups_each-then-admits+in_ok-groups+in_ok-join w ↦
            rw w.all-is (steps_more c.args.var F c.args.low n c.loop-number.all w.in_ok-groups.groups w.in_ok-join.field-0 inv.groups (omega arith) (sym c.admits.ensures ∙ w.if-admits.true) w.in_ok-groups.ensures w.in_ok-join.ensures)
        | groups_each-else-admits w ↦
            rw w.all-is (steps_same c.args.var F c.args.low n c.loop-number.all inv.groups (λ h. both_ways c.admits.result w.if-admits.false (c.admits.ensures ∙ h)))
      ];
      within = λ k l h. omega arith;
    }

pub groups_each-returns : goal.groups_each-returns
groups_each-returns t c =
    steps_all c.args.var (λ (n : ℕ). LengthsBy (front (layout c.args.rest.now)) n) c.args.low c.args.high c.loop-number.number c.loop-number.all c.loop-number.invariant.groups c.loop-number.invariant.within
    (λ n l u a. let most : n ≤ 18446744073709551615 / 2 ^ (64 - c.width.result) = rw c.width.ensures (most_admits c.args.var n a) in omega (arith, most, c.in_ok-end.ensures))

pub groups_steps-returns-in-Some : goal.groups_steps-returns-in-Some
groups_steps-returns-in-Some t c =
    set_along (InProgression c.single.result) (λ k. k ≡ c.in-Some.width) (LengthsBy (front (layout c.args.items.now)) c.args.before) c.single.ensures c.in-Some.ensures.width

pub counted_within-returns-in_ok-open_steps-in-Many-clause-all : goal.counted_within-returns-in_ok-open_steps-in-Many-clause-all
counted_within-returns-in_ok-open_steps-in-Many-clause-all t c =
    let a = rw c.in-Many.is at c.in_ok-group.ensures in let s = c.in_ok-open_steps-in-Many.field-0 in
    times_within c.args.var (layout c.args.rest.now) s c.args.low c.args.high c.in_ok-first-in-Many.first c.in_ok-first-in-Many.last
    (counted_times (layout c.args.rest.now) (layout c.in-Many.group.now) a.0 (InProgression s) a.1 a.2 a.3 c.in_ok-open_steps-in-Many.ensures) c.in_ok-first-in-Many.ensures.all

pub steps_each-returns-in_ok-open_steps-in-Some-When : goal.steps_each-returns-in_ok-open_steps-in-Some-When
steps_each-returns-in_ok-open_steps-in-Some-When t c =
    let v = c.args.var in let rest = layout c.args.rest.now in let low = c.args.low in let high = c.args.high in
    let w = c.in-Some-When in let a = rw w.field-0-is at w.ensures in let s = c.in_ok-open_steps-in-Some-When.field-0 in
    let same = guarded_groups rest w.guard (layout w.group.now) a.0 s a.1 a.2 a.3 c.in_ok-open_steps-in-Some-When.ensures in
    some_are c.guarded_each.result (SetsWithin v (InGuarded w.guard.test s) low high) (GroupsWithin v rest low high)
    (λ m. (λ (n, l, u, ok, x). (n, l, u, ok, (same n m).0 x), λ (n, l, u, ok, x). (n, l, u, ok, (same n m).1 x))) c.guarded_each.ensures

pub steps_within-returns-in-Some : goal.steps_within-returns-in-Some
steps_within-returns-in-Some t c =
    some_are c.times_steps.result (TimesWithin c.in-Some.group c.in-Some.first c.in-Some.last) (GroupsWithin c.args.var (layout c.args.rest.now) c.args.low c.args.high) c.in-Some.ensures.all c.times_steps.ensures
