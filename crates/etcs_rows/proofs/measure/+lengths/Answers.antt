use Rattle.std.proofs.Common.{◌≡◌, ℕ, ◌+◌, ◌-◌, ◌/◌, ◌^◌, ◌≤◌, List, sym, ap, ◌∙◌, arith}
use Rattle.std.proofs.lemmas.Bool.{both_ways}
use Rattle.etcs_tables.specs.declared.item.RowItem.{RowItem}
use Rattle.etcs_tables.specs.Layouts.{Layout, layout, one}
use Rattle.etcs_rows.specs.Lengths.{LengthsBy, front, beyond}
use Rattle.etcs_rows.specs.Sums.{Plus}
use Rattle.etcs_rows.proofs.LengthLemmas.{set_back}
use Rattle.etcs_rows.proofs.SumLemmas.{set_same, set_plus, lengths-parts, after_begins, set_whole, set_passed, set_not_passed, set_counted, set_one, set_free_one, set_first, groups_none, groups_more, groups_same, groups_all, GroupsTo, most_admits, set_no_front, counted_all, open_end}
use Rattle.etcs_rows.proofs.measure.+lengths.Goals as goal
use Rattle.etcs_rows.proofs.measure.+lengths.Goals.{groups_each-then-admits, groups_each-else-admits}

pub lengths_of-returns : goal.lengths_of-returns
lengths_of-returns t c =
    let row = layout c.args.items.now in let n = c.args.before in let F = LengthsBy (front row) n in let B = LengthsBy (beyond row) 0 in
    let bare = c.open_lengths.ensures (rw c.after_groups.ensures.beyond (after_begins row)) in
    set_same c.plus.result (Plus F B) (LengthsBy row n) (set_back (LengthsBy row n) (Plus F B) (lengths-parts row n))
    (set_plus c.groups_at.result c.open_lengths.result c.plus.result F B c.groups_at.ensures (rw c.after_groups.ensures.beyond at bare) c.plus.ensures)

pub first_lengths-returns : goal.first_lengths-returns
first_lengths-returns t c =
    let rest = layout c.args.rest.now in
    let bare = c.open_lengths.ensures (rw c.after_groups.ensures.beyond (after_begins rest)) in
    set_first c.groups_within.result c.shift.result c.open_lengths.result c.plus.result c.args.var rest c.args.low c.args.high c.groups_within.ensures
    (rw c.width.ensures at c.shift.ensures) (rw c.after_groups.ensures.beyond at bare) c.plus.ensures

pub open_lengths-returns-then-has_group : goal.open_lengths-returns-then-has_group
open_lengths-returns-then-has_group t c = λ none.
    let rest = layout c.in-One.rest.now in
    let is : layout c.args.items.now ≡ one c.in-One.var rest = ap (λ (x : List RowItem). layout x) c.in-One.ensures.0 in
    set_one c.first_lengths.result (layout c.args.items.now) rest c.in-One.var 0 is c.first_lengths.ensures

pub open_lengths-returns-else-has_group : goal.open_lengths-returns-else-has_group
open_lengths-returns-else-has_group t c = λ none.
    let rest = layout c.in-One.rest.now in
    let is : layout c.args.items.now ≡ one c.in-One.var rest = ap (λ (x : List RowItem). layout x) c.in-One.ensures.0 in
    let free = sym c.has_group.ensures ∙ c.if-has_group.false in
    set_free_one c.open_lengths.result c.shift.result (layout c.args.items.now) rest c.in-One.var 0 is free (c.open_lengths.ensures free) (rw c.width.ensures at c.shift.ensures)

pub open_lengths-returns-in_default : goal.open_lengths-returns-in_default
open_lengths-returns-in_default t c = λ none. set_whole c.single.result (layout c.args.items.now) 0 c.single.ensures (open_end c.first_item.result c.args.items.now c.first_item.ensures c.in_default.not-One none)

pub groups_at-returns-then-passes : goal.groups_at-returns-then-passes
groups_at-returns-then-passes t c =
    let w = c.in-When in
    set_passed c.lengths_of.result c.groups_at-beyond.result c.plus.result (front (layout c.args.items.now)) w.guard (layout w.group.now) (front (layout w.rest.now)) c.args.before
    (ap (λ (x : Layout). front x) w.ensures.0) (sym c.passes.ensures ∙ c.if-passes.true) c.lengths_of.ensures c.groups_at-beyond.ensures c.plus.ensures

pub groups_at-returns-else-passes : goal.groups_at-returns-else-passes
groups_at-returns-else-passes t c =
    let w = c.in-When in
    set_not_passed c.groups_at-beyond.result (front (layout c.args.items.now)) w.guard (layout w.group.now) (front (layout w.rest.now)) c.args.before
    (ap (λ (x : Layout). front x) w.ensures.0) (sym c.passes.ensures ∙ c.if-passes.false) c.groups_at-beyond.ensures

pub groups_at-returns-in-Many : goal.groups_at-returns-in-Many
groups_at-returns-in-Many t c =
    let w = c.in-Many in
    set_counted c.lengths_of-in-Many.result c.times.result c.groups_at.result c.plus-in-Many.result (front (layout c.args.items.now)) (layout w.group.now) (front (layout w.rest.now)) c.args.before
    (ap (λ (x : Layout). front x) w.ensures.0) c.lengths_of-in-Many.ensures c.times.ensures c.groups_at.ensures c.plus-in-Many.ensures

pub groups_at-returns-in-One : goal.groups_at-returns-in-One
groups_at-returns-in-One t c = set_no_front c.single.result (layout c.args.items.now) c.args.before c.single.ensures (ap (λ (x : List RowItem). front (layout x)) c.in-One.ensures.0)

pub groups_at-returns-in-End : goal.groups_at-returns-in-End
groups_at-returns-in-End t c = set_no_front c.single-in-End.result (layout c.args.items.now) c.args.before c.single-in-End.ensures (ap (λ (x : List RowItem). front (layout x)) c.in-End.ensures)

pub groups_within-returns-in-Some-Many : goal.groups_within-returns-in-Some-Many
groups_within-returns-in-Some-Many t c =
    let a = rw c.in-Some-Many.field-0-is at c.in-Some-Many.ensures in
    counted_all c.args.var (layout c.args.rest.now) (layout c.in-Some-Many.group.now) a.0 c.args.low c.args.high c.lengths_of.result c.counted_within.result a.1 a.2 a.3 c.lengths_of.ensures c.counted_within.ensures

pub groups_each-loop-number-init : goal.groups_each-loop-number-init
groups_each-loop-number-init t c = record {
  groups = groups_none c.args.var (λ (n : ℕ). LengthsBy (front (layout c.args.rest.now)) n) c.args.low c.args.low c.empty-all.result (omega arith) c.empty-all.ensures;
  within = λ n l h. absurd (omega arith);
}

pub groups_each-loop-number-preserved : goal.groups_each-loop-number-preserved
groups_each-loop-number-preserved t c =
    let F = λ (n : ℕ). LengthsBy (front (layout c.args.rest.now)) n in let n = c.loop-number.number in let inv = c.loop-number.invariant in
    record {
      groups = elim c.if-admits.branch [
        | groups_each-then-admits w ↦
            rw w.all-is (groups_more c.args.var F c.args.low n c.loop-number.all w.groups_at.result w.join-all.result inv.groups (omega arith) (sym c.admits.ensures ∙ w.if-admits.true) w.groups_at.ensures w.join-all.ensures)
        | groups_each-else-admits w ↦
            rw w.all-is (groups_same c.args.var F c.args.low n c.loop-number.all inv.groups (λ h. both_ways c.admits.result w.if-admits.false (c.admits.ensures ∙ h)))
      ];
      within = λ k l h. omega arith;
    }

pub groups_each-returns : goal.groups_each-returns
groups_each-returns t c =
    groups_all c.args.var (λ (n : ℕ). LengthsBy (front (layout c.args.rest.now)) n) c.args.low c.args.high c.loop-number.number c.loop-number.all c.loop-number.invariant.groups c.loop-number.invariant.within
    (λ n l u a. let most : n ≤ 18446744073709551615 / 2 ^ (64 - c.width.result) = rw c.width.ensures (most_admits c.args.var n a) in omega (arith, most))

pub groups_each-returns-after-admits : goal.groups_each-returns-after-admits
groups_each-returns-after-admits t c =
    let F = λ (n : ℕ). LengthsBy (front (layout c.args.rest.now)) n in let n = c.loop-number.number in let inv = c.loop-number.invariant in
    let all : GroupsTo c.args.var F c.args.low (n + 1) c.if-admits.all = elim c.if-admits.branch [
      | groups_each-then-admits w ↦
          rw w.all-is (groups_more c.args.var F c.args.low n c.loop-number.all w.groups_at.result w.join-all.result inv.groups (omega arith) (sym c.admits.ensures ∙ w.if-admits.true) w.groups_at.ensures w.join-all.ensures)
      | groups_each-else-admits w ↦
          rw w.all-is (groups_same c.args.var F c.args.low n c.loop-number.all inv.groups (λ h. both_ways c.admits.result w.if-admits.false (c.admits.ensures ∙ h)))
    ] in
    groups_all c.args.var F c.args.low c.args.high (n + 1) c.if-admits.all all (λ k l h. omega arith)
    (λ k l u a. let most : k ≤ 18446744073709551615 / 2 ^ (64 - c.width.result) = rw c.width.ensures (most_admits c.args.var k a) in omega (arith, most))
