use Rattle.std.proofs.Common.{◌≡◌, List, ◌∷◌, sym, ap, ◌∙◌, arith, length}
use Rattle.etcs_vars.specs.Vars.{width}
use Rattle.etcs_tables.specs.declared.item.RowItem.{RowItem}
use Rattle.etcs_tables.specs.Layouts.{layout, one}
use Rattle.etcs_rows.specs.Lengths.{LengthsBy, beyond, GroupsWithin, FirstWithin}
use Rattle.etcs_rows.specs.Sums.{Plus}
use Rattle.etcs_rows.proofs.LengthLemmas.{set_along}
use Rattle.etcs_rows.proofs.SumLemmas.{no_items}
use Rattle.etcs_rows.proofs.StepLemmas.{is_zero}
use Rattle.etcs_rows.proofs.RowSums.{more_width, free_sum, first_sum, one_sum, led_whole}
use Rattle.etcs_rows.proofs.progression.leading.Goals as goal

pub loop-var-preserved : goal.loop-var-preserved
loop-var-preserved c =
    let v = c.in-Some-One-default.var in let rest = c.in-Some-One-default.rest.now in
    let left = layout c.loop-var.left.now in
    let is : left ≡ one v (layout rest) = ap (λ (x : List RowItem). layout x) (c.in-Some-One-default.ensures.cases.0 ∙ ap (λ (x : RowItem). x ∷ rest) c.in-Some-One-default.field-0-0-is) in
    record {
      sum = more_width (LengthsBy (layout c.args.items.now) 0) (LengthsBy left 0) (LengthsBy (layout rest) 0) c.loop-var.width (width v) c.in_ok-width.width (rw c.width.ensures at c.in_ok-width.ensures.1)
          c.loop-var.invariant.sum (free_sum left v (layout rest) 0 is (sym c.has_group.ensures ∙ c.if-has_group.false));
      shorter = omega (arith, c.in-Some-One-default.ensures.cases);
    }

pub returns-then-has_group-clause-sum : goal.returns-then-has_group-clause-sum
returns-then-has_group-clause-sum c =
    let v = c.in-Some-One-default.var in let rest = c.in-Some-One-default.rest.now in
    let left = layout c.loop-var.left.now in let row = layout rest in
    let is : left ≡ one v row = ap (λ (x : List RowItem). layout x) (c.in-Some-One-default.ensures.cases.0 ∙ ap (λ (x : RowItem). x ∷ rest) c.in-Some-One-default.field-0-0-is) in
    let R = Plus (GroupsWithin v row 0 18446744073709551615) (LengthsBy (beyond row) 0) in
    more_width (LengthsBy (layout c.args.items.now) 0) (LengthsBy left 0) R c.loop-var.width (width v) c.in_ok-width.width (rw c.width.ensures at c.in_ok-width.ensures.1)
    c.loop-var.invariant.sum (set_along (Plus (λ k. k ≡ width v) R) (FirstWithin v row 0 18446744073709551615) (LengthsBy left 0) (first_sum v row 0 18446744073709551615) (one_sum left v row 0 is))

pub returns-then-has_group-clause-shorter : goal.returns-then-has_group-clause-shorter
returns-then-has_group-clause-shorter c = omega (arith, c.in-Some-One-default.ensures.cases, c.loop-var.invariant.shorter)

pub returns-then-is_empty-clause-sum : goal.returns-then-is_empty-clause-sum
returns-then-is_empty-clause-sum c =
    let left = c.loop-var.left.now in
    led_whole (layout c.args.items.now) (layout left) c.loop-var.width (no_items left (is_zero (length left) (sym c.is_empty.ensures ∙ c.if-is_empty.true))) c.loop-var.invariant.sum
