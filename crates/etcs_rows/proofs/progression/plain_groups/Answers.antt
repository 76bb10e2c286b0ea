use Rattle.std.proofs.Common.{sym, ap, ◌∙◌, arith}
use Rattle.etcs_tables.specs.Layouts.{Layout, layout}
use Rattle.etcs_rows.specs.Lengths.{beyond}
use Rattle.etcs_rows.proofs.RowSums.{front_more, front_ends, after_none}
use Rattle.etcs_rows.proofs.progression.plain_groups.Goals as goal

pub loop-guard-preserved : goal.loop-guard-preserved
loop-guard-preserved c =
    let w = c.in-When in let left = c.loop-guard.left.now in let inv = c.loop-guard.invariant in
    record {
      sum = front_more (layout c.args.items.now) (layout left) w.guard (layout w.group.now) (layout w.rest.now) c.args.before c.loop-guard.width c.in_ok-more.more c.in_ok-width.width
          c.in_ok-width.ensures.1 w.ensures.0 c.in_ok-more.ensures.passed c.in_ok-more.ensures.skipped inv.sum;
      same = sym (ap (λ (x : Layout). beyond x) w.ensures.0) ∙ inv.same;
      shorter = omega (arith, w.ensures.2);
    }

pub returns-else-has_group-clause-width : goal.returns-else-has_group-clause-width
returns-else-has_group-clause-width c =
    front_ends (layout c.args.items.now) (layout c.loop-guard.left.now) c.args.before c.loop-guard.width (sym c.has_group.ensures ∙ c.if-has_group.false) c.loop-guard.invariant.sum

pub returns-else-has_group-clause-beyond : goal.returns-else-has_group-clause-beyond
returns-else-has_group-clause-beyond c = sym (after_none (layout c.loop-guard.left.now) (sym c.has_group.ensures ∙ c.if-has_group.false)) ∙ c.loop-guard.invariant.same
