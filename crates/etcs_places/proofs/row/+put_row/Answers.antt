use Rattle.std.proofs.Common.{◌≡◌, ◌+◌, ◌-◌, ◌∷◌, List, length, ap, ◌∙◌, sym, take, drop, arith}
use Rattle.std.proofs.lemmas.Result.{on_ok_weaker}
use Rattle.etcs_tables.specs.declared.item.RowItem.{RowItem}
use Rattle.etcs_tables.specs.Layouts.{layout}
use Rattle.etcs_rows.proofs.Cuts.{no_item, layout-when_cut, layout-many_cut}
use Rattle.etcs_places.proofs.RowSteps.{walked_none, walked_out, walked_one, walked_guarded, walked_past, walked_start, walked_entry, walked_counted}
use Rattle.etcs_places.proofs.row.+put_row.Goals as goal
use Rattle.etcs_places.proofs.row.+put_row.Goals.{then-passes+in_ok-put_row-in-When, else-passes}

pub returns-in_default : goal.returns-in_default
returns-in_default t c =
    walked_none c.args.pairs.now c.args.places.now.items (layout c.args.items.now) c.args.before c.args.at (ap (λ (x : List RowItem). layout x) (no_item c.args.items.now c.in_default.ensures.cases))

pub returns-in_default-get : goal.returns-in_default-get
returns-in_default-get t c =
    walked_out c.args.pairs.now c.args.places.now.items (layout c.args.items.now) (layout c.in-Some.rest.now) c.in-One.field-0 c.args.before c.args.at
    (ap (λ (x : List RowItem). layout x) (c.in-Some.ensures.cases.0 ∙ ap (λ (x : RowItem). x ∷ c.in-Some.rest.now) c.in-One.is))
    (omega (arith, c.in_default-get.ensures.lookup.3, c.len.ensures))

pub returns-in_ok-push-in-One : goal.returns-in_ok-push-in-One
returns-in_ok-push-in-One t c = on_ok_weaker c.put_row.result
    (λ e. walked_one c.args.pairs.now c.args.places.now.items c.put_row.new.places.items (layout c.args.items.now) (layout c.in-Some.rest.now) c.in-One.field-0 c.in-Some-get.pair.now c.args.before c.args.at
    (ap (λ (x : List RowItem). layout x) (c.in-Some.ensures.cases.0 ∙ ap (λ (x : RowItem). x ∷ c.in-Some.rest.now) c.in-One.is))
    (omega (arith, c.in-Some-get.ensures.lookup.3.0, c.len.ensures))
    (let count : c.len.result ≡ length c.args.places.now.items = omega (arith, c.len.ensures) in rw count at c.in-Some-get.ensures.lookup.1)
    (rw c.in_ok-push-in-One.ensures.items at e)) c.put_row.ensures

pub returns-after-passes : goal.returns-after-passes
returns-after-passes t c =
    let row = layout-when_cut c.in-When.guard c.in-When.count c.args.items.now c.in-Some.rest.now c.split_at.result.0.now c.split_at.result.1.now
    (c.in-Some.ensures.cases.0 ∙ ap (λ (x : RowItem). x ∷ c.in-Some.rest.now) c.in-When.is)
    (c.split_at.ensures.front ∙ ap (λ k. take k c.in-Some.rest.now) c.min.ensures)
    (c.split_at.ensures.back ∙ ap (λ k. drop k c.in-Some.rest.now) c.min.ensures) in
    on_ok_weaker c.put_row-in-When.result (λ e. elim c.if-passes.branch [
      | then-passes+in_ok-put_row-in-When w ↦ walked_guarded c.args.pairs.now c.args.places.now.items c.if-passes.places.items c.put_row-in-When.new.places.items (layout c.args.items.now) (layout c.split_at.result.0.now) (layout c.split_at.result.1.now) c.in-When.guard c.args.before c.args.at row (sym c.passes.ensures ∙ w.if-passes.true) (rw w.places-is w.in_ok-put_row-in-When.ensures) e
      | else-passes w ↦ walked_past c.args.pairs.now c.args.places.now.items c.put_row-in-When.new.places.items (layout c.args.items.now) (layout c.split_at.result.0.now) (layout c.split_at.result.1.now) c.in-When.guard c.args.before c.args.at row (sym c.passes.ensures ∙ w.if-passes.false) (rw w.places-is at e)
    ]) c.put_row-in-When.ensures

pub loop-entry-init : goal.loop-entry-init
loop-entry-init t c = record {
  group = omega (arith, c.in-Some.ensures.cases, c.split_at-in-Many.ensures.front_len, c.min-in-Many.ensures);
  rest = omega (arith, c.in-Some.ensures.cases, c.split_at-in-Many.ensures.back_len, c.min-in-Many.ensures);
  walked = walked_start c.args.pairs.now c.args.places.now.items (layout c.split_at-in-Many.result.0.now) c.args.before c.args.at;
}

pub loop-entry-preserved : goal.loop-entry-preserved
loop-entry-preserved t c = record {
  group = c.loop-entry.invariant.group;
  rest = c.loop-entry.invariant.rest;
  walked = walked_entry c.args.pairs.now c.loop-entry.places.items c.put_row-in-loop-entry.new.places.items _ (layout c.split_at-in-Many.result.0.now) c.args.before c.args.at (c.loop-entry.entry + 1) (c.args.before - c.loop-entry.entry) (c.args.before - (c.loop-entry.entry + 1)) (omega (arith, c.loop-entry-test.true)) (rw c.entry.ensures at c.in_ok-put_row-in-Many.ensures) c.loop-entry.invariant.walked;
}

pub returns-after-loop-entry : goal.returns-after-loop-entry
returns-after-loop-entry t c =
    let row = layout-many_cut c.in-Many.count c.args.items.now c.in-Some.rest.now c.split_at-in-Many.result.0.now c.split_at-in-Many.result.1.now
    (c.in-Some.ensures.cases.0 ∙ ap (λ (x : RowItem). x ∷ c.in-Some.rest.now) c.in-Many.is)
    (c.split_at-in-Many.ensures.front ∙ ap (λ k. take k c.in-Some.rest.now) c.min-in-Many.ensures)
    (c.split_at-in-Many.ensures.back ∙ ap (λ k. drop k c.in-Some.rest.now) c.min-in-Many.ensures) in
    on_ok_weaker c.put_row-in-Many.result
    (λ e. walked_counted c.args.pairs.now c.args.places.now.items c.loop-entry.places.items c.put_row-in-Many.new.places.items (layout c.args.items.now) (layout c.split_at-in-Many.result.0.now) (layout c.split_at-in-Many.result.1.now) c.args.before (c.loop-entry.entry + 1) (c.args.before - c.loop-entry.entry) c.args.at row (omega (arith, c.loop-entry-test.false)) c.loop-entry.invariant.walked e) c.put_row-in-Many.ensures
