use Rattle.std.proofs.Common.{◌≡◌, Bool, Vec, Global, [], ◌∷◌, ◌++◌, take, drop, if◌then◌else◌, sym, ap, subst, ◌∙◌}
use Rattle.std.specs.Prelude.{OnOk}
use Rattle.std.proofs.lemmas.List.{append-nil}
use Rattle.etcs_vars.specs.Reading.{Reading, Sent}
use Rattle.etcs_tables.specs.declared.item.RowItem.{RowItem}
use Rattle.etcs_tables.specs.Layouts.{Layout, layout}
use Rattle.etcs_rows.proofs.Cuts.{layout-when_cut, layout-many_cut}
use Rattle.etcs_blank.specs.Blanks.{blank_row}
use Rattle.etcs_blank.proofs.Lengths.{guarded_row}
use Rattle.etcs_blank.proofs.pairs.+push_row.Goals as goal

pub returns-after-passes : goal.returns-after-passes
returns-after-passes t c =
    let w = c.in-Some-When-default in
    let front = c.split_at.result.0.now in
    let back = c.split_at.result.1.now in
    let cut = layout-when_cut w.guard w.count c.args.items.now w.rest.now front back
    (w.ensures.cases.0 ∙ ap (λ (x : RowItem). x ∷ w.rest.now) w.field-0-0-is)
    (c.split_at.ensures.front ∙ ap (λ k. take k w.rest.now) c.min.ensures)
    (c.split_at.ensures.back ∙ ap (λ k. drop k w.rest.now) c.min.ensures) in
    let call = c.push_row-in-Some-When-default in
    subst (λ (r : Reading). OnOk call.result (call.new.pairs.items ≡ r))
    (guarded_row w.guard (layout c.args.items.now) (layout front) (layout back) c.args.before c.args.pairs.now.items c.if-passes.pairs.items cut
    (elim c.if-passes.branch [
      | goal.then-passes+in_ok-push_row-in-Some-When-default v ↦ ap (λ (x : Vec Sent Global). x.items) v.pairs-is ∙ v.in_ok-push_row-in-Some-When-default.ensures ∙ ap (λ (b : Bool). c.args.pairs.now.items ++ (if b then blank_row (layout front) c.args.before else [])) (sym (sym c.passes.ensures ∙ v.if-passes.true))
      | goal.else-passes v ↦ ap (λ (x : Vec Sent Global). x.items) v.pairs-is ∙ sym (append-nil c.args.pairs.now.items) ∙ ap (λ (b : Bool). c.args.pairs.now.items ++ (if b then blank_row (layout front) c.args.before else [])) (sym (sym c.passes.ensures ∙ v.if-passes.false))
    ]))
    call.ensures

pub returns-in-Some-Many-default : goal.returns-in-Some-Many-default
returns-in-Some-Many-default t c =
    let w = c.in-Some-Many-default in
    let split = c.split_at-in-Some-Many-default in
    let cut = layout-many_cut w.count c.args.items.now w.rest.now split.result.0.now split.result.1.now
    (w.ensures.cases.0 ∙ ap (λ (x : RowItem). x ∷ w.rest.now) w.field-0-0-is)
    (split.ensures.front ∙ ap (λ k. take k w.rest.now) c.min-in-Some-Many-default.ensures)
    (split.ensures.back ∙ ap (λ k. drop k w.rest.now) c.min-in-Some-Many-default.ensures) in
    let call = c.push_row-in-Some-Many-default in
    subst (λ (r : Reading). OnOk call.result (call.new.pairs.items ≡ r)) (ap (λ (l : Layout). c.args.pairs.now.items ++ blank_row l c.args.before) (sym cut)) call.ensures
