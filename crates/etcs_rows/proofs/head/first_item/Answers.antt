use Rattle.std.proofs.Common.{◌∷◌, take, drop, ap, ◌∙◌, arith}
use Rattle.etcs_tables.specs.declared.item.RowItem.{RowItem}
use Rattle.etcs_rows.proofs.Cuts.{no_item, layout-when_cut, layout-many_cut}
use Rattle.etcs_rows.proofs.head.first_item.Goals as goal

pub returns-in-None : goal.returns-in-None
returns-in-None c = no_item c.args.items.now c.in-None.ensures.cases

pub returns-in-Some-One-default : goal.returns-in-Some-One-default
returns-in-Some-One-default c =
    let w = c.in-Some-One-default in
    (w.ensures.cases.0 ∙ ap (λ (x : RowItem). x ∷ w.rest.now) w.field-0-0-is, omega (arith, w.ensures.cases))

pub returns-in-Some-When-default : goal.returns-in-Some-When-default
returns-in-Some-When-default c =
    let w = c.in-Some-When-default in (
      layout-when_cut w.guard w.count c.args.items.now w.rest.now c.split_at.result.0.now c.split_at.result.1.now
          (w.ensures.cases.0 ∙ ap (λ (x : RowItem). x ∷ w.rest.now) w.field-0-0-is)
          (c.split_at.ensures.front ∙ ap (λ k. take k w.rest.now) c.min.ensures)
          (c.split_at.ensures.back ∙ ap (λ k. drop k w.rest.now) c.min.ensures),
      omega (arith, w.ensures.cases),
      omega (arith, w.ensures.cases),
    )

pub returns-in-Some-Many-default : goal.returns-in-Some-Many-default
returns-in-Some-Many-default c =
    let w = c.in-Some-Many-default in (
      layout-many_cut w.count c.args.items.now w.rest.now c.split_at-in-Some-Many-default.result.0.now c.split_at-in-Some-Many-default.result.1.now
          (w.ensures.cases.0 ∙ ap (λ (x : RowItem). x ∷ w.rest.now) w.field-0-0-is)
          (c.split_at-in-Some-Many-default.ensures.front ∙ ap (λ k. take k w.rest.now) c.min-in-Some-Many-default.ensures)
          (c.split_at-in-Some-Many-default.ensures.back ∙ ap (λ k. drop k w.rest.now) c.min-in-Some-Many-default.ensures),
      omega (arith, w.ensures.cases),
      omega (arith, w.ensures.cases),
    )
