use Rattle.std.proofs.Common.{sym, ap, ◌∙◌, Some, None, IsTrue, subst}
use Rattle.etcs_tables.specs.Layouts.{Layout, looks}
use Rattle.etcs_rows.specs.Places.{after_any}
use Rattle.etcs_rows.proofs.PlaceLemmas.{pass_item}
use Rattle.etcs_rows.proofs.LooksLemmas.{looks-pass}
use Rattle.etcs_rows.proofs.place.Place.pass.Goals as goal

pub returns-in-Some-clause-left : goal.returns-in-Some-clause-left
returns-in-Some-clause-left c =
    ap (λ (x : Layout). after_any x c.args.number) (sym c.self.view_is)
    ∙ pass_item c.self.inside.cursor c.in-Some.field-0-0.now c.in-Some.rest.now c.args.number c.in-Some.ensures.cases.0 c.self.invariant.1
    ∙ ap (λ (x : Layout). Some x) (sym c.settle.ensures.same)

pub invariant_of-self : goal.invariant_of-self
invariant_of-self c = (
  c.settle.ensures.nests,
  c.settle.ensures.settled,
  subst (λ (x : Layout). IsTrue (looks None x)) (sym c.settle.ensures.same) (looks-pass c.self.inside.cursor c.in-Some.field-0-0.now c.in-Some.rest.now c.args.number c.in-Some.ensures.cases.0 c.self.invariant.1 c.self.invariant.2),
)

pub returns-in-Some-clause-looks : goal.returns-in-Some-clause-looks
returns-in-Some-clause-looks c =
    let well = looks-pass c.self.inside.cursor c.in-Some.field-0-0.now c.in-Some.rest.now c.args.number c.in-Some.ensures.cases.0 c.self.invariant.1 c.self.invariant.2 in
    subst (λ (x : Layout). IsTrue (looks None x)) (sym c.settle.ensures.same) well
