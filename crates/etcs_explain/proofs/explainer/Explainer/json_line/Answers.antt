use Rattle.std.proofs.Common.{ℕ, refl, ap, ◌∙◌, inl, inr}
use Rattle.std.specs.Prelude.{Err}
use Rattle.etcs_text.specs.Entries.{entry_value}
use Rattle.etcs_runs.specs.declared.fault.RunFault.TheVariants.{Refused}
use Rattle.etcs_reasons.specs.declared.page.TheConstants.{HEAD}
use Rattle.etcs_explain.proofs.Writing.{adds_bad, adds_good, bad_json_of}
use Rattle.etcs_explain.proofs.explainer.Explainer.json_line.Goals as goal

pub returns-in-Ok-clause-ok : goal.returns-in-Ok-clause-ok
returns-in-Ok-clause-ok c =
    adds_good c.json_item.result HEAD.now c.args.self.now.task c.args.self.now.seen c.json_item.new.self.seen c.kind_of_json-kind.result c.args.number c.args.line.now (entry_value c.in-Ok.entry) c.args.page.now c.json_item.new.page c.kind_of_json-kind.ensures c.in-Ok.ensures.ok c.json_item.ensures.seen c.json_item.ensures.ok

pub returns-in-Refused-clause-ok : goal.returns-in-Refused-clause-ok
returns-in-Refused-clause-ok c =
    let s = c.clear.new.self in
    adds_bad c.write_wrong.result HEAD.now c.args.self.now.task s.task c.args.self.now.seen s.seen c.write_wrong.new.self.seen c.kind_of_json-kind.result c.args.number c.args.line.now 1 _ c.args.page.now c.write_wrong.new.page c.clear.ensures.task c.clear.ensures.seen c.kind_of_json-kind.ensures
    (bad_json_of c.args.self.now.task.from c.kind_of_json-kind.result _ c.args.number c.args.line.now _ c.requires.json (inl (c.in-Refused.bit, c.in-Refused.var, ap (λ (z : ℕ). Refused z c.in-Refused.bit c.in-Refused.var) c.number-item.ensures, c.from_line.ensures.refused c.in-Refused.bit c.in-Refused.var (c.in-Err.is ∙ ap Err c.in-Refused.is)))) refl c.write_wrong.ensures.seen c.write_wrong.ensures.ok

pub returns-in-Shape-clause-ok : goal.returns-in-Shape-clause-ok
returns-in-Shape-clause-ok c =
    let s = c.clear.new.self in
    adds_bad c.write_wrong-in-Shape.result HEAD.now c.args.self.now.task s.task c.args.self.now.seen s.seen c.write_wrong-in-Shape.new.self.seen c.kind_of_json-kind.result c.args.number c.args.line.now 0 _ c.args.page.now c.write_wrong-in-Shape.new.page c.clear.ensures.task c.clear.ensures.seen c.kind_of_json-kind.ensures
    (bad_json_of c.args.self.now.task.from c.kind_of_json-kind.result _ c.args.number c.args.line.now _ c.requires.json (inr (refl, c.from_line.ensures.shape (c.in-Err.is ∙ ap Err c.in-Shape.is)))) refl c.write_wrong-in-Shape.ensures.seen c.write_wrong-in-Shape.ensures.ok
