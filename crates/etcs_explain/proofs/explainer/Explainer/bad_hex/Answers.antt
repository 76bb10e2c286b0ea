use Rattle.std.proofs.Common.{ℕ, [], ap, refl}
use Rattle.etcs_explain.specs.Kinds.{kind_of}
use Rattle.etcs_runs.specs.declared.fault.RunFault.TheVariants.{BadHex}
use Rattle.etcs_reasons.specs.declared.page.TheConstants.{HEAD}
use Rattle.etcs_explain.proofs.Writing.{adds_bad, asked_kind, bad_hex_of}
use Rattle.etcs_explain.proofs.explainer.Explainer.bad_hex.Goals as goal

pub returns-clause-ok : goal.returns-clause-ok
returns-clause-ok c =
    let s = c.clear.new.self in
    adds_bad c.write_wrong.result HEAD.now c.args.self.now.task s.task c.args.self.now.seen s.seen c.write_wrong.new.self.seen (kind_of c.args.self.now.task.kind []) c.args.number c.args.line.now 0 _ c.args.page.now c.write_wrong.new.page c.clear.ensures.task c.clear.ensures.seen (asked_kind c.args.self.now.task.kind [])
    (bad_hex_of c.args.self.now.task.from (kind_of c.args.self.now.task.kind []) _ c.args.number c.args.line.now _ c.requires.lines (ap (λ (z : ℕ). BadHex c.args.number z) c.bad_place.ensures)) refl c.write_wrong.ensures.seen c.write_wrong.ensures.ok
