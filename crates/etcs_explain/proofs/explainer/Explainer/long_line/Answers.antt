use Rattle.etcs_reasons.specs.declared.page.TheConstants.{HEAD}
use Rattle.etcs_explain.proofs.Writing.{adds_long}
use Rattle.etcs_explain.proofs.explainer.Explainer.long_line.Goals as goal

pub returns-clause-ok : goal.returns-clause-ok
returns-clause-ok c =
    let s = c.clear.new.self in
    adds_long c.write_wrong.result HEAD.now c.args.self.now.task s.task c.args.self.now.seen s.seen c.write_wrong.new.self.seen c.args.number _ c.args.page.now c.write_wrong.new.page c.clear.ensures.task c.clear.ensures.seen c.long_fault.ensures c.write_wrong.ensures.seen c.write_wrong.ensures.ok
