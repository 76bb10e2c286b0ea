use Rattle.etcs_reasons.specs.declared.page.TheConstants.{HEAD}
use Rattle.etcs_explain.proofs.Writing.{adds_item, first_kept}
use Rattle.etcs_explain.proofs.explainer.Explainer.item.Goals as goal

pub returns-clause-ok : goal.returns-clause-ok
returns-clause-ok c =
    adds_item HEAD.now c.args.self.now.task c.args.self.now.seen c.write_item.new.self.seen c.after-self.result c.args.kind c.args.lines.now c.args.bytes.now c.number.result c.item_part-count.result.0 c.item_part-count.result.1 c.args.page.now c.write_item.new.page c.requires.even c.requires.some c.requires.kind c.number.ensures c.item_part-count.ensures.part c.write_item.ensures.seen c.after-self.ensures c.in_ok-write_item.ensures.ok

pub returns-clause-kept : goal.returns-clause-kept
returns-clause-kept c = first_kept c.args.self.now.seen c.write_item.new.self.seen c.after-self.result c.item_part-count.result.1 c.write_item.ensures.seen c.after-self.ensures
