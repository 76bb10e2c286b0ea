use Rattle.std.proofs.Common.{◌∙◌, sym}
use Rattle.std.proofs.lemmas.Bool.Decides.{not_from_Decides}
use Rattle.etcs_log.specs.Candidates.{trial}
use Rattle.etcs_log.proofs.Answering.{tried_refused, tried_seen, tried_wrong}
use Rattle.etcs_log.proofs.lines.Answers.take_item.Goals as goal

pub returns-then-not-may_have-clause-ok : goal.returns-then-not-may_have-clause-ok
returns-then-not-may_have-clause-ok c =
    let s = c.args.self.now in
    let these = trial c.args.kind c.args.is_last c.args.run.now.text.now c.args.bytes.now in
    tried_wrong s.job s.line these s.seen c.args.text.now.items (sym c.may_have.ensures ∙ c.if-not-may_have.true)

pub returns-then-not-branch-clause-ok : goal.returns-then-not-branch-clause-ok
returns-then-not-branch-clause-ok c =
    let s = c.args.self.now in
    let b = c.in_ok-is_item in
    let these = trial c.args.kind c.args.is_last c.args.run.now.text.now c.args.bytes.now in
    tried_refused s.job s.line these s.seen c.args.text.now.items (λ e is. not_from_Decides b.field-0 b.ensures c.if-not-branch.true (e, is))

pub returns-clause-ok : goal.returns-clause-ok
returns-clause-ok c =
    let s = c.args.self.now in
    let a = c.add_bytes in
    let these = trial c.args.kind c.args.is_last c.args.run.now.text.now c.args.bytes.now in
    tried_seen s.job s.line these s.seen a.new.self.seen c.args.text.now.items a.new.text.items (sym c.needs_values.ensures ∙ c.if-needs_values.false) (c.in_ok-is_item.ensures.0 c.if-not-branch.false) a.ensures.tally c.in_ok-add_bytes.ensures.ok
