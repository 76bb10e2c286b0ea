use Rattle.std.proofs.Common.{◌∙◌, None, ap, sym}
use Rattle.etcs_text.specs.Entries.{entry_value}
use Rattle.etcs_log.specs.declared.job.LogJob.{LogJob}
use Rattle.etcs_log.specs.Candidates.{trial}
use Rattle.etcs_log.specs.Logs.{item}
use Rattle.etcs_log.proofs.Answering.{noted_alone, noted_held, tried_item, tried_vain}
use Rattle.etcs_log.proofs.lines.Answers.read_item.Goals as goal

pub returns-then-not-self-clause-ok : goal.returns-then-not-self-clause-ok
returns-then-not-self-clause-ok c =
    let s = c.args.self.now in
    let a = c.add_item in
    let e = c.in-Item.entry in
    let these = trial c.args.kind c.args.is_last c.args.run.now.text.now c.args.bytes.now in
    let alone = sym (ap (λ (z : LogJob). z.groups) a.ensures.job) ∙ c.if-not-self.true in
    tried_item s.job s.line these c.in_ok-entry.field-0 e s.seen a.new.self.seen c.args.text.now.items a.new.text.items c.in_ok-entry.ensures c.in-Item.is (noted_alone s.job s.line (item these (entry_value e) None) s.seen a.new.self.seen c.args.text.now.items a.new.text.items alone c.in_ok-add_item-in-Item.ensures.ok)

pub returns-in_ok-hold-in-Item-clause-ok : goal.returns-in_ok-hold-in-Item-clause-ok
returns-in_ok-hold-in-Item-clause-ok c =
    let s = c.args.self.now in
    let a = c.add_item in
    let e = c.in-Item.entry in
    let h = c.hold in
    let these = trial c.args.kind c.args.is_last c.args.run.now.text.now c.args.bytes.now in
    tried_item s.job s.line these c.in_ok-entry.field-0 e s.seen h.new.self.seen c.args.text.now.items a.new.text.items c.in_ok-entry.ensures c.in-Item.is (noted_held s.job s.line these (entry_value e) s.seen a.new.self.seen h.new.self.seen c.args.text.now.items a.new.text.items a.ensures.groups h.ensures.tally c.in_ok-add_item-in-Item.ensures.ok c.in_ok-hold-in-Item.ensures.ok)

pub returns-in_default-clause-ok : goal.returns-in_default-clause-ok
returns-in_default-clause-ok c =
    let s = c.args.self.now in
    let these = trial c.args.kind c.args.is_last c.args.run.now.text.now c.args.bytes.now in
    tried_vain s.job s.line these c.in_ok-entry.field-0 s.seen c.args.text.now.items c.in_ok-entry.ensures c.in_default.not-Item
