use Rattle.std.proofs.Common.{◌∙◌, ap, sym}
use Rattle.etcs_text.specs.Entries.{EntryValue, entry_value}
use Rattle.etcs_log.specs.Candidates.{trial}
use Rattle.etcs_log.specs.Logs.{good_text}
use Rattle.etcs_log.proofs.Answering.{counted_good, counted_none, json_good, said_good, said_not}
use Rattle.etcs_log.proofs.lines.Answers.add_item.Goals as goal

pub returns-then-not-picks-clause-ok : goal.returns-then-not-picks-clause-ok
returns-then-not-picks-clause-ok c =
    let s = c.args.self.now in
    let e = entry_value c.args.entry.now in
    let these = trial c.args.kind c.args.is_last c.args.run.now.text.now c.args.bytes.now in
    counted_none s.job s.line these e s.seen.tally c.args.text.now.items (said_not s.job s.line these e (sym c.picks.ensures ∙ c.if-not-picks.true))

pub returns-in-Left-clause-ok : goal.returns-in-Left-clause-ok
returns-in-Left-clause-ok c =
    let s = c.args.self.now in
    let e = entry_value c.args.entry.now in
    let these = trial c.args.kind c.args.is_last c.args.run.now.text.now c.args.bytes.now in
    counted_none s.job s.line these e s.seen.tally c.args.text.now.items (said_good s.job s.line these e (sym c.picks.ensures ∙ c.if-not-picks.false) ∙ ap (good_text s.job s.line these e) c.in-Left.is)

pub returns-in-Digits-clause-ok : goal.returns-in-Digits-clause-ok
returns-in-Digits-clause-ok c =
    let s = c.args.self.now in
    let e = entry_value c.args.entry.now in
    let these = trial c.args.kind c.args.is_last c.args.run.now.text.now c.args.bytes.now in
    counted_good c.write_good.result s.job s.line these e s.seen.tally c.args.text.now.items c.write_good.new.out.items _ (sym c.picks.ensures ∙ c.if-not-picks.false) (ap (good_text s.job s.line these e) c.in-Digits.is) c.write_good.ensures

pub returns-in-Json-clause-ok : goal.returns-in-Json-clause-ok
returns-in-Json-clause-ok c =
    let s = c.args.self.now in
    let e = entry_value c.args.entry.now in
    let these = trial c.args.kind c.args.is_last c.args.run.now.text.now c.args.bytes.now in
    counted_good c.write_json_item.result s.job s.line these e s.seen.tally c.args.text.now.items c.write_json_item.new.out.items _ (sym c.picks.ensures ∙ c.if-not-picks.false) (json_good s.job s.line these e c.in-Json.is) (rw c.item_front.ensures at c.write_json_item.ensures)
