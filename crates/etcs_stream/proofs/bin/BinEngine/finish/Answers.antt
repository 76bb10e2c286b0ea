use Rattle.etcs_stream.proofs.BinSteps.{bin_finish_ends, bin_finish_stops}
use Rattle.etcs_stream.proofs.Saying.{says_first_if, says_same}
use Rattle.etcs_stream.proofs.bin.BinEngine.finish.Goals as goal

pub returns-clause-ok : goal.returns-clause-ok
returns-clause-ok c given output h =
    let s = c.args.self.now.items in
    let e = c.finish.ensures in
    bin_finish_ends s.job s.reader s.printer given output c.args.page.now h c.requires.empty c.finish.new.page c.finish.result e.whole e.ok

pub returns-clause-err : goal.returns-clause-err
returns-clause-err c given output h =
    let s = c.args.self.now.items in
    bin_finish_stops s.job s.reader s.printer given output c.args.page.now h c.requires.empty c.finish.new.page c.finish.result c.finish.ensures.err

pub returns-clause-said : goal.returns-clause-said
returns-clause-said c given output h =
    let s = c.args.self.now.items in
    let text = c.args.page.now in
    says_first_if s.job.command s.printer s.printer h.2.items output text _ c.finish.result c.requires.empty h.2.text (says_same _ s.job.command s.printer text _ c.finish.result c.finish.ensures.err)
