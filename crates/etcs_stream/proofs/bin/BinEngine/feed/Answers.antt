use Rattle.etcs_stream.proofs.BinSteps.{bin_fed, bin_stops}
use Rattle.etcs_stream.proofs.Saying.{says_first_if}
use Rattle.etcs_stream.proofs.bin.BinEngine.feed.Goals as goal

pub returns-clause-ok : goal.returns-clause-ok
returns-clause-ok c given output h =
    let s = c.args.self.now.items in
    let e = c.take_bytes.ensures in
    bin_fed s.job s.reader s.printer given output c.args.page.now h c.requires.empty _ c.take_bytes.new.self.reader _ c.args.piece.now _ c.take_bytes.result e.job e.waits e.reported e.room e.ok

pub returns-clause-err : goal.returns-clause-err
returns-clause-err c given output h =
    let s = c.args.self.now.items in
    bin_stops s.job s.reader s.printer given output c.args.page.now h c.requires.empty c.args.piece.now _ c.take_bytes.result c.take_bytes.ensures.err

pub returns-clause-said : goal.returns-clause-said
returns-clause-said c given output h =
    let s = c.args.self.now.items in
    let e = c.take_bytes.ensures in
    rw e.job (says_first_if s.job.command s.printer c.take_bytes.new.self.printer h.2.items output c.args.page.now _ c.take_bytes.result c.requires.empty h.2.text e.said)
