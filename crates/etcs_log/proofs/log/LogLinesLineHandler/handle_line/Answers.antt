use Rattle.std.proofs.Common.{◌∷◌, ◌++◌, refl}
use Rattle.etcs_log.proofs.Counting.{took_few, took_more, took_front}
use Rattle.etcs_log.proofs.log.LogLinesLineHandler.handle_line.Goals as goal

pub take-requires : goal.take-requires
take-requires c =
    let s = c.args.self.now.answers in
    let few = took_few s.job s.line s.seen c.requires.took in
    record { line = few.0; few = few.1 }

pub returns-in-Ok-clause-ok : goal.returns-in-Ok-clause-ok
returns-in-Ok-clause-ok c lines raw output h l e =
    let s = c.args.self.now.answers in
    let n = c.take.new.self.answers in
    took_more s.job n.job s.line n.line s.seen n.seen lines raw c.args.line.now output c.args.page.now c.take.new.page h l e c.take.ensures.job c.take.ensures.line c.in-Ok.ensures.ok

pub returns-in-Err-clause-err : goal.returns-in-Err-clause-err
returns-in-Err-clause-err c lines raw more output h l e m =
    let s = c.args.self.now.answers in
    (tt, (refl, took_front s.job s.line s.seen lines (raw ++ 10 ∷ more) output c.args.page.now c.take.new.page h c.in-Err.ensures.err))
