use Rattle.std.proofs.Common.{inl, refl}
use Rattle.etcs_log.proofs.Counting.{took_few, took_more, took_front, took_empty, ended_if, ended_not, no_more}
use Rattle.etcs_log.proofs.log.LogLinesLineHandler.handle_last.Goals as goal

pub take-requires : goal.take-requires
take-requires c =
    let s = c.args.self.now.answers in
    let few = took_few s.job s.line s.seen c.requires.took in
    record { line = few.0; few = few.1 }

pub returns-in-Ok-clause-ok : goal.returns-in-Ok-clause-ok
returns-in-Ok-clause-ok c lines output h l =
    let s = c.args.self.now.answers in
    let n = c.take.new.self.answers in
    let t = c.take.new.page in
    let begun = took_empty s.job s.line s.seen lines output c.args.page.now c.requires.empty h in
    let took = took_more s.job n.job s.line n.line s.seen n.seen lines c.args.line.now c.without_cr.result.now output c.args.page.now t begun l c.without_cr.ensures c.take.ensures.job c.take.ensures.line c.in-Ok.ensures.ok in
    ended_if c.end.result s.job n.job n.line n.seen lines c.args.line.now output t c.end.new.page took c.take.ensures.job l c.end.ensures.ok

pub returns-in-Ok-clause-err : goal.returns-in-Ok-clause-err
returns-in-Ok-clause-err c lines output h l m =
    let s = c.args.self.now.answers in
    let n = c.take.new.self.answers in
    let t = c.take.new.page in
    let begun = took_empty s.job s.line s.seen lines output c.args.page.now c.requires.empty h in
    let took = took_more s.job n.job s.line n.line s.seen n.seen lines c.args.line.now c.without_cr.result.now output c.args.page.now t begun l c.without_cr.ensures c.take.ensures.job c.take.ensures.line c.in-Ok.ensures.ok in
    ended_not c.end.result s.job n.job n.line n.seen lines c.args.line.now output t c.end.new.page took c.take.ensures.job l c.end.ensures.err

pub returns-in-Err-clause-err : goal.returns-in-Err-clause-err
returns-in-Err-clause-err c lines output h l m =
    let s = c.args.self.now.answers in
    let begun = took_empty s.job s.line s.seen lines output c.args.page.now c.requires.empty h in
    (tt, (refl, inl (took_front s.job s.line s.seen lines c.args.line.now output c.args.page.now c.take.new.page begun c.in-Err.ensures.err)))

pub returns-in-Ok-clause-said : goal.returns-in-Ok-clause-said
returns-in-Ok-clause-said c lines output h = no_more c.end.result
