use Rattle.std.proofs.Common.{◌∷◌, [], ◌++◌, refl}
use Rattle.etcs_log.proofs.Counting.{took_empty, ended_if, ended_not, no_more}
use Rattle.etcs_log.proofs.log.LogLinesLineHandler.close.Goals as goal

pub returns-clause-ok : goal.returns-clause-ok
returns-clause-ok c lines last output h l long =
    let s = c.args.self.now.answers in
    let t = c.args.page.now in
    ended_if c.end.result s.job s.job s.line s.seen lines last output t c.end.new.page (took_empty s.job s.line s.seen (lines ++ last ∷ []) output t c.requires.empty h) refl l c.end.ensures.ok

pub returns-clause-err : goal.returns-clause-err
returns-clause-err c lines last output h l long =
    let s = c.args.self.now.answers in
    let t = c.args.page.now in
    ended_not c.end.result s.job s.job s.line s.seen lines last output t c.end.new.page (took_empty s.job s.line s.seen (lines ++ last ∷ []) output t c.requires.empty h) refl l c.end.ensures.err

pub returns-clause-said : goal.returns-clause-said
returns-clause-said c lines output h = no_more c.end.result
