use Rattle.std.proofs.Common.{◌∙◌, sym, arith}
use Rattle.etcs_runs.specs.Cuts.{parts_at}
use Rattle.etcs_runs.proofs.Fronts.{before_last-take}
use Rattle.etcs_runs.proofs.LastWords.{last_parts, last_word_at}
use Rattle.etcs_runs.proofs.words.last_word.Goals as goal

pub returns-clause-some : goal.returns-clause-some
returns-clause-some c =
    let e = c.end_of_word-end.ensures in
    let s = c.start_of_word-start.ensures in
    last_word_at (parts_at c.args.cut) c.args.text.now c.end_of_word-end.result c.start_of_word-start.result (omega (arith, c.if-end-eq0.false)) e.within (e.last (omega (arith, c.if-end-eq0.false))) s.within s.before e.words s.word

pub returns-clause-before : goal.returns-clause-before
returns-clause-before c =
    let e = c.end_of_word-end.ensures in
    let s = c.start_of_word-start.ensures in
    sym (before_last-take (parts_at c.args.cut) c.args.text.now c.end_of_word-end.result c.start_of_word-start.result e.end s.word s.within s.before)

pub returns-clause-word : goal.returns-clause-word
returns-clause-word c =
    let e = c.end_of_word-end.ensures in
    let s = c.start_of_word-start.ensures in
    let p = last_parts (parts_at c.args.cut) c.args.text.now c.end_of_word-end.result c.start_of_word-start.result (omega (arith, c.if-end-eq0.false)) e.within (e.last (omega (arith, c.if-end-eq0.false))) s.within s.before s.word in
    (sym e.end ∙ p.0, p.1)
