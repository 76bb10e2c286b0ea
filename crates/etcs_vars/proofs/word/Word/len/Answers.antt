use Rattle.std.proofs.Common.{length, sym, ap, ◌∙◌}
use Rattle.etcs_vars.proofs.Words.{length-word}
use Rattle.etcs_vars.proofs.word.Word.len.Goals as goal

pub returns : goal.returns
returns c =
    let s = c.self.inside in
    sym (length-word s.held s.count c.self.invariant.few) ∙ ap length c.self.view_is
