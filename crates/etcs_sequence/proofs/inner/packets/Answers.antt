use Rattle.std.proofs.Common.{ℕ, sym, ap, ◌∙◌}
use Rattle.etcs_sequence.specs.Refs.{refs}
use Rattle.etcs_sequence.proofs.Splits.{refs_spellings}
use Rattle.etcs_sequence.proofs.inner.packets.Goals as goal

pub returns : goal.returns
returns c = λ vs beyond all l e. c.new.ensures ∙ ap (λ (k : ℕ). refs k c.args.rest) (sym l) ∙ refs_spellings vs beyond c.args.rest all e
