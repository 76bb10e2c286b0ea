use Rattle.std.proofs.Common.{◌∙◌, ap, sym}
use Rattle.etcs_runs.specs.Digits.{is_blank}
use Rattle.etcs_runs.proofs.LastWords.{first_says, is_hash}
use Rattle.etcs_runs.proofs.digits.is_empty.Goals as goal

pub returns-in-Some : goal.returns-in-Some
returns-in-Some c = sym (first_says is_blank c.args.line.now ∙ ap is_hash (sym c.first_character.ensures ∙ c.in-Some.is))

pub returns-in-None : goal.returns-in-None
returns-in-None c = sym (first_says is_blank c.args.line.now ∙ ap is_hash (sym c.first_character.ensures ∙ c.in-None.is))
