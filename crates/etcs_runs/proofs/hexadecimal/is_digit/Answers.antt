use Rattle.std.proofs.Common.{ap, ◌∙◌, ltb}
use Rattle.etcs_runs.proofs.Pairs.{digit_below}
use Rattle.etcs_runs.proofs.hexadecimal.is_digit.Goals as goal

pub returns : goal.returns
returns c = ap (λ x. ltb x 256) c.digit.ensures ∙ digit_below c.args.character
