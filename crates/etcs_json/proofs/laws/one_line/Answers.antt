use Rattle.etcs_json.proofs.OneStored.{line_said, line_refused, line_not_both}
use Rattle.etcs_json.proofs.laws.one_line.Goals as goal

pub returns : goal.returns
returns c = record { said = line_said; refused = line_refused; either = line_not_both }
