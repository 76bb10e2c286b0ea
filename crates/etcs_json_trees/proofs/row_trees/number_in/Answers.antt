use Rattle.std.proofs.Common.{rules, ap, ◌∙◌, Some}
use Rattle.etcs_json_trees.proofs.PairLemmas.{radio_only}
use Rattle.etcs_json_trees.proofs.row_trees.number_in.Goals as goal

pub returns-then-eq-clause-only : goal.returns-then-eq-clause-only
returns-then-eq-clause-only c = λ n small h.
    radio_only c.args.var n _ c.as_bytes.result.now _ (search rules) h (ap Some c.as_bytes.ensures.value ∙ c.in_ok-as_str.ensures) (c.hex_number.ensures.only n small)
