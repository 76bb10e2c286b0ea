use Rattle.std.proofs.Common.{◌≡◌, ◌∙◌, Some}
use Rattle.etcs_json_trees.proofs.PairLemmas.{only_next}
use Rattle.etcs_json_trees.proofs.row_trees.next_pair.Goals as goal

pub returns-in_err-number-clause-only : goal.returns-in_err-number-clause-only
returns-in_err-number-clause-only c = λ v n first a pair.
    (let no = only_next c.args.place.now v c.in_ok-var.var n _ _ c.in_ok-var.ensures c.in_err-number.ensures.only first a pair in absurd cc)

pub returns-clause-only : goal.returns-clause-only
returns-clause-only c = λ v n first a pair.
    (let numbers = only_next c.args.place.now v c.in_ok-var.var n _ _ c.in_ok-var.ensures c.in_ok-number.ensures.only first a pair in
    let variables : Some c.in_ok-var.var ≡ Some v = c.in_ok-var.ensures ∙ first in
    cc)
