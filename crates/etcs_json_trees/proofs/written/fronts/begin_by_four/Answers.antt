use Rattle.std.proofs.Common.{◌-◌, arith}
use Rattle.std.proofs.lemmas.Bool.{both_ways}
use Rattle.etcs_json_trees.proofs.Parts.{part_alike, last_alike}
use Rattle.etcs_json_trees.proofs.written.fronts.begin_by_four.Goals as goal

pub returns-then-not-same_four : goal.returns-then-not-same_four
returns-then-not-same_four c =
    ((λ t. absurd cc), λ e. absurd (both_ways _ c.if-not-same_four.true (c.same_four.ensures.1 (part_alike 4 0 c.args.len c.args.text.now c.args.front.now c.requires.least e))))

pub returns : goal.returns
returns c = (
  (λ t. last_alike 4 4 c.args.len c.args.text.now c.args.front.now c.requires.least c.requires.most (c.same_four.ensures.0 c.if-not-same_four.false) (c.same_four-2.ensures.0 t)),
  λ e. c.same_four-2.ensures.1 (part_alike 4 (c.args.len - 4) c.args.len c.args.text.now c.args.front.now (omega (arith, c.requires.least)) e),
)
