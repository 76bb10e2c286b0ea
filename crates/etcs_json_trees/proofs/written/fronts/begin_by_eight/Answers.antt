use Rattle.std.proofs.Common.{◌-◌, arith}
use Rattle.std.proofs.lemmas.Bool.{both_ways}
use Rattle.etcs_json_trees.proofs.Parts.{part_alike, alike_by_eight}
use Rattle.etcs_json_trees.proofs.written.fronts.begin_by_eight.Goals as goal

pub returns-then-not-same_eight : goal.returns-then-not-same_eight
returns-then-not-same_eight c =
    ((λ t. absurd cc), λ e. absurd (both_ways _ c.if-not-same_eight.true (c.same_eight.ensures.1 (part_alike 8 0 c.args.len c.args.text.now c.args.front.now (omega arith) e))))

pub returns-then-not-same_within : goal.returns-then-not-same_within
returns-then-not-same_within c =
    ((λ t. absurd cc), λ e. absurd (both_ways _ c.if-not-same_within.true (c.same_within.ensures.1 (λ h. part_alike 8 8 c.args.len c.args.text.now c.args.front.now (omega (arith, h)) e))))

pub returns-then-not-same_within-2 : goal.returns-then-not-same_within-2
returns-then-not-same_within-2 c =
    ((λ t. absurd cc), λ e. absurd (both_ways _ c.if-not-same_within-2.true (c.same_within-2.ensures.1 (λ h. part_alike 8 16 c.args.len c.args.text.now c.args.front.now (omega (arith, h)) e))))

pub returns : goal.returns
returns c = (
  (λ t. alike_by_eight c.args.len c.args.text.now c.args.front.now c.requires.least c.requires.most
      (c.same_eight.ensures.0 c.if-not-same_eight.false) (c.same_within.ensures.0 c.if-not-same_within.false) (c.same_within-2.ensures.0 c.if-not-same_within-2.false) (c.same_eight-2.ensures.0 t)),
  λ e. c.same_eight-2.ensures.1 (part_alike 8 (c.args.len - 8) c.args.len c.args.text.now c.args.front.now (omega (arith, c.requires.least)) e),
)
