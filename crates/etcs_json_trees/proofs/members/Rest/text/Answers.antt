use Rattle.std.proofs.Common.{◌≡◌}
use Rattle.serde_json.specs.Data.{string}
use Rattle.serde_json.specs.View.{view}
use Rattle.etcs_json_trees.proofs.members.Rest.text.Goals as goal

pub returns-then-is_text-clause-some : goal.returns-then-is_text-clause-some
returns-then-is_text-clause-some c =
    let here = c.in_ok-value.ensures.some in
    let is : view c.in_ok-value.value.now ≡ string c.args.text.now = c.is_text.ensures.0 c.if-is_text.true in
    cc

pub returns-else-is_text-clause-none : goal.returns-else-is_text-clause-none
returns-else-is_text-clause-none c ms e =
    let here = c.in_ok-value.ensures.some in
    let is : view c.in_ok-value.value.now ≡ string c.args.text.now = cc in
    let yes = c.is_text.ensures.1 is in
    absurd cc
