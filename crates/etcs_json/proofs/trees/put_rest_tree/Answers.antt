use Rattle.serde_json.specs.View.{view}
use Rattle.etcs_json.proofs.ItemTrees.{no_message}
use Rattle.etcs_json.proofs.trees.put_rest_tree.Goals as goal

pub returns-in-Some-clause-ok : goal.returns-in-Some-clause-ok
returns-in-Some-clause-ok c = rw c.in-Some.ensures.some c.put_typed.ensures.ok

pub returns-in-Some-clause-invalid : goal.returns-in-Some-clause-invalid
returns-in-Some-clause-invalid c = rw c.in-Some.ensures.some c.put_typed.ensures.invalid

pub returns-in-Some-kept_members-clause-ok : goal.returns-in-Some-kept_members-clause-ok
returns-in-Some-kept_members-clause-ok c = rw c.in-Some-kept_members.ensures.some c.put_kept.ensures.ok

pub returns-in-Some-kept_members-clause-invalid : goal.returns-in-Some-kept_members-clause-invalid
returns-in-Some-kept_members-clause-invalid c = rw c.in-Some-kept_members.ensures.some c.put_kept.ensures.invalid

pub returns-clause-invalid : goal.returns-clause-invalid
returns-clause-invalid c = λ invalid m place tree.
    no_message c.args.way m (view c.args.value.now) (λ x y w u v e. (let no = c.in_default.ensures.none x y w u v e in absurd cc)) (λ x z e. (let no = c.in_default-kept_members.ensures.none x z e in absurd cc)) tree
