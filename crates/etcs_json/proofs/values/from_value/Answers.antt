use Rattle.std.proofs.Common.{Bool, List, subst}
use Rattle.std.proofs.lemmas.Result.{IfOk-weaker}
use Rattle.serde_json.specs.View.{view}
use Rattle.etcs_json.specs.Loose.{IsStored}
use Rattle.etcs_json.proofs.LooseItems.{stored_long}
use Rattle.etcs_json.proofs.values.from_value.Goals as goal

pub item_on-requires-clause-whole : goal.item_on-requires-clause-whole
item_on-requires-clause-whole c = let (o, stored) = c.in-Ok.ensures.ok in (stored_long c.args.kind (view c.args.value.now) o c.put_item_tree.new.out stored).1

pub item_on-requires-clause-long : goal.item_on-requires-clause-long
item_on-requires-clause-long c = let (o, stored) = c.in-Ok.ensures.ok in (stored_long c.args.kind (view c.args.value.now) o c.put_item_tree.new.out stored).0

pub returns-in-Ok-clause-ok : goal.returns-in-Ok-clause-ok
returns-in-Ok-clause-ok c =
    let (o, stored) = c.in-Ok.ensures.ok in
    IfOk-weaker c.item_on.result _ _ (λ e (r, reads, is). (o, r, subst (λ (b : List Bool). IsStored c.args.kind (view c.args.value.now) o b) is stored, reads)) c.item_on.ensures.ok

pub returns-in-Ok-clause-refused : goal.returns-in-Ok-clause-refused
returns-in-Ok-clause-refused c = λ i x e.
    (let (o, stored) = c.in-Ok.ensures.ok in
    (o, c.put_item_tree.new.out, stored, c.item_on.ensures.refused i x e))
