use Rattle.std.proofs.Common.{sym, subst, ap, ◌∙◌}
use Rattle.std.proofs.lemmas.Result.{IfOk-weaker}
use Rattle.std.specs.Prelude.{length}
use Rattle.etcs_places.specs.Items.{PairsPlaces}
use Rattle.etcs_places.proofs.Found.{item_found, scan_long}
use Rattle.etcs_places.proofs.item.item_places.Goals as goal

pub returns-clause-each : goal.returns-clause-each
returns-clause-each c = IfOk-weaker c.walk.result _ _
    (λ places is. subst (λ p. PairsPlaces c.args.kind c.args.pairs.now p) (sym (rw c.way_of.ensures at is)) (item_found c.args.kind c.args.pairs.now c.requires)) c.walk.ensures

pub returns-clause-length : goal.returns-clause-length
returns-clause-length c = IfOk-weaker c.walk.result _ _ (λ places is. ap (λ p. length p) is ∙ scan_long _ _ _ c.args.pairs.now) c.walk.ensures
