use Rattle.std.proofs.Common.{◌++◌, [], ap, length, ◌∙◌}
use Rattle.std.proofs.lemmas.Result.{IfOk-weaker}
use Rattle.etcs_places.specs.Items.{way_of}
use Rattle.etcs_places.specs.Scans.{start, scan}
use Rattle.etcs_places.proofs.Found.{item_found, scan_long}
use Rattle.etcs_places.proofs.Fronts.{scan_front}
use Rattle.etcs_places.proofs.item.front_places.Goals as goal

pub returns-clause-each : goal.returns-clause-each
returns-clause-each c =
    let way = way_of c.args.kind in
    let (rest, item) = c.requires in
    let all = c.args.pairs.now ++ rest in
    IfOk-weaker c.walk.result _ _
    (λ places is. (rest, scan way start [] all, item_found c.args.kind all item, (rw c.way_of.ensures at is) ∙ scan_front way start c.args.pairs.now rest)) c.walk.ensures

pub returns-clause-length : goal.returns-clause-length
returns-clause-length c = IfOk-weaker c.walk.result _ _ (λ places is. ap (λ p. length p) is ∙ scan_long _ _ _ c.args.pairs.now) c.walk.ensures
