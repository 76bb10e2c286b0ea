use Rattle.std.proofs.Common.{◌≡◌, ◌<◌, true, sym, ◌∙◌}
use Rattle.std.proofs.lemmas.Result.{on_ok_weaker, OkIff-at_ok}
use Rattle.etcs_tables.specs.Rows.{row_to}
use Rattle.etcs_places.specs.Walks.{is_length}
use Rattle.etcs_places.proofs.ScanSteps.{by_table}
use Rattle.etcs_places.proofs.walk.put_body.Goals as goal

pub returns-in-Some : goal.returns-in-Some
returns-in-Some c =
    let same = (OkIff-at_ok c.try_from.result (c.args.here.nid < 256) c.args.here.nid c.in-Ok.nid c.try_from.ensures c.in-Ok.is).1 in
    let typed = by_table (row_to c.args.way c.args.here.nid) c.in-Some.row.items.now (rw same at c.in-Some.ensures) in
    let follows : is_length c.args.var ≡ true = sym c.is_length.ensures ∙ c.if-not-is_length.false in
    on_ok_weaker c.put_row.result (λ e. rw (follows, typed) e) c.put_row.ensures
