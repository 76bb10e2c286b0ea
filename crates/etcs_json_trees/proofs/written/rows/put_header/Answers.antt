use Rattle.std.proofs.Common.{List, [], ◌∷◌, map, refl}
use Rattle.etcs_vars.specs.declared.var.Var.TheVariants.{M_DUP, M_MCOUNT, M_VERSION_HEADER, NID_BG, NID_C, N_PIG, N_TOTAL, Q_LINK, Q_MEDIA, Q_UPDOWN}
use Rattle.etcs_vars.specs.Reading.{Reading}
use Rattle.etcs_tables.specs.Headers.{header_row}
use Rattle.etcs_tables.specs.declared.item.RowItem.{RowItem}
use Rattle.etcs_tables.specs.declared.item.RowItem.TheVariants.{One}
use Rattle.etcs_json_trees.proofs.WrittenRows.{both_put, five_taken, none_taken, ok_is, row_put}
use Rattle.etcs_json_trees.proofs.written.rows.put_header.Goals as goal

pub returns : goal.returns
returns c =
    let table : List RowItem = map One header_row in
    let others : List RowItem = One M_DUP ∷ One M_MCOUNT ∷ One NID_C ∷ One NID_BG ∷ One Q_LINK ∷ [] in
    let first = five_taken table others Q_UPDOWN M_VERSION_HEADER Q_MEDIA N_PIG N_TOTAL _ _ _ _ _ _ _ _ [] (none_taken table _) c.in_ok-updown.ensures.some in
    let all = five_taken table [] M_DUP M_MCOUNT NID_C NID_BG Q_LINK _ _ _ _ _ _ _ _ _ first c.in_ok-dup.ensures.some in
    let front : Reading = (Q_UPDOWN, c.in_ok-updown.updown) ∷ (M_VERSION_HEADER, c.in_ok-updown.version) ∷ (Q_MEDIA, c.in_ok-updown.media) ∷ (N_PIG, c.in_ok-updown.pig) ∷ (N_TOTAL, c.in_ok-updown.total) ∷ [] in
    let rest : Reading = (M_DUP, c.in_ok-dup.dup) ∷ (M_MCOUNT, c.in_ok-dup.count) ∷ (NID_C, c.in_ok-dup.country) ∷ (NID_BG, c.in_ok-dup.group) ∷ (Q_LINK, c.in_ok-dup.link) ∷ [] in
    let begun = ok_is c.send.result c.ok.result c.in_ok-ok.field-0 _ c.ok.ensures.value c.in_ok-ok.was c.send.ensures.ok in
    let ended = ok_is c.send-2.result c.ok-2.result c.in_ok-ok-2.field-0 _ c.ok-2.ensures.value c.in_ok-ok-2.was c.send-2.ensures.ok in
    row_put table c.args.text.now _ _ _ _ _ _ _ _ _ c.in_ok-pairs.ensures all (both_put front rest _ _ _ begun ended) c.in_ok-end.ensures refl
