use Rattle.std.proofs.Common.{rules, ◌≡◌, [], ◌++◌, sym, ap, ◌∙◌}
use Rattle.std.specs.Iterator.Adapters.{zip_first, zip_second}
use Rattle.std.specs.Slice.Iter.{iter_rest}
use Rattle.std.proofs.lemmas.Slice.Zip.{either_empty_from_Zip}
use Rattle.etcs_vars.specs.Reading.{Reading}
use Rattle.etcs_flat.proofs.TableLaws.{pairs_end}
use Rattle.etcs_flat.specs.Tables.{table_pairs}
use Rattle.etcs_flat.proofs.table.send_table.Goals as goal

pub loop-item-init : goal.loop-item-init
loop-item-init g c =
    let all : [] ++ table_pairs (iter_rest (zip_first c.into_iter-item-iterator.result)) (iter_rest (zip_second c.into_iter-item-iterator.result)) ≡ table_pairs c.args.table.now c.args.numbers.now = search rules in
    ((tt, tt), tt, [], sym (g.met.S.VarSink.with_none c.args.out.now), all)

pub returns-clause-ok : goal.returns-clause-ok
returns-clause-ok g c =
    let (can, ends, sent, is, all) = c.loop-item.invariant in
    let last = either_empty_from_Zip c.loop-item.item-iterator c.next.new.self c.next.result c.in-None.is c.next.ensures.steps in
    is ∙ ap (λ (r : Reading). g.S.VarSink.with c.args.out.now r) (pairs_end sent last all)
