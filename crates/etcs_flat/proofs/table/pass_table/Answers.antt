use Rattle.std.proofs.Common.{rules, arith, ◌≡◌, ◌+◌, ℕ, List, [], ◌∷◌, ◌++◌, drop, refl, sym, ap, ◌∙◌}
use Rattle.std.proofs.lemmas.List.{length-append, at_drop_more}
use Rattle.etcs_vars.specs.declared.var.Var.TheVariants.{Q_UPDOWN}
use Rattle.etcs_tables.specs.declared.item.RowItem.{RowItem}
use Rattle.etcs_tables.specs.declared.item.RowItem.TheVariants.{One}
use Rattle.etcs_bodies.specs.Repeats.{beyond}
use Rattle.etcs_flat.specs.Tables.{table_from, table_pairs}
use Rattle.etcs_flat.specs.laws.TableLaws.{pairs_of_none, pairs_more, taken_more}
use Rattle.etcs_flat.proofs.table.pass_table.Goals as goal

pub loop-item-init : goal.loop-item-init
loop-item-init g c =
    let s = g.met.S.VarSink in
    let out = c.args.out.now in
    ([], search rules, refl, sym (s.with_none out) ∙ ap (g.S.VarSink.with out) (sym (pairs_of_none c.args.table.now)))

pub loop-item-preserved : goal.loop-item-preserved
loop-item-preserved g c =
    let l = c.loop-item in
    let left = g.L.NextNumber.left in
    let with = g.S.VarSink.with in
    let (ns, from, many, sent) = l.invariant in
    let table = c.args.table.now in
    let out = c.args.out.now in
    let rest = drop (l.item-index + 1) table in
    let v = c.in-One.var in
    let n = c.in-Some.number in
    let at : drop l.item-index table ≡ One v ∷ rest = at_drop_more (λ t. t) table l.item-index (One Q_UPDOWN) (omega (arith, c.loop-item-test.true)) ∙ ap (λ (i : RowItem). i ∷ rest) c.in-One.is in (
      ns ++ n ∷ [],
      from ∙ ap (λ (t : List RowItem). beyond ns (table_from t (left l.numbers))) at ∙ taken_more ns v n rest (left l.numbers) (left c.next.new.self) c.in-Some.ensures.next,
      length-append ns (n ∷ []) ∙ ap (λ k. k + 1) many,
      c.in_ok-send.ensures.ok ∙ ap (λ o. with o ((v, n) ∷ [])) sent ∙ sym (g.met.S.VarSink.with_both out (table_pairs table ns) ((v, n) ∷ [])) ∙ ap (with out) (sym (pairs_more table rest v n ns (ap (λ k. drop k table) many ∙ at))),
    )
