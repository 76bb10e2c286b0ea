use Rattle.std.proofs.Common.{IfOk}
use Rattle.std.proofs.lemmas.Result.{IfOk-weaker}
use Rattle.std.specs.Prelude.{IsTrue}
use Rattle.etcs_tables.specs.declared.row.Way.TheVariants.{ToTrain}
use Rattle.etcs_bodies.specs.Passing.{PassedRow}
use Rattle.etcs_flat.specs.laws.FlatCodes.{table_row}
use Rattle.etcs_flat.proofs.flat.FlatBody.pass.Goals as goal

pub returns-clause-passed : goal.returns-clause-passed
returns-clause-passed g c =
    let left = g.L.NextNumber.left in
    let s = g.met.S.VarSink in
    IfOk-weaker c.pass_table.result _ _ (λ b h yes.
    let all = h yes in
    table_row ToTrain g.row.N 0 c.table_of.result.now (left c.args.numbers.now) c.table_of.ensures.table g.S.VarSink.with s.with_both (left c.pass_table.new.numbers) c.args.out.now c.pass_table.new.out all.0 all.1 all.2) c.pass_table.ensures.passed
