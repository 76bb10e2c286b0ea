use Rattle.std.proofs.lemmas.Result.{IfOk-weaker}
use Rattle.etcs_tables.specs.declared.row.Way.TheVariants.{ToTrain}
use Rattle.etcs_bodies.specs.laws.Formats.{codes_of}
use Rattle.etcs_bodies.specs.laws.Passing.{passed_row}
use Rattle.etcs_grouped.specs.BaliseLists.{balise_list_packet}
use Rattle.etcs_grouped.specs.laws.BaliseLists.{balise_list_ok}
use Rattle.etcs_grouped.proofs.balise_list.BaliseListBody.pass.Goals as goal

pub returns-clause-passed : goal.returns-clause-passed
returns-clause-passed g c =
    let left = g.L.NextNumber.left in
    let s = g.met.S.VarSink in
    IfOk-weaker c.pass.result _ _ (λ b h yes. passed_row g.S.VarSink.with s.with_both (codes_of balise_list_packet.body balise_list_ok.body) ToTrain g.row.N g.bound-1.typed (left c.args.numbers.now) (left c.pass.new.numbers) c.args.out.now c.pass.new.out (h yes)) c.pass.ensures.passed
