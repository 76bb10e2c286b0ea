use Rattle.etcs_vars.specs.declared.var.Var.TheVariants.{N_ITER}
use Rattle.etcs_bodies.specs.Codecs.{IsEntries, list_reading}
use Rattle.etcs_bodies.specs.laws.Passing.{passed_both}
use Rattle.etcs_bodies.proofs.entries.EntriesPassing.pass.Goals as goal

pub returns-in_ok-pass_list-clause-passed : goal.returns-in_ok-pass_list-clause-passed
returns-in_ok-pass_list-clause-passed g c =
    let left = g.L.NextNumber.left in
    let s = g.met.S.VarSink in
    let is = g.E.Part.is_part in
    let reading = g.E.Variables.reading_of in
    λ yes. passed_both g.S.VarSink.with s.with_both is (IsEntries N_ITER is) reading (list_reading N_ITER reading) (left c.args.numbers.now) (left c.pass.new.numbers) (left c.pass_list.new.numbers) c.args.out.now c.pass.new.out c.pass_list.new.out (c.in_ok-pass.ensures.passed c.if-branch.true) (c.in_ok-pass_list.ensures.passed yes)
