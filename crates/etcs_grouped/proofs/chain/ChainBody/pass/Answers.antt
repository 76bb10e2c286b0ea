use Rattle.std.proofs.Common.{[], ◌∷◌}
use Rattle.std.proofs.lemmas.Result.{IfOk-weaker}
use Rattle.etcs_vars.specs.declared.var.Var.TheVariants.{Q_SCALE}
use Rattle.etcs_tables.specs.declared.row.Way.TheVariants.{ToTrain}
use Rattle.etcs_bodies.specs.Entries.{entries_reading}
use Rattle.etcs_bodies.specs.laws.Codecs.{number, both}
use Rattle.etcs_bodies.specs.laws.Entries.{entries_codes}
use Rattle.etcs_bodies.specs.laws.Passing.{number_alone, went_both, passed_row}
use Rattle.etcs_grouped.proofs.chain.ChainBody.pass.Goals as goal

pub returns-clause-passed : goal.returns-clause-passed
returns-clause-passed g c =
    let left = g.L.NextNumber.left in
    let with = g.S.VarSink.with in
    let after = g.met.S.VarSink.with_both in
    let first = left c.args.numbers.now in
    let out = c.args.out.now in
    let begun = left c.next.new.self in
    let last = left c.pass.new.numbers in
    let k = c.in-Some in
    IfOk-weaker c.pass.result _ _ (λ b h yes.
    let (a, all, y) = h yes in
    passed_row with after (both (number Q_SCALE) (entries_codes g.met.E.Part.codes)) ToTrain g.E.Chained.PACKET g.met.E.Chained.typed first last out c.pass.new.out
    ((k.q_scale, a), (k.ensures.admitted, all), went_both with after first begun last out c.send.new.self c.pass.new.out ((Q_SCALE, k.q_scale) ∷ []) (entries_reading g.E.Variables.reading_of a) (record { taken = number_alone Q_SCALE k.q_scale first begun k.ensures.next; sent = c.in_ok-send.ensures.ok }) y)) c.pass.ensures.passed
