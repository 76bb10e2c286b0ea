use Rattle.std.proofs.Common.{◌++◌, sym, subst}
use Rattle.std.proofs.lemmas.Result.{err_from_is_err_and}
use Rattle.etcs_runs.specs.Handling.{LinesTaken}
use Rattle.etcs_runs.proofs.Several.{none_of, starved}
use Rattle.etcs_stream.specs.declared.job.Job.{Job}
use Rattle.etcs_stream.specs.Engines.{promises}
use Rattle.etcs_stream.specs.Stands.{JsonTook}
use Rattle.etcs_stream.specs.laws.Printing.{sound}
use Rattle.etcs_stream.specs.laws.StandLaws.{json_outputs, json_said}
use Rattle.etcs_stream.proofs.json_lines.JsonLinesLineHandler.handle_lines.Goals as goal

pub returns-clause-ok : goal.returns-clause-ok
returns-clause-ok c =
    let s = c.args.self.now in
    let t = c.take_lines in
    subst (λ (j : Job). LinesTaken (JsonTook s.job s.printer) (JsonTook j t.new.self.printer) c.args.rest.now c.args.whole c.args.page.now t.new.page c.in_ok-take_lines.field-0.0 c.in_ok-take_lines.field-0.1) (sym t.ensures.job) c.in_ok-take_lines.ensures.ok

pub returns-in_err-take_lines-clause-err : goal.returns-in_err-take_lines-clause-err
returns-in_err-take_lines-clause-err c lines more output x =
    let s = c.args.self.now in
    let t = c.take_lines in
    let (bytes, count, h) = c.in_err-take_lines.ensures.err in
    let r = err_from_is_err_and c.from_residual.result c.from_residual.ensures.1 in
    rw (r.1, r.2) (tt, starved (promises s.job) (sound s.job) (json_outputs s.job t.new.self.printer) c.args.rest.now c.args.whole c.args.page.now t.new.page bytes count h lines more output x)

pub returns-in_err-take_lines-clause-said : goal.returns-in_err-take_lines-clause-said
returns-in_err-take_lines-clause-said c lines output x =
    let s = c.args.self.now in
    let t = c.take_lines in
    let (bytes, count, h) = c.in_err-take_lines.ensures.err in
    let r = err_from_is_err_and c.from_residual.result c.from_residual.ensures.1 in
    rw (r.1, t.ensures.job) (json_said s.job t.new.self.printer (lines ++ h.taken) (output ++ t.new.page) (h.took lines output x))

pub returns-then-eq-clause-ok : goal.returns-then-eq-clause-ok
returns-then-eq-clause-ok c =
    let s = c.args.self.now in
    none_of (JsonTook s.job s.printer) c.args.rest.now c.args.whole c.args.page.now
