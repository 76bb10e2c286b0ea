use Rattle.std.proofs.Common.{[], ◌∷◌, ◌++◌, sym, subst}
use Rattle.std.specs.Prelude.{OnOk}
use Rattle.etcs_stream.specs.declared.job.Job.{Job}
use Rattle.etcs_stream.specs.Stands.{JsonTook}
use Rattle.etcs_stream.proofs.JsonSteps.{json_line_took, json_line_stops}
use Rattle.etcs_stream.proofs.Saying.{says_all_if}
use Rattle.etcs_stream.proofs.json_lines.JsonLinesLineHandler.handle_line.Goals as goal

pub returns-clause-ok : goal.returns-clause-ok
returns-clause-ok c lines raw output h l e =
    let s = c.args.self.now in
    let s' = c.handle.new.self in
    let text = c.handle.new.page in
    subst (λ (j : Job). OnOk c.handle.result (JsonTook j s'.printer (lines ++ (raw ∷ [])) (output ++ text))) (sym c.handle.ensures.job)
    (json_line_took s.job s.printer lines output c.args.page.now h raw c.args.line.now s'.printer text c.handle.result l e c.handle.ensures.ok)

pub returns-clause-err : goal.returns-clause-err
returns-clause-err c lines raw more output h l e at =
    let s = c.args.self.now in
    json_line_stops s.job s.printer lines output c.args.page.now h raw c.args.line.now more c.args.number c.handle.new.page c.handle.result l e at c.handle.ensures.err

pub returns-clause-said : goal.returns-clause-said
returns-clause-said c lines output h =
    let s = c.args.self.now in
    let k = c.handle.ensures in
    rw k.job (says_all_if s.job.command s.printer c.handle.new.self.printer h.items output c.args.page.now _ c.handle.result h.text k.said)
