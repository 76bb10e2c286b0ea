use Rattle.std.proofs.Common.{◌<◌, ◌++◌, ◌∙◌, sym, arith}
use Rattle.etcs_runs.specs.Lines.{lines_text}
use Rattle.etcs_runs.specs.declared.fault.RunFault.TheVariants.{BadJson, Endless}
use Rattle.etcs_stream.specs.laws.StandLaws.{json_outputs}
use Rattle.etcs_stream.proofs.JsonSteps.{json_long_bad, json_long_full}
use Rattle.etcs_stream.proofs.Printing.{line_longer}
use Rattle.etcs_stream.proofs.json_lines.JsonLinesLineHandler.refuse_long.Goals as goal

pub returns-then-count-eq-MOST_ITEMS-clause-err : goal.returns-then-count-eq-MOST_ITEMS-clause-err
returns-then-count-eq-MOST_ITEMS-clause-err c lines part more output h l long at =
    let s = c.args.self.now in
    let text = output ++ c.args._page.now in
    line_longer s.job (lines_text lines) part more text Endless (json_outputs s.job s.printer lines part text h l)
    (tt, json_long_full s.job s.printer lines text h part l long (sym c.count.ensures ∙ c.if-count-eq-MOST_ITEMS.true))

pub returns-else-count-eq-MOST_ITEMS-clause-err : goal.returns-else-count-eq-MOST_ITEMS-clause-err
returns-else-count-eq-MOST_ITEMS-clause-err c lines part more output h l long at =
    let s = c.args.self.now in
    let text = output ++ c.args._page.now in
    let few : s.printer.count < 1000000 = omega (arith, h.few, c.if-count-eq-MOST_ITEMS.false, c.count.ensures) in
    line_longer s.job (lines_text lines) part more text (BadJson c.args.number) (json_outputs s.job s.printer lines part text h l)
    (tt, json_long_bad s.job s.printer lines text h part c.args.number l long at few)
