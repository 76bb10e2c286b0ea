use Rattle.std.proofs.Common.{◌++◌, refl}
use Rattle.etcs_runs.specs.Lines.{lines_text}
use Rattle.etcs_runs.specs.declared.fault.RunFault.TheVariants.{BadHex}
use Rattle.etcs_stream.specs.laws.StandLaws.{hex_outputs}
use Rattle.etcs_stream.proofs.HexTakes.{long_stops}
use Rattle.etcs_stream.proofs.Printing.{line_longer}
use Rattle.etcs_stream.proofs.hex_lines.HexLinesLineHandler.refuse_long.Goals as goal

pub returns-clause-err : goal.returns-clause-err
returns-clause-err c lines part more output h l long m =
    let i = c.args.self.now.items in
    let text = output ++ c.args._page.now in
    let fault = BadHex c.args.number 4096 in
    line_longer i.job (lines_text lines) part more text fault (hex_outputs i.job i.reader i.printer lines part text h l)
    (long_stops i.job i.reader i.printer lines part text c.args.number fault h l long m refl)
