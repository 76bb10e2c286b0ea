use Rattle.etcs_stream.proofs.HexTakes.{nothing_took}
use Rattle.etcs_stream.proofs.hex_lines.HexLines.new.Goals as goal

pub returns-clause-took : goal.returns-clause-took
returns-clause-took c =
    let e = c.new.ensures in
    nothing_took c.args.job c.new.result.reader c.new.result.printer c.requires.form e.waits e.seen e.reported
