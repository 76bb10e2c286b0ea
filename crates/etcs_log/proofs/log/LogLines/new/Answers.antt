use Rattle.etcs_log.proofs.Counting.{took_nothing}
use Rattle.etcs_log.proofs.log.LogLines.new.Goals as goal

pub returns-clause-took : goal.returns-clause-took
returns-clause-took c =
    let e = c.new-3.ensures in
    took_nothing c.args.job c.new-3.result.line c.new-3.result.seen e.line e.tally e.groups
