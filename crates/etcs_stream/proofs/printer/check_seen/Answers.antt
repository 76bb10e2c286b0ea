use Rattle.etcs_stream.proofs.printer.check_seen.Goals as goal

pub returns-clause-some : goal.returns-clause-some
returns-clause-some c =
    let (e, is, encoded) = c.in-Some.ensures.item in
    (c.in-Some.ensures.within, e, is, c.in_ok-put_checked.ensures.ok e _ is)
