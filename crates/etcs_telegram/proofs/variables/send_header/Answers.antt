use Rattle.std.proofs.Common.{◌+◌, [], ◌∷◌, get_or, take}
use Rattle.etcs_tables.specs.Headers.{header_row}
use Rattle.etcs_sequence.specs.Labels.{labelled}
use Rattle.etcs_telegram.specs.Phases.{header_var}
use Rattle.etcs_sequence.proofs.Sent.{two_sent}
use Rattle.etcs_telegram.proofs.Sending.{header_more}
use Rattle.etcs_telegram.proofs.variables.send_header.Goals as goal

pub loop-at-preserved : goal.loop-at-preserved
loop-at-preserved g c =
    let ns = c.args.numbers.now in
    let l = c.loop-at in
    two_sent g.S.VarSink.with g.met.S.VarSink.with_both c.args.out.now l.out c.send.new.self (labelled header_row (take l.at ns)) ((header_var l.at, get_or ns l.at 0) ∷ []) (labelled header_row (take (l.at + 1) ns)) l.invariant (rw c.header_var.ensures at c.in_ok-send.ensures.ok) (header_more ns l.at c.requires c.loop-at-test.true)
