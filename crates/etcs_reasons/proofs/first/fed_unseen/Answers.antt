use Rattle.etcs_bits.specs.Bits.{bits}
use Rattle.std.proofs.Common.{refl}
use Rattle.etcs_sequence.specs.Progress.{stopped}
use Rattle.etcs_text.proofs.Verdicts.{fresh_feeds}
use Rattle.etcs_reasons.proofs.first.fed_unseen.Goals as goal

pub returns-in-Some : goal.returns-in-Some
returns-in-Some c = (stopped c.in-Some.bit c.in-Some.var, (refl, c.in-Some.ensures))

pub returns : goal.returns
returns c =
    let f = c.feed in
    (f.new.self.progress, fresh_feeds c.args.kind c.new-reader.result (bits c.args.bytes.now) f.result f.new.self.progress c.new-reader.ensures f.ensures.answer)
