use Rattle.etcs_text.specs.Readers.{seen_bits}
use Rattle.etcs_stream.proofs.Standing.{stand_nothing}
use Rattle.etcs_stream.proofs.bin.Bin.new.Goals as goal

pub returns-clause-stands : goal.returns-clause-stands
returns-clause-stands c =
    let e = c.new.ensures in
    (c.requires.form, e.waits, stand_nothing c.args.job (seen_bits c.new.result.reader.progress) c.new.result.printer e.seen e.reported e.waits.unfinished)
