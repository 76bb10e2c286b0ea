use Rattle.std.proofs.Common.{rules}
use Rattle.etcs_vars.specs.Reading.{spelled}
use Rattle.etcs_vars.proofs.WordSinks.{fills}
use Rattle.etcs_text.proofs.pairs.write_over.Goals as goal

pub returns : goal.returns
returns c =
    let e = c.new-sink.ensures in
    let f = fills c.args.out.now _ (spelled c.args.pairs.now) c.new-sink.result c.put_reading.new.self e.bytes e.at e.word c.requires c.put_reading.ensures c.finish.ensures in
    search (rules, f.name, f.bits, e.lent)
