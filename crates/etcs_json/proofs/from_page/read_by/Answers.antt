use Rattle.etcs_bits.specs.Bits.{bits}
use Rattle.etcs_json.proofs.ItemLengths.{not_longer, not_shorter, refused_same}
use Rattle.etcs_json.proofs.from_page.read_by.Goals as goal

pub returns-in-Refused-clause-refused : goal.returns-in-Refused-clause-refused
returns-in-Refused-clause-refused c = λ i x e.
    refused_same c.args.reader.now (bits c.args.bytes.now) c.in-Refused.bit i c.in-Refused.var x e (rw c.in-Refused.is at c.in-Ok.ensures.verdict).1

pub unreachable-requires : goal.unreachable-requires
unreachable-requires c = not_shorter c.args.reader.now (bits c.args.bytes.now) c.requires (rw c.in-TooShort.is at c.in-Ok.ensures.verdict).1

pub unreachable-requires-in-TooLong : goal.unreachable-requires-in-TooLong
unreachable-requires-in-TooLong c = not_longer c.args.reader.now c.args.bytes.now c.requires (rw c.in-TooLong.is at c.in-Ok.ensures.verdict).1
