use Rattle.std.proofs.Common.{◌∙◌}
use Rattle.etcs_telegram.proofs.WholeTelegram.{header_numbers, header_admits, header_bits}
use Rattle.etcs_telegram.proofs.header_bits.header_at_front.Goals as goal

pub header_by-requires : goal.header_by-requires
header_by-requires c = header_numbers c.number_at.result c.in_ok-numbers.numbers c.in_ok-numbers.ensures

pub returns-clause-admitted : goal.returns-clause-admitted
returns-clause-admitted c = rw c.header_by.ensures (header_admits c.number_at.result c.in_ok-numbers.numbers c.in_ok-numbers.ensures)

pub returns-clause-bits : goal.returns-clause-bits
returns-clause-bits c = rw c.header_by.ensures (header_bits c.number_at.result c.in_ok-numbers.numbers c.in_ok-numbers.ensures ∙ c.number_at.ensures.bits)
