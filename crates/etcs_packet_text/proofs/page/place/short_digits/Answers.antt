use Rattle.std.proofs.Common.{[]}
use Rattle.etcs_packet_text.proofs.Decimals.{in_table}
use Rattle.etcs_packet_text.proofs.page.place.short_digits.Goals as goal

pub returns-clause-count : goal.returns-clause-count
returns-clause-count c = (in_table [] c.args.number c.requires).1

pub returns-clause-few : goal.returns-clause-few
returns-clause-few c = (in_table [] c.args.number c.requires).2

pub returns-clause-first : goal.returns-clause-first
returns-clause-first c = (in_table [] c.args.number c.requires).3
