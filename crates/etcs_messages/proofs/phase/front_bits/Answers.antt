use Rattle.std.proofs.Common.{sym, ap, ◌∙◌, arith}
use Rattle.std.specs.Prelude.{option_map}
use Rattle.etcs_tables.specs.MessageRows.{row_bits}
use Rattle.etcs_messages.specs.Lefts.{front_bits}
use Rattle.etcs_messages.proofs.Ways.{header_few}
use Rattle.etcs_messages.proofs.Fronts.{bits_are, none_asked}
use Rattle.etcs_messages.proofs.phase.front_bits.Goals as goal

pub returns-in_err-own : goal.returns-in_err-own
returns-in_err-own c = c.from_residual.ensures ∙ sym (ap (option_map front_bits) (none_asked c.args.way row_bits c.args.nid c.in_err-own.ensures))

pub overflow_add-result : goal.overflow_add-result
overflow_add-result c = let few = (bits_are c.args.way c.args.nid c.in_ok-own.own c.in_ok-own.ensures).0 in let head = header_few c.args.way in omega (arith, few, head, c.header_bits.ensures)

pub returns : goal.returns
returns c = rw c.header_bits.ensures (bits_are c.args.way c.args.nid c.in_ok-own.own c.in_ok-own.ensures).1
