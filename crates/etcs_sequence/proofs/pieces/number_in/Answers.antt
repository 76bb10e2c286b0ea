use Rattle.std.proofs.Common.{sym, ◌∙◌}
use Rattle.etcs_bits.proofs.Views.{number_bits, number_below}
use Rattle.etcs_sequence.proofs.pieces.number_in.Goals as goal

pub returns-clause-bits : goal.returns-clause-bits
returns-clause-bits c = number_bits c.args.at c.args.count c.in-Some.number c.args.slice.now c.requires.inside (sym c.number.ensures ∙ c.in-Some.is)

pub returns-clause-fits : goal.returns-clause-fits
returns-clause-fits c = number_below c.args.at c.args.count c.in-Some.number c.args.slice.now c.requires.inside (sym c.number.ensures ∙ c.in-Some.is)
