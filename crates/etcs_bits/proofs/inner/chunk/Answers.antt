use Rattle.std.proofs.Common.{sym}
use Rattle.etcs_bits.proofs.Views.{number_bits, number_below}
use Rattle.etcs_bits.proofs.inner.chunk.Goals as goal

pub returns-clause-bits : goal.returns-clause-bits
returns-clause-bits c = number_bits c.args.from c.args.width c.in-Some.number c.args.slice.now c.requires.inside (sym c.in-Some.ensures)

pub returns-clause-fits : goal.returns-clause-fits
returns-clause-fits c = number_below c.args.from c.args.width c.in-Some.number c.args.slice.now c.requires.inside (sym c.in-Some.ensures)
