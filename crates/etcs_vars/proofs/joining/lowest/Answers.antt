use Rattle.std.proofs.Common.{◌∙◌, ◌^◌, ap}
use Rattle.std.proofs.lemmas.Nat.{mod_below, pow_pos}
use Rattle.etcs_bits.specs.Bits.{num}
use Rattle.etcs_vars.proofs.LowestBits.{low_found, num-low}
use Rattle.etcs_vars.proofs.joining.lowest.Goals as goal

pub returns-clause-fits : goal.returns-clause-fits
returns-clause-fits c = rw (low_found c.args.width c.args.number c.requires.most) (mod_below c.args.number (2 ^ c.args.width) (pow_pos c.args.width))

pub returns-clause-bits : goal.returns-clause-bits
returns-clause-bits c = ap (num c.args.width) (low_found c.args.width c.args.number c.requires.most) ∙ num-low c.args.width c.args.number
