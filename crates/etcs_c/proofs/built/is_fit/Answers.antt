use Rattle.etcs_c.proofs.Fits.{short_fit}
use Rattle.etcs_c.proofs.built.is_fit.Goals as goal

pub returns-then-width-lt64 : goal.returns-then-width-lt64
returns-then-width-lt64 c = short_fit c.args.field.now c.if-width-lt64.true
