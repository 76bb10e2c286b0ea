use Rattle.std.proofs.Common.{rules}
use Rattle.std.proofs.lemmas.Iterator.{YieldsList-from_slice, cases_from_all}
use Rattle.etcs_c.specs.ItemFields.{IsFit}
use Rattle.etcs_c.proofs.Fits.{all_fit}
use Rattle.etcs_c.proofs.built.are_fit.Goals as goal

pub returns : goal.returns
returns c = all_fit c.all.result c.args.fields.now (cases_from_all _ _ _ IsFit (λ f. IsFit f → ⊥) c.all.ensures.ran (YieldsList-from_slice c.args.fields.now cc) (λ x q k. search rules) (λ x q k. search rules))
