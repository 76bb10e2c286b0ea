use Rattle.std.proofs.Common.{◌*◌, ℕ, ap, inl, sym}
use Rattle.etcs_vars.specs.Reading.{done}
use Rattle.etcs_c.proofs.found.check.Goals as goal

pub returns-in-Some : goal.returns-in-Some
returns-in-Some c =
    let (e, outcome, encoded) = c.in-Some.ensures.item in
    inl (done e (8 * c.in-Some.taken), outcome, (ap (λ (n : ℕ). 8 * n) (sym c.accept.ensures.taken), c.accept.ensures.status))
