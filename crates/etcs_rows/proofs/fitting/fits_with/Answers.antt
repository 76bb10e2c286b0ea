use Rattle.std.proofs.Common.{◌≡◌, ◌-◌, sym, ◌∙◌, arith, subst}
use Rattle.etcs_rows.specs.Progressions.{InProgression}
use Rattle.etcs_rows.proofs.fitting.fits_with.Goals as goal

pub returns : goal.returns
returns c =
    let w = c.width-width.ensures in (
      λ h. (sym c.admits.ensures ∙ c.if-not-admits.false, (c.args.bits - c.width-width.result, c.holds.ensures.0 h, omega (arith, w)), omega arith),
      λ (ok, (j, i, e), s). let same : j ≡ c.args.bits - c.width-width.result = omega (arith, w, e) in c.holds.ensures.1 (subst (λ k. InProgression c.args.left k) same i),
    )
