use Rattle.std.proofs.Common.{◌≡◌, ◌+◌, ◌-◌, ◌^◌, ◌<◌, ℕ, subst, arith}
use Rattle.etcs_vars.proofs.Prefixes.{quotient_below}
use Rattle.etcs_vars.proofs.BitPages.{put_both}
use Rattle.etcs_vars.proofs.bit_page.BitPage.put_long.Goals as goal

pub put-requires-clause-fits : goal.put-requires-clause-fits
put-requires-clause-fits c =
    let wide = c.args.width in
    let all : wide ≡ wide - 32 + 32 = omega (arith, c.requires.least) in
    quotient_below c.args.number (wide - 32) 32 (subst (λ (k : ℕ). c.args.number < 2 ^ k) all c.requires.fits)

pub returns-clause-ok : goal.returns-clause-ok
returns-clause-ok c = put_both c.args.self.now c.put.new.self c.put-2.new.self c.args.width c.args.number c.requires.least c.in_ok-put.ensures.ok c.in_ok-put-2.ensures.ok
