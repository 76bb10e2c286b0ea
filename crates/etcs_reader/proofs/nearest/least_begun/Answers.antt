use Rattle.std.proofs.Common.{◌≡◌, ℕ, ◌+◌, ◌-◌, ◌*◌, sym, subst, arith}
use Rattle.std.proofs.lemmas.Bool.{both_ways}
use Rattle.etcs_vars.specs.Vars.{width}
use Rattle.etcs_reader.specs.Rests.{Starts}
use Rattle.etcs_reader.proofs.BlockLaws.{fits_more, front_more, other_half, least_zero, least_one}
use Rattle.etcs_reader.proofs.nearest.least_begun.Goals as goal

pub begins-requires-clause-fits : goal.begins-requires-clause-fits
begins-requires-clause-fits g c =
    let l = c.loop-more in
    let next : l.more - 1 + 1 ≡ l.more = omega (arith, c.loop-more-test.true) in
    let f = fits_more (width c.args.var) l.more (l.more - 1) l.number next (omega (arith, l.invariant.within, c.requires.rest)) l.invariant.fits in
    omega (arith, f)

pub loop-more-preserved-then-not-begins : goal.loop-more-preserved-then-not-begins
loop-more-preserved-then-not-begins g c =
    let l = c.loop-more in
    let i = l.invariant in
    let L = g.R.Rest.left c.args.left.now in
    let x = c.args.var in
    let k = l.more - 1 in
    let next : k + 1 ≡ l.more = omega (arith, c.loop-more-test.true) in
    let none : Starts L x k (l.number * 2) → ⊥ = λ s. both_ways c.begins.result c.if-not-begins.true (c.begins.ensures.1 s) in
    record {
      within = omega (arith, i.within);
      fits = fits_more (width x) l.more k l.number next (omega (arith, i.within, c.requires.rest)) i.fits;
      front = front_more c.args.rest l.more k l.number c.args.bits (l.number * 2 + 1) next i.within i.front (omega arith);
      starts = other_half L x k l.number (subst (λ (j : ℕ). Starts L x j l.number) (sym next) i.starts) none;
      least = λ n e cont. least_one L x l.more k n l.number next cont none (i.least n e cont);
    }

pub loop-more-preserved : goal.loop-more-preserved
loop-more-preserved g c =
    let l = c.loop-more in
    let i = l.invariant in
    let x = c.args.var in
    let k = l.more - 1 in
    let next : k + 1 ≡ l.more = omega (arith, c.loop-more-test.true) in
    record {
      within = omega (arith, i.within);
      fits = (let f = fits_more (width x) l.more k l.number next (omega (arith, i.within, c.requires.rest)) i.fits in omega (arith, f));
      front = front_more c.args.rest l.more k l.number c.args.bits (l.number * 2) next i.within i.front (omega arith);
      starts = c.begins.ensures.0 c.if-not-begins.false;
      least = λ n e cont. least_zero l.more k n l.number next (i.least n e cont);
    }
