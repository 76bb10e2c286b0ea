use Rattle.std.proofs.Common.{◌≡◌, ℕ, ◌+◌, ◌-◌, ◌*◌, sym, subst, arith}
use Rattle.std.proofs.lemmas.Bool.{both_ways}
use Rattle.etcs_vars.specs.Vars.{width}
use Rattle.etcs_reader.specs.Rests.{Starts}
use Rattle.etcs_reader.proofs.BlockLaws.{fits_more, front_more, first_half, greatest_zero, greatest_one}
use Rattle.etcs_reader.proofs.nearest.greatest_begun.Goals as goal

pub begins-requires-clause-fits : goal.begins-requires-clause-fits
begins-requires-clause-fits g c =
    let l = c.loop-more in
    let next : l.more - 1 + 1 ≡ l.more = omega (arith, c.loop-more-test.true) in
    fits_more (width c.args.var) l.more (l.more - 1) l.number next (omega (arith, l.invariant.within, c.requires.rest)) l.invariant.fits

pub loop-more-preserved-then-not-begins : goal.loop-more-preserved-then-not-begins
loop-more-preserved-then-not-begins g c =
    let l = c.loop-more in
    let i = l.invariant in
    let L = g.R.Rest.left c.args.left.now in
    let x = c.args.var in
    let k = l.more - 1 in
    let next : k + 1 ≡ l.more = omega (arith, c.loop-more-test.true) in
    let none : Starts L x k (l.number * 2 + 1) → ⊥ = λ s. both_ways c.begins.result c.if-not-begins.true (c.begins.ensures.1 s) in
    let is : l.number * 2 + 1 - 1 ≡ l.number * 2 = omega arith in
    let f = fits_more (width x) l.more k l.number next (omega (arith, i.within, c.requires.rest)) i.fits in
    record {
      within = omega (arith, i.within);
      fits = omega (arith, f);
      front = front_more c.args.rest l.more k l.number c.args.bits (l.number * 2 + 1 - 1) next i.within i.front (omega arith);
      starts = subst (λ (j : ℕ). Starts L x k j) (sym is) (first_half L x k l.number (subst (λ (j : ℕ). Starts L x j l.number) (sym next) i.starts) none);
      greatest = λ n e cont. (let z = greatest_zero L x l.more k n l.number next cont none (i.greatest n e cont) in omega (arith, z));
    }

pub loop-more-preserved : goal.loop-more-preserved
loop-more-preserved g c =
    let l = c.loop-more in
    let i = l.invariant in
    let x = c.args.var in
    let k = l.more - 1 in
    let next : k + 1 ≡ l.more = omega (arith, c.loop-more-test.true) in
    record {
      within = omega (arith, i.within);
      fits = fits_more (width x) l.more k l.number next (omega (arith, i.within, c.requires.rest)) i.fits;
      front = front_more c.args.rest l.more k l.number c.args.bits (l.number * 2 + 1) next i.within i.front (omega arith);
      starts = c.begins.ensures.0 c.if-not-begins.false;
      greatest = λ n e cont. greatest_one l.more k n l.number next (i.greatest n e cont);
    }
