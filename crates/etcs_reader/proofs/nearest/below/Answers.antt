use Rattle.std.proofs.Common.{◌≡◌, ℕ, ◌+◌, ◌-◌, ◌/◌, ◌^◌, ◌<◌, ◌≤◌, ◌∷◌, sym, ap, subst, ◌∙◌, arith, inl, inr}
use Rattle.std.proofs.lemmas.Bool.{both_ways, cases_lt}
use Rattle.std.proofs.Math.Nat.{div-eq_of_lt}
use Rattle.etcs_vars.specs.Vars.{width}
use Rattle.etcs_reader.specs.Rests.{Starts}
use Rattle.etcs_reader.proofs.BlockLaws.{lesser, either_half, begun, block_fits, before_block, not_beyond, block_more}
use Rattle.etcs_reader.proofs.nearest.below.Goals as goal
use Rattle.etcs_reader.proofs.nearest.below.Goals.{else-block-eq1-via-then-block-eq1+else-begins, else-block-eq1-via-else-block-eq1}

pub begins-requires-clause-fits : goal.begins-requires-clause-fits
begins-requires-clause-fits g c =
    let l = c.loop-more in
    let i = l.invariant in
    let w = width c.args.var in
    let small : l.block < 2 ^ (w - l.more) = subst (λ (j : ℕ). j < 2 ^ (w - l.more)) (sym i.block) (block_fits w c.args.rest l.more c.args.bits i.from i.within c.requires.fits) in
    omega (arith, small)

pub greatest_begun-requires-clause-fits : goal.greatest_begun-requires-clause-fits
greatest_begun-requires-clause-fits g c =
    let l = c.loop-more in
    let i = l.invariant in
    let w = width c.args.var in
    let small : l.block < 2 ^ (w - l.more) = subst (λ (j : ℕ). j < 2 ^ (w - l.more)) (sym i.block) (block_fits w c.args.rest l.more c.args.bits i.from i.within c.requires.fits) in
    omega (arith, small)

pub returns-then-begins : goal.returns-then-begins
returns-then-begins g c =
    let l = c.loop-more in
    let i = l.invariant in
    let e = c.greatest_begun.ensures in
    let r = c.greatest_begun.result in
    let odd : l.block - 1 + 1 ≡ l.block = omega (arith, c.if-block-eq1.true) in (
      e.continues,
      before_block c.args.rest l.more c.args.bits r i.from (omega (arith, i.block, e.begins, odd)),
      λ n cont before.
          let le = not_beyond c.args.rest l.more c.args.bits n i.from before in
          elim (cases_lt (l.block - 1) (n / 2 ^ l.more)) [
            | inl more ↦ absurd (let same : n / 2 ^ l.more ≡ l.block = omega (arith, more, le, i.block, odd) in i.none n same cont before)
            | inr less ↦ elim (cases_lt (n / 2 ^ l.more) (l.block - 1)) [
              | inl lt ↦ (let lt = lesser l.more n r (omega (arith, lt, e.begins)) in omega (arith, lt))
              | inr other ↦ e.greatest n (omega (arith, less, other)) cont
            ]
          ],
    )

pub loop-more-preserved : goal.loop-more-preserved
loop-more-preserved g c =
    let l = c.loop-more in
    let i = l.invariant in
    let L = g.R.Rest.left c.args.left.now in
    record {
      from = omega (arith, i.from);
      within = omega (arith, c.loop-more-test.true, c.width.ensures);
      block = ap (λ (j : ℕ). j / 2) i.block ∙ block_more c.args.rest l.more c.args.bits i.from;
      none = λ n e cont before.
          let le = not_beyond c.args.rest l.more c.args.bits n i.from before in
          let le' : n / 2 ^ l.more ≤ l.block = omega (arith, le, i.block) in
          let at : n / 2 ^ l.more ≡ l.block → ⊥ = λ same. i.none n same cont before in
          elim c.else-block-eq1.branch [
            | else-block-eq1-via-then-block-eq1+else-begins w ↦ elim (either_half n l.more (l.block / 2) e) [
              | inl zero ↦ (let next : n / 2 ^ l.more ≡ l.block - 1 = omega (arith, zero, w.if-block-eq1.true) in both_ways w.begins.result w.if-begins.false (w.begins.ensures.1 (subst (λ (j : ℕ). Starts L c.args.var l.more j) next (begun L c.args.var l.more n cont))))
              | inr one ↦ at (omega (arith, one, w.if-block-eq1.true))
            ]
            | else-block-eq1-via-else-block-eq1 w ↦ elim (either_half n l.more (l.block / 2) e) [
              | inl zero ↦ at (omega (arith, zero, w.if-block-eq1.false))
              | inr one ↦ absurd (omega (arith, one, le', w.if-block-eq1.false))
            ]
          ];
    }

pub returns : goal.returns
returns g c n cont before =
    let l = c.loop-more in
    let i = l.invariant in
    let w = width c.args.var in
    let all : l.more ≡ w = omega (arith, c.loop-more-test.false, c.width.ensures, i.within) in
    let (r, m) = cont in
    let fit = (g.met.R.Rest.regular c.args.left.now).fit ((c.args.var, n) ∷ r) m in
    let small : n < 2 ^ l.more = subst (λ (j : ℕ). n < 2 ^ j) (sym all) fit.0 in
    let zero : n / 2 ^ l.more ≡ 0 = div-eq_of_lt small in
    let low : c.args.bits < 2 ^ (l.more - c.args.rest) = subst (λ (j : ℕ). c.args.bits < 2 ^ (j - c.args.rest)) (sym all) c.requires.fits in
    let none : l.block ≡ 0 = i.block ∙ div-eq_of_lt low in
    i.none n (zero ∙ sym none) cont before
