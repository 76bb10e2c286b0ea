use Rattle.std.proofs.Common.{◌≡◌, ℕ, ◌+◌, ◌-◌, ◌/◌, ◌^◌, ◌<◌, ◌≤◌, ◌∷◌, sym, ap, subst, ◌∙◌, arith, inl, inr}
use Rattle.std.proofs.lemmas.Bool.{both_ways, cases_lt}
use Rattle.std.proofs.Math.Nat.{div-eq_of_lt}
use Rattle.etcs_vars.specs.Vars.{width}
use Rattle.etcs_reader.specs.Rests.{Starts}
use Rattle.etcs_reader.proofs.BlockLaws.{lesser, either_half, begun, even_fits, block_fits, beyond_block, not_before, block_more}
use Rattle.etcs_reader.proofs.nearest.above.Goals as goal
use Rattle.etcs_reader.proofs.nearest.above.Goals.{else-block-eq0-via-then-block-eq0+else-begins, else-block-eq0-via-else-block-eq0}

pub begins-requires-clause-fits : goal.begins-requires-clause-fits
begins-requires-clause-fits g c =
    let l = c.loop-more in
    let i = l.invariant in
    let w = width c.args.var in
    let pos : 0 < w - l.more = omega (arith, c.loop-more-test.true, c.width.ensures) in
    let small : l.block < 2 ^ (w - l.more) = subst (λ (j : ℕ). j < 2 ^ (w - l.more)) (sym i.block) (block_fits w c.args.rest l.more c.args.bits i.from i.within c.requires.fits) in
    even_fits (w - l.more) l.block pos small c.if-block-eq0.true

pub least_begun-requires-clause-fits : goal.least_begun-requires-clause-fits
least_begun-requires-clause-fits g c =
    let l = c.loop-more in
    let i = l.invariant in
    let w = width c.args.var in
    let pos : 0 < w - l.more = omega (arith, c.loop-more-test.true, c.width.ensures) in
    let small : l.block < 2 ^ (w - l.more) = subst (λ (j : ℕ). j < 2 ^ (w - l.more)) (sym i.block) (block_fits w c.args.rest l.more c.args.bits i.from i.within c.requires.fits) in
    even_fits (w - l.more) l.block pos small c.if-block-eq0.true

pub returns-then-begins : goal.returns-then-begins
returns-then-begins g c =
    let l = c.loop-more in
    let i = l.invariant in
    let e = c.least_begun.ensures in
    let r = c.least_begun.result in (
      e.continues,
      beyond_block c.args.rest l.more c.args.bits r i.from (omega (arith, i.block, e.begins)),
      λ n cont beyond.
          let ge = not_before c.args.rest l.more c.args.bits n i.from beyond in
          elim (cases_lt (n / 2 ^ l.more) (l.block + 1)) [
            | inl less ↦ absurd (let same : n / 2 ^ l.more ≡ l.block = omega (arith, less, ge, i.block) in i.none n same cont beyond)
            | inr more ↦ elim (cases_lt (l.block + 1) (n / 2 ^ l.more)) [
              | inl less ↦ (let lt = lesser l.more r n (omega (arith, less, e.begins)) in omega (arith, lt))
              | inr other ↦ e.least n (omega (arith, more, other)) cont
            ]
          ],
    )

pub loop-more-preserved : goal.loop-more-preserved
loop-more-preserved g c =
    let l = c.loop-more in
    let i = l.invariant in
    let L = g.R.Rest.left c.args.left.now in
    record {
      from = omega (arith, i.from);
      within = omega (arith, c.loop-more-test.true, c.width.ensures);
      block = ap (λ (j : ℕ). j / 2) i.block ∙ block_more c.args.rest l.more c.args.bits i.from;
      none = λ n e cont beyond.
          let ge = not_before c.args.rest l.more c.args.bits n i.from beyond in
          let ge' : l.block ≤ n / 2 ^ l.more = omega (arith, ge, i.block) in
          let at : n / 2 ^ l.more ≡ l.block → ⊥ = λ same. i.none n same cont beyond in
          elim c.else-block-eq0.branch [
            | else-block-eq0-via-then-block-eq0+else-begins w ↦ elim (either_half n l.more (l.block / 2) e) [
              | inl zero ↦ at (omega (arith, zero, w.if-block-eq0.true))
              | inr one ↦ (let next : n / 2 ^ l.more ≡ l.block + 1 = omega (arith, one, w.if-block-eq0.true) in both_ways w.begins.result w.if-begins.false (w.begins.ensures.1 (subst (λ (j : ℕ). Starts L c.args.var l.more j) next (begun L c.args.var l.more n cont))))
            ]
            | else-block-eq0-via-else-block-eq0 w ↦ elim (either_half n l.more (l.block / 2) e) [
              | inl zero ↦ absurd (omega (arith, zero, ge', w.if-block-eq0.false))
              | inr one ↦ at (omega (arith, one, w.if-block-eq0.false))
            ]
          ];
    }

pub returns : goal.returns
returns g c n cont beyond =
    let l = c.loop-more in
    let i = l.invariant in
    let w = width c.args.var in
    let all : l.more ≡ w = omega (arith, c.loop-more-test.false, c.width.ensures, i.within) in
    let (r, m) = cont in
    let fit = (g.met.R.Rest.regular c.args.left.now).fit ((c.args.var, n) ∷ r) m in
    let small : n < 2 ^ l.more = subst (λ (j : ℕ). n < 2 ^ j) (sym all) fit.0 in
    let zero : n / 2 ^ l.more ≡ 0 = div-eq_of_lt small in
    let low : c.args.bits < 2 ^ (l.more - c.args.rest) = subst (λ (j : ℕ). c.args.bits < 2 ^ (j - c.args.rest)) (sym all) c.requires.fits in
    let none : l.block ≡ 0 = i.block ∙ div-eq_of_lt low in
    i.none n (zero ∙ sym none) cont beyond
