use Rattle.std.proofs.Common.{◌≡◌, ℕ, ◌-◌, ◌^◌, ◌<◌, [], ◌∷◌, take, refl, sym, ap, subst, ◌∙◌, arith}
use Rattle.std.proofs.lemmas.List.{append-nil}
use Rattle.etcs_vars.specs.Reading.{spelled}
use Rattle.etcs_bits.specs.Bits.{bits, num, part}
use Rattle.etcs_vars.specs.Vars.{width}
use Rattle.etcs_vars.proofs.Prefixes.{width-le, width_pos}
use Rattle.etcs_reader.specs.Readers.{Passed}
use Rattle.etcs_reader.proofs.Parts.{passed_none, passed_one, goes_after}
use Rattle.etcs_reader.proofs.Passing.{passed_along, front_of}
use Rattle.etcs_reader.proofs.inner.pass_front.Goals as goal

pub loop-at-init : goal.loop-at-init
loop-at-init g c =
    let s = c.args.rest.now in
    record { goes = c.requires.goes; within = omega arith; passed = passed_none (λ p. g.R.Rest.follows s p s) (g.met.R.Rest.none s) [] (bits c.args.piece.now) }

pub number_at-number-requires-clause-inside : goal.number_at-number-requires-clause-inside
number_at-number-requires-clause-inside g c = omega (arith, c.requires.inside, c.loop-at.invariant.within, c.if-width-end.false)

pub number_at-number-requires-clause-width : goal.number_at-number-requires-clause-width
number_at-number-requires-clause-width g c = omega (arith, width-le c.in-Some.var, c.width-width.ensures)

pub begins-requires-clause-rest : goal.begins-requires-clause-rest
begins-requires-clause-rest g c = width_pos c.in-Some.var

pub begins-requires-clause-fits : goal.begins-requires-clause-fits
begins-requires-clause-fits g c =
    let all : c.width-width.result ≡ width c.in-Some.var - 0 = (let w = c.width-width.ensures in omega (arith, w)) in
    subst (λ k. c.number_at-number.result < 2 ^ k) all c.number_at-number.ensures.fits

pub loop-at-preserved : goal.loop-at-preserved
unfolding num
loop-at-preserved g c =
    let R = g.R.Rest in
    let s = c.args.rest.now in
    let m = c.loop-at.rest in
    let n = c.pass.new.self in
    let at = c.loop-at.at in
    let w = c.width-width.result in
    let x = c.in-Some.var in
    let k = c.number_at-number.result in
    let xs = bits c.args.piece.now in
    let follows = c.in-Ok.ensures.ok in
    let residual = g.met.R.Rest.residual m n ((x, k) ∷ []) follows in
    let b = subst (λ i. num i k ≡ part at w xs) c.width-width.ensures c.number_at-number.ensures.bits in
    let one = passed_one (λ p. R.follows m p n) x k 0 0 (part at w xs) (omega arith) follows b in
    let further = passed_along (λ p. R.follows s p m) (λ p. R.follows m p n) (λ p. R.follows s p n) (g.met.R.Rest.both s m n) (take at xs) [] [] (part at w xs) c.loop-at.invariant.passed one in
    record {
      goes = goes_after (R.left m) (R.left n) x k 0 refl residual (c.begins.ensures.0 c.if-not-begins.false);
      within = omega (arith, c.loop-at.invariant.within, c.if-width-end.false);
      passed = subst (λ t. Passed (λ p. R.follows s p n) t []) (front_of [] xs at w) further;
    }

pub returns : goal.returns
returns g c is =
    let l = c.loop-at.invariant in
    let all : c.loop-at.at ≡ c.args.end = omega (arith, l.within, c.loop-at-test.false) in
    let passed = l.passed in
    record {
      some = c.requires.some;
      inside = omega (arith, c.requires.inside);
      goes = l.goes;
      whole = passed.whole;
      follows = passed.follows;
      bits = sym (append-nil (spelled passed.whole)) ∙ passed.bits ∙ ap (λ (n : ℕ). take n (bits c.args.piece.now)) all;
    }
