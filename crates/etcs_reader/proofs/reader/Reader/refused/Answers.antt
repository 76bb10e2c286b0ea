use Rattle.std.proofs.Common.{◌≡◌, ℕ, ◌+◌, ◌-◌, ◌*◌, ◌/◌, ◌^◌, ◌<◌, sym, ap, subst, ◌∙◌, arith, inl, inr}
use Rattle.std.proofs.lemmas.Bool.{cases_lt}
use Rattle.etcs_vars.specs.Vars.{width}
use Rattle.etcs_vars.proofs.Stepping.{quotient_below}
use Rattle.etcs_reader.specs.Rests.{Starts}
use Rattle.etcs_reader.proofs.Parts.{none_more, no_more, high_fits, refuses_at}
use Rattle.etcs_reader.proofs.reader.Reader.refused.Goals as goal

pub loop-end-init : goal.loop-end-init
loop-end-init g c =
    let s = c.args.self.now in
    let L = g.R.Rest.left s.rest in
    let x = c.args.var in
    let count = c.args.count in
    let bits = c.args.bits in
    let none_left : count - count ≡ 0 = omega arith in
    let all : bits / 2 ^ 0 ≡ bits = omega arith in
    let same : bits / 2 ^ (count - count) ≡ bits = ap (λ (k : ℕ). bits / 2 ^ k) none_left ∙ all in
    let none : Starts L x (width x - (s.taken + count)) (s.number * 2 ^ count + bits / 2 ^ (count - count)) → ⊥ = λ h. c.requires.none (subst (λ (b : ℕ). Starts L x (width x - (s.taken + count)) (s.number * 2 ^ count + b)) same h) in
    let starts : Starts L x (width x - (s.taken + 0)) (s.number * 2 ^ 0 + bits / 2 ^ (count - 0)) = none_more L x s.number s.taken bits count c.requires.fits (c.requires.reader.inside x c.requires.next).1 in
    record {
      some = elim (cases_lt 0 count) [
        | inl less ↦ less
        | inr other ↦ absurd (let zero : 0 ≡ count = omega (arith, other) in none (subst (λ (k : ℕ). Starts L x (width x - (s.taken + k)) (s.number * 2 ^ k + bits / 2 ^ (count - k))) zero starts))
      ];
      within = omega arith;
      value = no_more s.number bits count c.requires.fits;
      starts = starts;
      none = none;
    }

pub joined-longer-requires-clause-low : goal.joined-longer-requires-clause-low
joined-longer-requires-clause-low g c =
    let l = c.loop-end in
    let middle = l.more + (l.end - l.more) / 2 in
    let whole : middle + (c.args.count - middle) ≡ c.args.count = omega (arith, c.loop-end-test.true, l.invariant.within) in
    quotient_below c.args.bits middle (c.args.count - middle) (subst (λ (n : ℕ). c.args.bits < 2 ^ n) (sym whole) c.requires.fits)

pub begins-requires-clause-fits : goal.begins-requires-clause-fits
begins-requires-clause-fits g c =
    let s = c.args.self.now in
    let l = c.loop-end in
    let middle = l.more + (l.end - l.more) / 2 in
    let all : width c.args.var - (c.width.result - (s.taken + middle)) ≡ s.taken + middle = omega (arith, c.width.ensures, c.requires.within, c.loop-end-test.true, l.invariant.within) in
    rw (all, c.joined-longer.ensures) (high_fits s.number s.taken c.args.count middle c.args.bits c.requires.reader.fits c.requires.fits (omega (arith, c.loop-end-test.true, l.invariant.within)))

pub returns-clause-refuses : goal.returns-clause-refuses
returns-clause-refuses g c =
    let s = c.args.self.now in
    let l = c.loop-end in
    let i = l.invariant in
    let next : l.end ≡ l.more + 1 = omega (arith, c.loop-end-test.false, i.some) in
    let none = subst (λ (k : ℕ). Starts (g.R.Rest.left s.rest) c.args.var (width c.args.var - (s.taken + k)) (s.number * 2 ^ k + c.args.bits / 2 ^ (c.args.count - k)) → ⊥) next i.none in
    refuses_at (g.R.Rest.left s.rest) (g.met.R.Rest.regular s.rest) c.args.var (g.met.R.Rest.begins_with s.rest c.args.var c.requires.next) s.number s.taken c.args.count c.args.bits l.more c.requires.within c.requires.reader.fits c.requires.fits (omega (arith, i.some, i.within)) i.starts none
