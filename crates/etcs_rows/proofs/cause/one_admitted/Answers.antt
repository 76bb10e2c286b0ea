use Rattle.std.proofs.Common.{◌≡◌, ℕ, ◌+◌, ◌-◌, ◌*◌, ◌/◌, ◌^◌, List, true, sym, ap, subst, ◌∙◌, arith, inl, inr}
use Rattle.std.specs.Prelude.{IsTrue}
use Rattle.std.proofs.lemmas.Bool.{both_ways}
use Rattle.etcs_vars.specs.declared.var.Var.{Var}
use Rattle.etcs_vars.specs.Vars.{width, ranges, admits, begins}
use Rattle.etcs_vars.proofs.Prefixes.{begins_some, begins_from, admits_parts, admits_by_ranges, ranges_ordered}
use Rattle.etcs_reader.proofs.BlockLaws.{fits_more, front_more, either_half}
use Rattle.etcs_rows.proofs.cause.one_admitted.Goals as goal

-- where it isn't zero it is one
other : (v : Var) (k b : ℕ) → begins (ranges v) (k + 1) b ≡ true → (begins (ranges v) k (b * 2) ≡ true → ⊥) → begins (ranges v) k (b * 2 + 1) ≡ true
other v k b h none =
    let (n, i, e) = begins_some (ranges v) (k + 1) b (ranges_ordered v) h in
    let f = begins_from (ranges v) k n i in
    elim (either_half n k b e) [
      | inl zero ↦ absurd (none (subst (λ (j : ℕ). begins (ranges v) k j ≡ true) zero f))
      | inr one ↦ subst (λ (j : ℕ). begins (ranges v) k j ≡ true) one f
    ]

pub returns-then-not-begins : goal.returns-then-not-begins
returns-then-not-begins c n e a =
    let v = c.args.var in
    let t : begins (ranges v) c.args.rest c.args.bits ≡ true = ap (λ (b : ℕ). begins (ranges v) c.args.rest b) (sym e) ∙ begins_from (ranges v) c.args.rest n (admits_parts v n a).0 in
    both_ways c.begins.result c.if-not-begins.true (c.begins.ensures ∙ ap (λ (rs : List (ℕ × ℕ)). begins rs c.args.rest c.args.bits) c.ranges-2.ensures ∙ t)

pub loop-more-preserved-then-not-begins-2 : goal.loop-more-preserved-then-not-begins-2
loop-more-preserved-then-not-begins-2 c =
    let l = c.loop-more in
    let i = l.invariant in
    let v = c.args.var in
    let k = l.more - 1 in
    let next : k + 1 ≡ l.more = omega (arith, c.loop-more-test.true) in
    let is = c.begins-in-loop-more.ensures ∙ ap (λ (rs : List (ℕ × ℕ)). begins rs k (l.number * 2)) c.ranges-in-loop-more.ensures in
    record {
      within = omega (arith, i.within);
      fits = fits_more (width v) l.more k l.number next (omega (arith, i.within, c.requires.rest)) i.fits;
      front = front_more c.args.rest l.more k l.number c.args.bits (l.number * 2 + 1) next i.within i.front (omega arith);
      starts = other v k l.number (subst (λ (j : ℕ). begins (ranges v) j l.number ≡ true) (sym next) i.starts) (λ t. both_ways c.begins-in-loop-more.result c.if-not-begins-2.true (is ∙ t));
    }

pub loop-more-preserved : goal.loop-more-preserved
loop-more-preserved c =
    let l = c.loop-more in
    let i = l.invariant in
    let v = c.args.var in
    let k = l.more - 1 in
    let next : k + 1 ≡ l.more = omega (arith, c.loop-more-test.true) in
    let is = c.begins-in-loop-more.ensures ∙ ap (λ (rs : List (ℕ × ℕ)). begins rs k (l.number * 2)) c.ranges-in-loop-more.ensures in
    record {
      within = omega (arith, i.within);
      fits = (let f = fits_more (width v) l.more k l.number next (omega (arith, i.within, c.requires.rest)) i.fits in omega (arith, f));
      front = front_more c.args.rest l.more k l.number c.args.bits (l.number * 2) next i.within i.front (omega arith);
      starts = sym is ∙ c.if-not-begins-2.false;
    }

pub returns : goal.returns
returns c =
    let l = c.loop-more in
    let i = l.invariant in
    let v = c.args.var in
    let none : l.more ≡ 0 = omega (arith, c.loop-more-test.false) in
    let all : c.args.rest - l.more ≡ c.args.rest = omega (arith, none) in
    let (n, inside, e) = begins_some (ranges v) l.more l.number (ranges_ordered v) i.starts in
    let one : n / 2 ^ 0 ≡ n = omega arith in
    let same : n ≡ l.number = sym one ∙ ap (λ (j : ℕ). n / 2 ^ j) (sym none) ∙ e in
    (ap (λ (j : ℕ). l.number / 2 ^ j) (sym all) ∙ i.front, subst (λ (j : ℕ). IsTrue (admits v j)) same (admits_by_ranges v n ∙ inside))
