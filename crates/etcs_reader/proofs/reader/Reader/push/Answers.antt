use Rattle.std.proofs.Common.{◌≡◌, ◌≤◌, ◌++◌, length, take, sym, subst, ◌∙◌, arith}
use Rattle.std.proofs.lemmas.Result.{err_from_is_err_and}
use Rattle.etcs_bits.specs.Bits.{bits, part}
use Rattle.etcs_bits.proofs.Positions.{length-bits}
use Rattle.etcs_reader.specs.Readers.{Passed, part_of}
use Rattle.etcs_reader.proofs.Passing.{passed_along, front_of, takes_all, halts_after, halts_within}
use Rattle.etcs_reader.proofs.reader.Reader.push.Goals as goal

pub overflow_mul-end : goal.overflow_mul-end
overflow_mul-end g c = omega (arith, length-bits c.args.piece.now, c.requires.small)

pub loop-at-init : goal.loop-at-init
loop-at-init g c = record { reader = c.requires.reader; within = omega (arith, length-bits c.args.piece.now, c.requires.inside); passed = λ s b f. f }

pub returns-in_default-clause-ok : goal.returns-in_default-clause-ok
returns-in_default-clause-ok g c s b f =
    let within : c.loop-at.at ≤ length (bits c.args.piece.now) = omega (arith, length-bits c.args.piece.now, c.loop-at.invariant.within) in
    let none = sym c.var.ensures ∙ c.in_default.is in
    takes_all g.R.Rest.left g.met.R.Rest.regular g.R.Rest.next g.met.R.Rest.begins_with g.met.R.Rest.ended g.R.Rest.follows g.met.R.Rest.residual s b c.loop-at.self (bits c.args.piece.now) c.loop-at.at (c.loop-at.invariant.passed s b f) c.loop-at.invariant.reader within (λ x e. absurd (let no = sym none ∙ e in cc))

pub returns-in_default-clause-within : goal.returns-in_default-clause-within
returns-in_default-clause-within g c = omega (arith, length-bits c.args.piece.now, c.loop-at.invariant.within)

pub advance-requires-clause-inside : goal.advance-requires-clause-inside
advance-requires-clause-inside g c = omega (arith, length-bits c.args.piece.now, c.loop-at-test.true)

pub returns-in_err-at-clause-err : goal.returns-in_err-at-clause-err
returns-in_err-at-clause-err g c =
    let p = err_from_is_err_and c.from_residual.result c.from_residual.ensures.1 in
    let within : c.loop-at.at ≤ length (bits c.args.piece.now) = omega (arith, length-bits c.args.piece.now, c.loop-at-test.true) in
    rw (p.1, p.2)
    (λ s b f. halts_after g.R.Rest.left g.met.R.Rest.regular g.R.Rest.next g.R.Rest.follows g.met.R.Rest.residual g.met.R.Rest.both g.R.Rest.fails s b c.loop-at.self c.advance.new.self (bits c.args.piece.now) c.loop-at.at (c.loop-at.invariant.passed s b f) within c.in_err-at.field-0.0 c.in_err-at.ensures.err)

pub returns-in_err-at-clause-within : goal.returns-in_err-at-clause-within
returns-in_err-at-clause-within g c =
    let p = err_from_is_err_and c.from_residual.result c.from_residual.ensures.1 in
    let within : c.loop-at.at ≤ length (bits c.args.piece.now) = omega (arith, length-bits c.args.piece.now, c.loop-at-test.true) in
    rw (p.1, p.2) (halts_within g.R.Rest.left g.R.Rest.next g.R.Rest.follows g.R.Rest.fails c.loop-at.self c.advance.new.self (bits c.args.piece.now) c.loop-at.at within c.in_err-at.field-0.0 c.in_err-at.ensures.err)

pub loop-at-preserved : goal.loop-at-preserved
loop-at-preserved g c =
    let m = c.loop-at.self in
    let n = c.advance.new.self in
    let xs = bits c.args.piece.now in
    let e = c.in_ok-at.ensures.ok in
    record {
      reader = e.reader;
      within = omega (arith, e.inside, length-bits c.args.piece.now);
      passed = λ s b f.
          let further = passed_along (λ p. g.R.Rest.follows s p m.rest) (λ p. g.R.Rest.follows m.rest p n.rest) (λ p. g.R.Rest.follows s p n.rest) (g.met.R.Rest.both s m.rest n.rest) (b ++ take c.loop-at.at xs) (part_of m) (part_of n) (part c.loop-at.at c.in_ok-at.field-0 xs) (c.loop-at.invariant.passed s b f) e.passed in
          subst (λ t. Passed (λ p. g.R.Rest.follows s p n.rest) t (part_of n)) (front_of b xs c.loop-at.at c.in_ok-at.field-0) further;
    }

pub returns-clause-ok : goal.returns-clause-ok
returns-clause-ok g c s b f =
    let within : c.loop-at.at ≤ length (bits c.args.piece.now) = omega (arith, length-bits c.args.piece.now, c.loop-at.invariant.within) in
    let all : c.loop-at.at ≡ length (bits c.args.piece.now) = omega (arith, length-bits c.args.piece.now, c.loop-at.invariant.within, c.loop-at-test.false) in
    takes_all g.R.Rest.left g.met.R.Rest.regular g.R.Rest.next g.met.R.Rest.begins_with g.met.R.Rest.ended g.R.Rest.follows g.met.R.Rest.residual s b c.loop-at.self (bits c.args.piece.now) c.loop-at.at (c.loop-at.invariant.passed s b f) c.loop-at.invariant.reader within (λ x e. all)

pub returns-clause-within : goal.returns-clause-within
returns-clause-within g c = omega (arith, length-bits c.args.piece.now, c.loop-at.invariant.within)
