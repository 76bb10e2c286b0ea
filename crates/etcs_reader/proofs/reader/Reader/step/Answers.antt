use Rattle.std.proofs.Common.{◌≡◌, ◌+◌, ◌-◌, ◌<◌, ◌≤◌, [], ◌∷◌, drop, refl, arith}
use Rattle.std.proofs.lemmas.List.{length-drop}
use Rattle.etcs_bits.specs.Bits.{bits, num, part}
use Rattle.etcs_bits.proofs.Numbers.{length-num}
use Rattle.etcs_bits.proofs.Positions.{length-bits}
use Rattle.etcs_vars.specs.Vars.{width}
use Rattle.etcs_vars.proofs.Stepping.{parts_fit}
use Rattle.etcs_reader.proofs.Parts.{high_fits, unfinished_none, unfinished_more, passed_none, passed_more, passed_front, passed_whole, goes_after, refuses_front, starts_with, unfinished_owner}
use Rattle.etcs_reader.proofs.reader.Reader.step.Goals as goal

pub overflow_mul-piece : goal.overflow_mul-piece
overflow_mul-piece g c = omega (arith, length-bits c.args.piece.now, c.requires.small)

pub overflow_sub-piece : goal.overflow_sub-piece
overflow_sub-piece g c = omega (arith, length-bits c.args.piece.now, c.requires.inside)

pub number_at-bits-requires-clause-inside : goal.number_at-bits-requires-clause-inside
number_at-bits-requires-clause-inside g c = omega (arith, length-bits c.args.piece.now, c.requires.inside, c.min-count.ensures)

pub begins-requires-clause-rest : goal.begins-requires-clause-rest
begins-requires-clause-rest g c =
    let lt = (c.requires.reader.inside c.args.var c.requires.next).0 in
    omega (arith, length-bits c.args.piece.now, c.requires.inside, c.min-count.ensures, c.width.ensures, lt)

pub begins-requires-clause-fits : goal.begins-requires-clause-fits
begins-requires-clause-fits g c =
    let s = c.args.self.now in
    let lt = (c.requires.reader.inside c.args.var c.requires.next).0 in
    let all : width c.args.var - (c.width.result - s.taken - c.min-count.result) ≡ s.taken + c.min-count.result = omega (arith, c.width.ensures, c.min-count.ensures, lt) in
    rw (all, c.joined-number.ensures) (parts_fit s.taken c.min-count.result s.number c.number_at-bits.result c.requires.reader.fits c.number_at-bits.ensures.fits)

pub overflow_add-result : goal.overflow_add-result
overflow_add-result g c = omega (arith, length-bits c.args.piece.now, c.requires.small, c.refused-more.ensures.within, c.min-count.ensures)

pub returns-then-not-begins-clause-err : goal.returns-then-not-begins-clause-err
returns-then-not-begins-clause-err g c =
    let s = c.args.self.now in
    let xs = drop c.args.at (bits c.args.piece.now) in
    let more = c.refused-more.result.0 in
    let lt = (c.requires.reader.inside c.args.var c.requires.next).0 in
    let front = passed_front (λ p. g.R.Rest.follows s.rest p s.rest) (g.met.R.Rest.none s.rest) s.number s.taken c.min-count.result c.number_at-bits.result more xs c.number_at-bits.ensures.fits (omega (arith, c.refused-more.ensures.within)) c.number_at-bits.ensures.bits in (
      more,
      refl,
      record {
        refuses = refuses_front (g.R.Rest.left s.rest) s.number s.taken c.min-count.result c.number_at-bits.result xs more c.args.var c.number_at-bits.ensures.bits c.refused-more.ensures.refuses;
        passed = rw c.refused-more.ensures.number front;
        here = c.requires.next;
        short = omega (arith, length-num (s.taken + more) c.refused-more.result.1, c.refused-more.ensures.within, c.min-count.ensures, c.width.ensures, lt);
        goes = c.requires.reader.goes;
      },
    )

pub returns-then-rest-gt0-clause-ok : goal.returns-then-rest-gt0-clause-ok
returns-then-rest-gt0-clause-ok g c =
    let s = c.args.self.now in
    let xs = bits c.args.piece.now in
    let lt = (c.requires.reader.inside c.args.var c.requires.next).0 in
    let short : s.taken + c.min-count.result < width c.args.var = omega (arith, c.if-rest-gt0.true, c.width.ensures) in
    let same : c.width.result - s.taken - c.min-count.result ≡ width c.args.var - (s.taken + c.min-count.result) = omega (arith, c.width.ensures) in
    let starts = rw (same, c.joined-number.ensures) at (c.begins.ensures.0 c.if-not-begins.false) in
    let more = passed_more (λ p. g.R.Rest.follows s.rest p s.rest) (g.met.R.Rest.none s.rest) s.number s.taken c.min-count.result c.number_at-bits.result (part c.args.at c.min-count.result xs) c.number_at-bits.ensures.fits c.number_at-bits.ensures.bits in
    record {
      reader = rw c.joined-number.ensures (unfinished_more (g.R.Rest.left s.rest) (g.R.Rest.next s.rest) c.args.var c.requires.next s.number s.taken c.min-count.result c.number_at-bits.result c.requires.reader.fits c.number_at-bits.ensures.fits short starts);
      some = omega (arith, length-bits c.args.piece.now, c.requires.inside, c.min-count.ensures, c.width.ensures, lt);
      inside = omega (arith, length-bits c.args.piece.now, c.requires.inside, c.min-count.ensures);
      passed = rw c.joined-number.ensures more;
    }

pub returns-in-Ok-clause-ok : goal.returns-in-Ok-clause-ok
returns-in-Ok-clause-ok g c =
    let s = c.args.self.now in
    let xs = bits c.args.piece.now in
    let new = c.pass.new.self in
    let lt = (c.requires.reader.inside c.args.var c.requires.next).0 in
    let none : c.width.result - s.taken - c.min-count.result ≡ 0 = omega (arith, c.if-rest-gt0.false) in
    let whole : s.taken + c.min-count.result ≡ width c.args.var = omega (arith, c.if-rest-gt0.false, c.width.ensures, lt, c.min-count.ensures) in
    let residual = g.met.R.Rest.residual s.rest new ((c.args.var, c.joined-number.result) ∷ []) c.in-Ok.ensures.ok in
    let goes = goes_after (g.R.Rest.left s.rest) (g.R.Rest.left new) c.args.var c.joined-number.result (c.width.result - s.taken - c.min-count.result) none residual (c.begins.ensures.0 c.if-not-begins.false) in
    let follows = rw c.joined-number.ensures at c.in-Ok.ensures.ok in
    record {
      reader = unfinished_none (g.R.Rest.left new) (g.met.R.Rest.regular new) (g.R.Rest.next new) (g.met.R.Rest.begins_with new) goes;
      some = omega (arith, length-bits c.args.piece.now, c.requires.inside, c.min-count.ensures, c.width.ensures, lt);
      inside = omega (arith, length-bits c.args.piece.now, c.requires.inside, c.min-count.ensures);
      passed = passed_whole (λ p. g.R.Rest.follows s.rest p new) c.args.var s.number s.taken c.min-count.result c.number_at-bits.result (part c.args.at c.min-count.result xs) follows c.number_at-bits.ensures.fits c.number_at-bits.ensures.bits whole;
    }

pub returns-in-Err-clause-err : goal.returns-in-Err-clause-err
returns-in-Err-clause-err g c =
    let s = c.args.self.now in
    let xs = drop c.args.at (bits c.args.piece.now) in
    let lt = (c.requires.reader.inside c.args.var c.requires.next).0 in
    let rest : c.width.result - s.taken - c.min-count.result ≡ width c.args.var - (s.taken + c.min-count.result) = omega (arith, c.width.ensures) in
    let within : s.taken + c.min-count.result ≤ width c.args.var = omega (arith, c.width.ensures, lt, c.min-count.ensures) in
    let some : 0 < c.min-count.result = omega (arith, length-bits c.args.piece.now, c.requires.inside, c.min-count.ensures, c.width.ensures, lt) in
    let starts = rw c.joined-number.ensures at (c.begins.ensures.0 c.if-not-begins.false) in (
      0,
      (omega arith),
      record {
        within = omega (arith, length-drop c.args.at (bits c.args.piece.now), c.requires.inside);
        viable = starts_with (g.R.Rest.left s.rest) (g.met.R.Rest.regular s.rest) c.args.var (g.met.R.Rest.begins_with s.rest c.args.var c.requires.next) s.number s.taken c.min-count.result c.number_at-bits.result (c.width.result - s.taken - c.min-count.result) xs starts c.number_at-bits.ensures.fits c.number_at-bits.ensures.bits within rest some;
        place = s.rest;
        part = num s.taken s.number;
        passed = passed_none (λ p. g.R.Rest.follows s.rest p s.rest) (g.met.R.Rest.none s.rest) (num s.taken s.number) xs;
        here = c.in-Err.ensures.err;
        holder = c.args.var;
        begins = g.met.R.Rest.begins_with s.rest c.args.var c.requires.next;
        owned = unfinished_owner (g.R.Rest.left s.rest) (g.met.R.Rest.regular s.rest) (g.R.Rest.next s.rest) (g.met.R.Rest.begins_with s.rest) s.number s.taken c.requires.reader c.args.var c.requires.next;
      },
    )

pub returns-then-not-begins-clause-fits : goal.returns-then-not-begins-clause-fits
returns-then-not-begins-clause-fits g c =
    let s = c.args.self.now in
    rw c.refused-more.ensures.number (high_fits s.number s.taken c.min-count.result c.refused-more.result.0 c.number_at-bits.result c.requires.reader.fits c.number_at-bits.ensures.fits (omega (arith, c.refused-more.ensures.within)))

pub returns-then-rest-gt0-clause-fits : goal.returns-then-rest-gt0-clause-fits
returns-then-rest-gt0-clause-fits g c =
    let s = c.args.self.now in
    rw c.joined-number.ensures (parts_fit s.taken c.min-count.result s.number c.number_at-bits.result c.requires.reader.fits c.number_at-bits.ensures.fits)
