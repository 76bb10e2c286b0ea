use Rattle.std.proofs.Common.{◌≡◌, ◌-◌, ◌^◌, ◌<◌, [], ◌∷◌, drop, refl, subst, arith}
use Rattle.std.proofs.lemmas.List.{length-drop}
use Rattle.etcs_bits.specs.Bits.{bits, num, part}
use Rattle.etcs_bits.proofs.Positions.{length-bits}
use Rattle.etcs_vars.specs.Vars.{width}
use Rattle.etcs_vars.proofs.Prefixes.{width-le, width_pos}
use Rattle.etcs_reader.proofs.Parts.{unfinished_leap, passed_none, passed_one, goes_after, starts_one, unfinished_owner}
use Rattle.etcs_reader.proofs.reader.Reader.whole.Goals as goal

pub overflow_mul-piece : goal.overflow_mul-piece
overflow_mul-piece g c = omega (arith, length-bits c.args.piece.now, c.requires.small)

pub overflow_sub-piece : goal.overflow_sub-piece
overflow_sub-piece g c = omega (arith, length-bits c.args.piece.now, c.requires.inside)

pub number_at-number-requires-clause-inside : goal.number_at-number-requires-clause-inside
number_at-number-requires-clause-inside g c = omega (arith, length-bits c.args.piece.now, c.requires.inside, c.if-piece-at.false)

pub number_at-number-requires-clause-width : goal.number_at-number-requires-clause-width
number_at-number-requires-clause-width g c = omega (arith, width-le c.args.var, c.width-width.ensures)

pub begins-requires-clause-rest : goal.begins-requires-clause-rest
begins-requires-clause-rest g c = width_pos c.args.var

pub begins-requires-clause-fits : goal.begins-requires-clause-fits
begins-requires-clause-fits g c =
    let all : c.width-width.result ≡ width c.args.var - 0 = (let w = c.width-width.ensures in omega (arith, w)) in
    subst (λ k. c.number_at-number.result < 2 ^ k) all c.number_at-number.ensures.fits

pub returns-in-Ok-clause-ok : goal.returns-in-Ok-clause-ok
returns-in-Ok-clause-ok g c =
    let s = c.args.self.now in
    let xs = bits c.args.piece.now in
    let new = c.pass.new.self in
    let residual = g.met.R.Rest.residual s.rest new ((c.args.var, c.number_at-number.result) ∷ []) c.in-Ok.ensures.ok in
    let goes = goes_after (g.R.Rest.left s.rest) (g.R.Rest.left new) c.args.var c.number_at-number.result 0 refl residual (c.begins.ensures.0 c.if-not-begins.false) in
    let b = subst (λ k. num k c.number_at-number.result ≡ part c.args.at c.width-width.result xs) c.width-width.ensures c.number_at-number.ensures.bits in
    record {
      reader = unfinished_leap (g.R.Rest.left new) (g.met.R.Rest.regular new) (g.R.Rest.next new) (g.met.R.Rest.begins_with new) s.number s.taken c.requires.reader.fits c.requires.none goes;
      some = (let pos = width_pos c.args.var in omega (arith, pos, c.width-width.ensures));
      inside = omega (arith, length-bits c.args.piece.now, c.requires.inside, c.if-piece-at.false);
      passed = passed_one (λ p. g.R.Rest.follows s.rest p new) c.args.var c.number_at-number.result s.number s.taken (part c.args.at c.width-width.result xs) c.requires.none c.in-Ok.ensures.ok b;
    }

pub returns-in-Err-clause-err : goal.returns-in-Err-clause-err
returns-in-Err-clause-err g c =
    let s = c.args.self.now in
    let xs = drop c.args.at (bits c.args.piece.now) in (
      0,
      (omega arith),
      record {
        within = omega (arith, length-drop c.args.at (bits c.args.piece.now), c.requires.inside);
        viable = starts_one (g.R.Rest.left s.rest) (g.met.R.Rest.regular s.rest) c.args.var (g.met.R.Rest.begins_with s.rest c.args.var c.requires.next) s.number s.taken c.number_at-number.result xs c.requires.none (c.begins.ensures.0 c.if-not-begins.false) (subst (λ k. num k c.number_at-number.result ≡ part c.args.at k (bits c.args.piece.now)) c.width-width.ensures c.number_at-number.ensures.bits);
        place = s.rest;
        part = num s.taken s.number;
        passed = passed_none (λ p. g.R.Rest.follows s.rest p s.rest) (g.met.R.Rest.none s.rest) (num s.taken s.number) xs;
        here = c.in-Err.ensures.err;
        holder = c.args.var;
        begins = g.met.R.Rest.begins_with s.rest c.args.var c.requires.next;
        owned = unfinished_owner (g.R.Rest.left s.rest) (g.met.R.Rest.regular s.rest) (g.R.Rest.next s.rest) (g.met.R.Rest.begins_with s.rest) s.number s.taken c.requires.reader c.args.var c.requires.next;
      },
    )
