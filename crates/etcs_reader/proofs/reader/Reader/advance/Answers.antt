use Rattle.std.proofs.Common.{drop, refl, arith}
use Rattle.std.proofs.lemmas.List.{length-drop}
use Rattle.etcs_bits.specs.Bits.{bits, num}
use Rattle.etcs_reader.proofs.Parts.{unfinished_leap, passed_none, passed_leap, viable_none, unfinished_owner}
use Rattle.etcs_reader.proofs.reader.Reader.advance.Goals as goal

pub returns-in-Ok-Some-clause-ok : goal.returns-in-Ok-Some-clause-ok
returns-in-Ok-Some-clause-ok g c =
    let s = c.args.self.now in
    let new = c.leap.new.self in
    let l = rw c.in-Ok-Some.field-0-is at c.in-Ok-Some.ensures.some in
    record {
      reader = unfinished_leap (g.R.Rest.left new) (g.met.R.Rest.regular new) (g.R.Rest.next new) (g.met.R.Rest.begins_with new) s.number s.taken c.requires.reader.fits c.if-self-gt0.false l.goes;
      some = l.some;
      inside = l.inside;
      passed = passed_leap (λ p. g.R.Rest.follows s.rest p new) (g.R.Rest.left new) s.number s.taken (bits c.args.piece.now) c.args.at c.in-Ok-Some.count c.if-self-gt0.false l;
    }

pub returns-in-Err-clause-err : goal.returns-in-Err-clause-err
returns-in-Err-clause-err g c =
    let s = c.args.self.now in
    let xs = drop c.args.at (bits c.args.piece.now) in (
      0,
      (omega arith),
      record {
        within = omega (arith, length-drop c.args.at (bits c.args.piece.now), c.requires.inside);
        viable = viable_none (g.R.Rest.left s.rest) s.number s.taken xs c.if-self-gt0.false c.in-Err.ensures.viable;
        place = s.rest;
        part = num s.taken s.number;
        passed = passed_none (λ p. g.R.Rest.follows s.rest p s.rest) (g.met.R.Rest.none s.rest) (num s.taken s.number) xs;
        here = c.in-Err.ensures.err;
        holder = c.args.var;
        begins = g.met.R.Rest.begins_with s.rest c.args.var c.requires.next;
        owned = unfinished_owner (g.R.Rest.left s.rest) (g.met.R.Rest.regular s.rest) (g.R.Rest.next s.rest) (g.met.R.Rest.begins_with s.rest) s.number s.taken c.requires.reader c.args.var c.requires.next;
      },
    )

pub returns-in-Ok-None-clause-err : goal.returns-in-Ok-None-clause-err
returns-in-Ok-None-clause-err g c =
    let same = (rw c.in-Ok-None.field-0-is at c.in-Ok-None.ensures.none) refl in
    rw same at c.whole.ensures.err
