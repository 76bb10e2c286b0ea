use Rattle.std.proofs.Common.{◌≡◌, ℕ, List, ◌++◌, sym, ap, subst, ◌∙◌, arith}
use Rattle.etcs_bits.specs.Bits.{bits}
use Rattle.etcs_bits.proofs.Positions.{length-bits}
use Rattle.etcs_rows.specs.Entries.{differing, ListIn}
use Rattle.etcs_rows.proofs.speeds.differing_at.Goals as goal

pub overflow_mul-piece : goal.overflow_mul-piece
overflow_mul-piece c = omega (arith, c.requires.small, length-bits c.args.piece.now)

pub overflow_sub-piece : goal.overflow_sub-piece
overflow_sub-piece c = omega (arith, c.requires.inside, length-bits c.args.piece.now)

pub take_differing-requires-clause-inside : goal.take_differing-requires-clause-inside
take_differing-requires-clause-inside c = omega (arith, c.requires.inside, c.if-piece-at-lt-DIFFERING_BITS.false, length-bits c.args.piece.now)

pub returns-then-take_differing-clause-taken : goal.returns-then-take_differing-clause-taken
returns-then-take_differing-clause-taken c =
    let t = c.take_differing.ensures.taken c.if-take_differing.true in
    let all : c.take_differing.new.numbers.items ≡ t.0 = t.1 ∙ ap (λ (l : List ℕ). l ++ t.0) c.requires.none in
    λ n. subst (λ (f : List ℕ). ListIn differing n (bits c.args.piece.now) c.args.at 13 f) (sym all) (t.2 n)
