use Rattle.std.proofs.Common.{◌≡◌, ◌∙◌, ◌-◌, ◌+◌, ap, sym, arith, [], length, drop}
use Rattle.std.specs.Prelude.{IsTrue}
use Rattle.etcs_bits.specs.Bits.{bits}
use Rattle.etcs_bits.proofs.Positions.{length-bits}
use Rattle.etcs_tables.specs.Frames.{is_direction}
use Rattle.etcs_sequence.proofs.SeenLemmas.{passed_framed}
use Rattle.etcs_sequence.proofs.seen.pass_whole.Goals as goal

pub overflow_mul-piece : goal.overflow_mul-piece
overflow_mul-piece g c = omega (arith, c.requires.small, length-bits c.args.piece.now)

pub overflow_sub-piece : goal.overflow_sub-piece
overflow_sub-piece g c = omega (arith, c.requires.inside, length-bits c.args.piece.now)

pub returns-clause-passed : goal.returns-clause-passed
returns-clause-passed g c = λ found.
    (let on = rw c.in-Some.is at c.in_ok-passed.ensures.passed in
    let directed : IsTrue (is_direction g.P.AnyPacket.WAY c.args.dir) = ap (λ w. is_direction w c.args.dir) (sym c.WAY.ensures) ∙ sym c.is_direction.ensures ∙ c.if-not-is_direction.false in
    let xs = bits c.args.piece.now in
    let left : length (drop c.pass.new.numbers.place c.pass.new.numbers.bits) ≡ length xs - (c.args.at + c.args.len) = sym c.left.ensures ∙ c.if-left-piece.false ∙ ap (λ n. n - (c.args.at + c.args.len)) (sym (length-bits c.args.piece.now)) in
    passed_framed g.P.AnyPacket.WAY c.args.nid c.args.dir _ xs _ c.args.at c.args.len _ _ c.requires.inside left c.if-len-gt-ROW_LIMIT.false directed (rw c.from-numbers.ensures at on.passed c.if-not-passed.false))
