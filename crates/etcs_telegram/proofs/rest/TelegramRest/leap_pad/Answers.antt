use Rattle.std.proofs.Common.{◌≡◌, [], false, refl, sym, ap, ◌∙◌, arith}
use Rattle.std.specs.Prelude.{replicate}
use Rattle.etcs_bits.specs.Bits.{num}
use Rattle.etcs_bits.proofs.Positions.{length-bits}
use Rattle.etcs_vars.specs.declared.var.Var.TheVariants.{PAD}
use Rattle.etcs_vars.specs.Reading.{kept}
use Rattle.etcs_sequence.specs.laws.BitLaws.{bits_spelled}
use Rattle.etcs_telegram.proofs.Ones.{num-zeros}
use Rattle.etcs_telegram.proofs.RestSteps.{pad_parts}
use Rattle.etcs_telegram.proofs.RestHolds.{whole_pad}
use Rattle.etcs_telegram.proofs.rest.TelegramRest.leap_pad.Goals as goal

pub overflow_mul-piece : goal.overflow_mul-piece
overflow_mul-piece g c = omega (arith, c.requires.small, length-bits c.args.piece.now)

pub overflow_sub-piece : goal.overflow_sub-piece
overflow_sub-piece g c = omega (arith, c.requires.inside, length-bits c.args.piece.now)

pub number_at-requires-clause-inside : goal.number_at-requires-clause-inside
number_at-requires-clause-inside g c = omega (arith, c.requires.inside, c.if-piece-at.false, length-bits c.args.piece.now)

pub returns-clause-some : goal.returns-clause-some
returns-clause-some g c =
    let v = c.self.view_is in
    let left = c.args.left in
    let zeros = replicate left false in
    let none : c.number_at.result ≡ 0 = (let t = c.if-number_at-gt0.false in omega (arith, t)) in
    record {
      some = pad_parts c.args.self.now left c.requires.phase;
      inside = omega (arith, c.requires.inside, c.if-piece-at.false, length-bits c.args.piece.now);
      goes = ([], refl);
      whole = kept PAD zeros;
      follows = rw (← v) (whole_pad _ _ _ left (rw (← v) at c.requires.phase));
      bits = bits_spelled PAD zeros refl ∙ sym (num-zeros left) ∙ ap (num left) (sym none) ∙ c.number_at.ensures.bits;
    }
