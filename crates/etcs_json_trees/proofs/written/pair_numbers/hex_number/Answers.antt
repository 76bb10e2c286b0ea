use Rattle.std.proofs.Common.{ℕ, ◌+◌, ◌*◌, ◌^◌, ◌<◌, arith, ap, sym, subst, ◌∙◌}
use Rattle.etcs_packet_text.specs.Show.{hex_digits}
use Rattle.etcs_json_trees.proofs.HexTexts.{hex_room, not_digit, hex_more, room_more, all_digits}
use Rattle.etcs_json_trees.proofs.written.pair_numbers.hex_number.Goals as goal

pub overflow_mul-number : goal.overflow_mul-number
overflow_mul-number c =
    let room = hex_room c.loop-digit.digit-index c.loop-digit.number (omega arith) c.loop-digit.invariant.1 in
    omega (arith, room)

pub overflow_add-number : goal.overflow_add-number
overflow_add-number c =
    let room = hex_room c.loop-digit.digit-index c.loop-digit.number (omega arith) c.loop-digit.invariant.1 in
    omega (arith, room, c.from.ensures, c.in_ok-digit_value.ensures.some)

pub returns-in_err-digit_value-clause-none : goal.returns-in_err-digit_value-clause-none
returns-in_err-digit_value-clause-none c =
    rw c.from_residual.ensures (λ n e. not_digit c.args.text.now c.loop-digit.digit-index n (omega arith) e c.in_err-digit_value.ensures.none)

pub loop-digit-preserved : goal.loop-digit-preserved
loop-digit-preserved c =
    let l = c.loop-digit in
    let d = c.in_ok-digit_value.field-0 in
    let known = c.in_ok-digit_value.ensures.some in
    let same = c.from.ensures in (
      hex_more l.digit-index l.number d c.args.text.now known.0 (omega arith) l.invariant.0 known.1 ∙ ap (λ (x : ℕ). hex_digits (l.digit-index + 1) (l.number * 16 + x)) (sym same),
      subst (λ (x : ℕ). l.number * 16 + x < 16 ^ (l.digit-index + 1)) (sym same) (room_more l.digit-index l.number d known.0 l.invariant.1),
    )

pub returns-clause-some : goal.returns-clause-some
returns-clause-some c = (omega arith, all_digits c.loop-digit.digit-index c.loop-digit.number c.args.text.now c.requires c.loop-digit-test.false c.loop-digit.auto.digit-index-end c.loop-digit.invariant.0)
