use Rattle.std.proofs.Common.{◌≡◌, ℕ, ◌<◌, map, refl, sym, ap, ◌∙◌, arith, Some}
use Rattle.std.proofs.lemmas.List.{take_all}
use Rattle.etcs_packet_text.specs.Show.{hex_digits}
use Rattle.etcs_json_trees.specs.Digits.{lower}
use Rattle.etcs_json_trees.proofs.DigitLemmas.{hex_room, not_digit, one_hex}
use Rattle.etcs_json_trees.proofs.hexadecimal.hex_number.Goals as goal

pub overflow_mul-number : goal.overflow_mul-number
overflow_mul-number c =
    let room = hex_room c.loop-digit.digit-index c.loop-digit.number (omega arith) c.loop-digit.invariant.1 in
    omega (arith, room)

pub overflow_add-number : goal.overflow_add-number
overflow_add-number c =
    let room = hex_room c.loop-digit.digit-index c.loop-digit.number (omega arith) c.loop-digit.invariant.1 in
    omega (arith, room, c.from.ensures, c.in_ok-digit_value.ensures.some)

pub returns-in_err-digit_value-clause-only : goal.returns-in_err-digit_value-clause-only
returns-in_err-digit_value-clause-only c = λ n small e.
    absurd (not_digit c.args.text.now 16 c.loop-digit.digit-index n _ (omega arith) refl e (λ d s k. (let f = c.in_err-digit_value.ensures.only d s k in absurd cc)))

pub returns-clause-only : goal.returns-clause-only
returns-clause-only c = λ n small e.
    (let all = take_all c.loop-digit.digit-index c.args.text.now (omega arith) in
    let sixteen : c.loop-digit.digit-index ≡ 16 = omega arith in
    let here : map lower c.args.text.now ≡ hex_digits 16 c.loop-digit.number = sym (ap (map lower) all) ∙ c.loop-digit.invariant.0 ∙ ap (λ (k : ℕ). hex_digits k c.loop-digit.number) sixteen in
    let below : c.loop-digit.number < 18446744073709551616 = omega arith in
    let same = one_hex 16 c.loop-digit.number n below small (sym here ∙ e) in
    ap Some same)
