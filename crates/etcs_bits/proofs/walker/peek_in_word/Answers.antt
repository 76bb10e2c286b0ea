use Rattle.std.proofs.Common.{◌+◌, ◌-◌, ◌*◌, ◌≤◌, length, take, drop, refl, sym, ap, ◌∙◌, arith}
use Rattle.std.proofs.lemmas.List.{length-take, length-drop}
use Rattle.etcs_bits.specs.Bits.{bits, value}
use Rattle.etcs_bits.proofs.Positions.{length-bits, number_inside}
use Rattle.etcs_bits.proofs.Steps.{part-rest}
use Rattle.etcs_bits.proofs.Words.{word_read}
use Rattle.etcs_bits.proofs.walker.peek_in_word.Goals as goal

pub returns : goal.returns
returns c =
    let bytes = c.args.bytes.now in
    let at = c.args.at in
    let offset = c.args.offset in
    let width = c.args.width in
    let rest = take (length bytes - at) (drop at bytes) in
    let long : 8 ≤ length rest = omega (arith, length-take (length bytes - at) (drop at bytes), length-drop at bytes) in
    let found = word_read rest c.first_word.result offset width long (omega arith) c.first_word.ensures ∙ ap value (part-rest bytes at (8 * at + offset) offset width refl) in
    sym (number_inside (8 * at + offset) width (bits bytes) _ (omega (arith, length-bits bytes)) found)
