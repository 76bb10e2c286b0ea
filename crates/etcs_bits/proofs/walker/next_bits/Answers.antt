use Rattle.std.proofs.Common.{◌+◌, ◌-◌, ◌*◌, ◌/◌, ◌%◌, ◌^◌, ◌≤◌, length, take, drop, refl, ap, ◌∙◌, arith}
use Rattle.std.proofs.lemmas.List.{length-take, length-drop}
use Rattle.etcs_bits.specs.Bits.{value, bits}
use Rattle.etcs_bits.proofs.Steps.{part-rest}
use Rattle.etcs_bits.proofs.Words.{word_read}
use Rattle.etcs_bits.proofs.NextWords.{word_num}
use Rattle.etcs_bits.proofs.walker.next_bits.Goals as goal

pub returns : goal.returns
returns c from count most inside =
    let bytes = c.args.bytes.now in
    let at = c.args.at in
    let byte = at / 8 in
    let o = at % 8 in
    let n = from + count in
    let rest = take (length bytes - byte) (drop byte bytes) in
    let long : 8 ≤ length rest = omega (arith, length-take (length bytes - byte) (drop byte bytes), length-drop byte bytes) in
    let is = word_read rest c.first_word.result o n long (omega (arith, most)) c.first_word.ensures ∙ ap value (part-rest bytes byte at o n (omega arith)) in
    word_num (c.first_word.result * 2 ^ o % 2 ^ 64) (bits bytes) at n from count refl inside is
