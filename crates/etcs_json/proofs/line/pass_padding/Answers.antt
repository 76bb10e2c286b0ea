use Rattle.std.proofs.Common.{arith}
use Rattle.etcs_bits.specs.Bits.{num}
use Rattle.etcs_bits.proofs.Numbers.{length-num}
use Rattle.etcs_json.proofs.TakenTexts.{padding_taken}
use Rattle.etcs_json.proofs.line.pass_padding.Goals as goal

pub returns : goal.returns
returns c =
    let count = c.in_ok-count.count in
    let padding = num count c.in_ok-count.padding in
    (padding, omega (arith, length-num count c.in_ok-count.padding, c.in_ok-count.ensures.count), padding_taken padding c.args.text.now c.pass.new.self c.padding.new.self c.pass-2.new.self c.in_ok-pass.ensures c.in_ok-count.ensures.bits c.in_ok-pass-2.ensures, rw c.from.ensures at c.in_ok-put.ensures)
