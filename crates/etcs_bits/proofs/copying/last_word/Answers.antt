use Rattle.std.proofs.Common.{◌≡◌, ◌*◌, length, take, ap, ◌∙◌, arith}
use Rattle.std.proofs.lemmas.List.{take_all}
use Rattle.etcs_bits.specs.Bits.{value, bits}
use Rattle.etcs_bits.proofs.Positions.{length-bits}
use Rattle.etcs_bits.proofs.NextWords.{last_more, moved, no_bits}
use Rattle.etcs_bits.proofs.copying.last_word.Goals as goal

pub loop-byte-init : goal.loop-byte-init
loop-byte-init c = no_bits

pub loop-byte-preserved : goal.loop-byte-preserved
loop-byte-preserved c =
    let bytes = c.args.bytes.now in
    let i = c.loop-byte.byte-index in
    last_more bytes i c.loop-byte.word c.from.result c.loop-byte-test.true c.requires.most c.loop-byte.invariant c.from.ensures (omega (arith, c.from.ensures, c.type_inv.bytes i))

pub returns : goal.returns
returns c =
    let bytes = c.args.bytes.now in
    let all : take c.loop-byte.byte-index bytes ≡ bytes = take_all c.loop-byte.byte-index bytes (omega (arith, c.loop-byte-test.false)) in
    moved c.loop-byte.word (8 * length bytes) (bits bytes) (omega (arith, c.requires.most)) (length-bits bytes) (c.loop-byte.invariant ∙ ap (λ l. value (bits l)) all)
