use Rattle.std.proofs.Common.{◌≡◌, ◌*◌, ◌++◌, take, ap, ◌∙◌, arith}
use Rattle.std.specs.Int.{to_be_bytes, w64}
use Rattle.etcs_bits.specs.Bits.{bits}
use Rattle.etcs_bits.proofs.ByteBits.{bits-append}
use Rattle.etcs_bits.proofs.Owned.{bits-take}
use Rattle.etcs_bits.proofs.WordWrites.{bits-word}
use Rattle.etcs_bits.proofs.many.push_bytes.Goals as goal

pub returns-clause-bits : goal.returns-clause-bits
returns-clause-bits c =
    let word = c.args.word in
    let count = c.args.count in
    let old = c.args.bytes.now.items in
    let bytes = to_be_bytes w64 word in
    let made : c.extend_from_slice.new.self.items ≡ old ++ take count bytes = c.in-Ok.ensures.items ∙ ap (λ l. old ++ take count l) c.to_be_bytes.ensures in
    ap bits made
    ∙ bits-append old (take count bytes)
    ∙ ap (λ x. bits old ++ x) (bits-take bytes count (omega (arith, c.requires.count)) ∙ ap (take (8 * count)) (bits-word word (omega arith)))
