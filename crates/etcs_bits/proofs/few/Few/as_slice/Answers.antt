use Rattle.std.proofs.Common.{◌≡◌, ◌*◌, ◌≤◌, length, take, arith, ◌∙◌, ap}
use Rattle.std.proofs.lemmas.List.{length-take, take-take}
use Rattle.etcs_bits.specs.Bits.{bits}
use Rattle.etcs_bits.proofs.Inline.{length-kept}
use Rattle.etcs_bits.proofs.Owned.{bits-take}
use Rattle.etcs_bits.proofs.Positions.{length-bits}
use Rattle.etcs_bits.proofs.few.Few.as_slice.Goals as goal

pub whole-requires : goal.whole-requires
whole-requires c =
    let bytes = c.self.inside.bytes in
    let count = c.div_ceil.result in
    omega (arith, c.len-len.ensures.most, c.self.told, c.div_ceil.ensures, length-bits (take count bytes), length-take count bytes)

pub returns : goal.returns
returns c =
    let bytes = c.self.inside.bytes in
    let count = c.div_ceil.result in
    let len = c.len-len.result in
    let fits : count ≤ length bytes = omega (arith, c.len-len.ensures.most, c.self.told, c.div_ceil.ensures) in
    c.whole.ensures
    ∙ ap (take len) (bits-take bytes count fits)
    ∙ take-take len (8 * count) (bits bytes) (omega (arith, c.div_ceil.ensures))
    ∙ ap (λ n. take n (bits bytes)) (c.len-len.ensures.is ∙ length-kept bytes c.args.self.now c.self.inside.len c.self.view_is c.self.invariant c.self.told)
    ∙ c.self.view_is
