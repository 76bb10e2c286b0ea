use Rattle.std.proofs.Common.{◌≡◌, ◌+◌, ◌++◌, ℕ, length, take, sym, ap, subst, ◌∙◌, arith}
use Rattle.etcs_bits.specs.Bits.{bits, num, replaced}
use Rattle.etcs_bits.proofs.Numbers.{length-num}
use Rattle.etcs_bits.proofs.Positions.{length-bits}
use Rattle.etcs_bits.proofs.Inline.{length-kept, kept_more}
use Rattle.etcs_bits.proofs.few.Few.push_number.Goals as goal

pub write-requires-clause-inside : goal.write-requires-clause-inside
write-requires-clause-inside c = omega (arith, c.len-len.ensures.is, c.requires.room, c.self.told, length-bits c.self.inside.bytes)

pub invariant_of-self : goal.invariant_of-self
invariant_of-self c =
    let size = length-kept c.self.inside.bytes c.args.self.now c.self.inside.len c.self.view_is c.self.invariant c.self.told in
    omega (arith, size, c.requires.room)

pub returns : goal.returns
returns c =
    let x = num c.args.width c.args.value in
    let bytes = c.self.inside.bytes in
    let long : length x ≡ c.args.width = length-num c.args.width c.args.value in
    let size = length-kept bytes c.args.self.now c.self.inside.len c.self.view_is c.self.invariant c.self.told in
    let at : c.len-len.result ≡ c.self.inside.len = c.len-len.ensures.is ∙ size in
    let written = subst (λ (k : ℕ). bits c.write.new.bytes ≡ replaced k x (bits bytes)) at c.write.ensures in
    ap (λ (n : ℕ). take (c.self.inside.len + n) (bits c.write.new.bytes)) (sym long)
    ∙ kept_more bytes c.write.new.bytes c.args.self.now c.self.inside.len x c.self.view_is (omega (arith, size, long, c.requires.room)) c.self.told written
