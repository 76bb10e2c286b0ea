use Rattle.std.proofs.Common.{◌≡◌, ◌≤◌, ◌++◌, ℕ, Bool, List, [], ◌∷◌, refl, length, take, sym, ap, ◌∙◌, arith}
use Rattle.etcs_bits.specs.Bits.{bits}
use Rattle.etcs_bits.proofs.Numbers.{length-num}
use Rattle.etcs_bits.proofs.Positions.{length-bits}
use Rattle.etcs_bits.proofs.WordWrites.{bits-word}
use Rattle.etcs_bits.proofs.Inline.{length-kept, kept_first}
use Rattle.etcs_bits.proofs.few.Few.push_slice.Goals as goal

none : {T : Type 0} (xs : List T) → length xs ≡ 0 → xs ≡ []
none [] e = refl
none (x ∷ xs) e = absurd (omega (arith, e))

pub write_slice-requires : goal.write_slice-requires
write_slice-requires c = omega (arith, c.len-len.ensures.is, c.requires, c.self.told, length-bits c.self.inside.bytes)

pub returns-then-len-eq0 : goal.returns-then-len-eq0
returns-then-len-eq0 c =
    let x = c.args.slice.now in
    let word = c.to_be_bytes.result in
    let empty : c.args.self.now ≡ [] = none c.args.self.now (omega (arith, c.len-len.ensures.is, c.if-len-eq0.true)) in
    let spelled = ap bits c.to_be_bytes.ensures ∙ bits-word c.word.result (omega arith) in
    let long : 7 ≤ length word = omega (arith, length-bits word, ap length spelled, length-num 64 c.word.result) in
    ap (λ (n : ℕ). take n (bits c.copy_from_slice.new.self)) c.len.ensures
    ∙ kept_first x word c.copy_from_slice.new.self (omega (arith, c.requires)) long (spelled ∙ c.word.ensures) c.copy_from_slice.ensures.after
    ∙ sym (ap (λ (l : List Bool). l ++ x) empty)

pub invariant_of-self-2 : goal.invariant_of-self-2
invariant_of-self-2 c =
    let size = length-kept c.self.inside.bytes c.args.self.now c.self.inside.len c.self.view_is c.self.invariant c.self.told in
    omega (arith, size, c.requires, c.len-2.ensures)
