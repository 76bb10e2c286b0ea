use Rattle.std.proofs.Common.{◌++◌, ap, ◌∙◌, arith}
use Rattle.std.proofs.lemmas.List.{with_items_is}
use Rattle.etcs_bits.specs.Bits.{num}
use Rattle.etcs_bits.proofs.Numbers.{length-num}
use Rattle.etcs_bits.proofs.Positions.{length-bits}
use Rattle.etcs_bits.proofs.Owned.{length-owned, grown, pushed}
use Rattle.etcs_bits.proofs.many.Many.push_number.Goals as goal

pub overflow_add-len : goal.overflow_add-len
overflow_add-len c = omega (arith, length-owned c.self.inside.bytes.items _ c.self.inside.len c.self.view_is c.self.invariant.0)

pub write-requires-clause-inside : goal.write-requires-clause-inside
write-requires-clause-inside c =
    let v = c.self.inside.bytes in
    let slice = c.as_mut_slice.result.now in
    let e = c.as_mut_slice.ensures.value ∙ c.in_ok-resize.ensures.items in
    let g = grown v.items slice v.len c.div_ceil.result (omega (arith, v.ok.0)) (omega (arith, c.self.invariant, v.ok.0)) e in
    omega (arith, g.1, length-bits slice)

pub invariant_of-self-2 : goal.invariant_of-self-2
invariant_of-self-2 c =
    let v = c.self.inside.bytes in
    let new = c.write.new.bytes in
    (pushed v.items c.as_mut_slice.result.now new _ v.len c.self.inside.len c.div_ceil.result c.args.width (num c.args.width c.args.value) (omega (arith, v.ok.0)) c.self.invariant (omega arith) (omega arith) (length-num c.args.width c.args.value) (c.as_mut_slice.ensures.value ∙ c.in_ok-resize.ensures.items) c.write.ensures (λ e. with_items_is c.resize.new.self new (e ∙ c.as_mut_slice.ensures.len))).0

pub returns-clause-ok : goal.returns-clause-ok
returns-clause-ok c =
    let v = c.self.inside.bytes in
    let new = c.write.new.bytes in
    (pushed v.items c.as_mut_slice.result.now new _ v.len c.self.inside.len c.div_ceil.result c.args.width (num c.args.width c.args.value) (omega (arith, v.ok.0)) c.self.invariant (omega arith) (omega arith) (length-num c.args.width c.args.value) (c.as_mut_slice.ensures.value ∙ c.in_ok-resize.ensures.items) c.write.ensures (λ e. with_items_is c.resize.new.self new (e ∙ c.as_mut_slice.ensures.len))).1
    ∙ ap (λ l. l ++ (num c.args.width c.args.value)) c.self.view_is
