use Rattle.std.proofs.Common.{[], ◌∷◌, ◌++◌, refl, ap, arith, ◌∙◌}
use Rattle.etcs_vars.specs.declared.var.Var.TheVariants.{NID_MESSAGE}
use Rattle.etcs_vars.specs.Reading.{Reading}
use Rattle.etcs_blank.proofs.Lengths.{closed_is}
use Rattle.etcs_blank.proofs.items.push_closed.Goals as goal

pub overflow_add-bits : goal.overflow_add-bits
overflow_add-bits c = omega (arith, c.bits_of.ensures.most)

pub overflow_add-bytes : goal.overflow_add-bytes
overflow_add-bytes c = omega (arith, c.bits_of.ensures.most)

pub overflow_mul-bytes : goal.overflow_mul-bytes
overflow_mul-bytes c = omega (arith, c.bits_of.ensures.most)

pub returns : goal.returns
returns c =
    closed_is c.args.nid c.in-Some.bits _ _ c.args.closes c.args.rest.now c.push.new.self.items c.push-2.new.self.items c.extend_from_slice.new.self.items c.push_bits.new.pairs.items c.in-Some.ensures.bits refl refl
    (c.in_ok-push.ensures.items ∙ ap (λ (r : Reading). r ++ (NID_MESSAGE, c.from.result) ∷ []) c.requires ∙ ap (λ n. (NID_MESSAGE, n) ∷ []) c.from.ensures)
    c.in_ok-push-2.ensures.items
    c.in_ok-extend_from_slice.ensures.items
    c.in_ok-push_bits.ensures
