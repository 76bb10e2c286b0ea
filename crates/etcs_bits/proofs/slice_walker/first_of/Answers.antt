use Rattle.std.proofs.Common.{◌-◌, subst, sym}
use Rattle.etcs_bits.specs.SliceWalker.{Keeps}
use Rattle.etcs_bits.proofs.Kept.{first_kept}
use Rattle.etcs_bits.proofs.slice_walker.first_of.Goals as goal

pub returns-clause-next : goal.returns-clause-next
returns-clause-next c = λ bs end k.
    (let k' = c.args.next in
    let both = first_kept k'.word k'.count c.args.width bs end c.requires.enough k in
    (both.0, subst (λ w. Keeps w (k'.count - c.args.width) bs end) (sym c.wrapping_shl.ensures) both.1))
