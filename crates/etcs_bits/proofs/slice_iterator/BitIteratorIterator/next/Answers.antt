use Rattle.std.proofs.Common.{drop, nat_eq, ◌∷◌, sym, ap, ◌∙◌}
use Rattle.etcs_bits.specs.SliceWalker.{SliceWalk}
use Rattle.etcs_bits.proofs.Walked.{first_bit}
use Rattle.etcs_bits.proofs.slice_iterator.BitIteratorIterator.next.Goals as goal

pub returns-clause-steps : goal.returns-clause-steps
returns-clause-steps c =
    let w = c.self.inside.walker in
    let n = c.in_ok-number.number in
    sym c.self.view_is
    ∙ first_bit w.bits w.place n (sym c.in_ok-number.ensures.number)
    ∙ ap (λ (s : SliceWalk). nat_eq n 1 ∷ drop s.place s.bits) (sym c.in_ok-number.ensures.moved)
