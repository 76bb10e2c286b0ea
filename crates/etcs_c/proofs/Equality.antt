-- What `==` of two lists of fields says.
use Rattle.std.proofs.Common.{◌≡◌, ◌∙◌, Bool, List, sym, rules}
use Rattle.std.specs.Bool.{Decides}
use Rattle.std.specs.Cmp.Lexicographic.{pointwise}
use Rattle.std.proofs.lemmas.Slice.Eq.{slice_eq-Decides}
use Rattle.etcs_c.specs.contracts.fields.EtcsFieldPartialEq.TheImpl as the_impl
use Rattle.etcs_c.specs.declared.fields.EtcsField.{EtcsField}

field_exact : (a b : EtcsField) → Decides (the_impl.ghosts.eq a b) (a ≡ b)
field_exact a b = search rules

-- it says whether a list is another, which the first one is
pub same_fields : (same : Bool) (xs ys fields : List EtcsField) → same ≡ pointwise the_impl.ghosts.eq xs ys → xs ≡ fields → Decides same (ys ≡ fields)
same_fields same xs ys fields e is = let d = slice_eq-Decides field_exact xs ys same e in (λ yes. sym (d.0 yes) ∙ is, λ h. d.1 (is ∙ sym h))
