-- Bits of readings put one after another.
use Rattle.std.proofs.Common.{◌≡◌, Bool, List, [], ◌++◌, sym, ap, ◌∙◌, append_assoc}
use Rattle.std.proofs.lemmas.List.{append-nil}
use Rattle.etcs_vars.specs.Reading.{Reading, spelled}
use Rattle.etcs_vars.specs.laws.Spellings.{spelled-append}
use Rattle.etcs_vars.specs.BitPages.{Begins}

pub bits_none : (s : List Bool) → s ++ spelled [] ≡ s
bits_none s = append-nil s

pub bits_both : (s : List Bool) (a b : Reading) → s ++ spelled (a ++ b) ≡ (s ++ spelled a) ++ spelled b
bits_both s a b = ap (λ (t : List Bool). s ++ t) (spelled-append a b) ∙ sym (append_assoc s (spelled a) (spelled b))

pub bits_begin : (s : List Bool) (a : Reading) (t : List Bool) → Begins (s ++ spelled a) t → Begins s t
bits_begin s a t (more, is) = (spelled a ++ more, is ∙ append_assoc s (spelled a) more)
