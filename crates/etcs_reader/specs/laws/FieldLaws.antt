-- What the reader needs of variables one after another.
use Rattle.std.proofs.Common.{◌≡◌, List, [], ◌∷◌, ◌++◌, Some, None, refl, append_assoc}
use Rattle.etcs_vars.specs.declared.var.Var.{Var}
use Rattle.etcs_vars.specs.Walking.{Residual}
use Rattle.etcs_vars.specs.Reading.{Reading}
use Rattle.etcs_vars.proofs.Apart.{Agree, AllFit}
use Rattle.etcs_vars.proofs.Prefixes.{admits_parts}
use Rattle.etcs_vars.proofs.Walk.{Regular}
use Rattle.etcs_reader.specs.Rests.{BeginsWith, Ended}
use Rattle.etcs_reader.specs.Fields.{ReadsFields, first_of}

-- ---- Of any language.

pub residual_none : (L : Reading → Type 0) → Residual L [] L
residual_none L = record { to = λ q l. l; from = λ q l. l }

pub residual_along : (L : Reading → Type 0) (p : Reading) (R : Reading → Type 0) (q : Reading) (S : Reading → Type 0) → Residual L p R → Residual R q S → Residual L (p ++ q) S
residual_along L p R q S a b = record {
  to = λ r l. b.to r (a.to (q ++ r) (rw (append_assoc p q r) at l));
  from = λ r s. rw (append_assoc p q r) (a.from (q ++ r) (b.from r s));
}

-- ---- Of variables.

pub fields_agree : (vs : List Var) (a b : Reading) → ReadsFields vs a → ReadsFields vs b → Agree a b
fields_agree [] a b h k = rw (h, k) tt
fields_agree (v ∷ vs) a b (n, a', m, e, h) (n', b', m', e', h') = rw (e, e') (refl, λ _. fields_agree vs a' b' h h')

pub fields_fit : (vs : List Var) (a : Reading) → ReadsFields vs a → AllFit a
fields_fit [] a h = rw h tt
fields_fit (v ∷ vs) a (n, a', m, e, h) = rw e ((admits_parts v n m).1, fields_fit vs a' h)

pub fields_regular : (vs : List Var) → Regular (ReadsFields vs)
fields_regular vs = record { agree = fields_agree vs; fit = fields_fit vs }

pub fields_begin : (vs : List Var) (x : Var) → first_of vs ≡ Some x → BeginsWith (ReadsFields vs) x
fields_begin [] x e r h = absurd cc
fields_begin (v ∷ vs) x e r (n, r', m, f, h) = let same : v ≡ x = cc in (n, r', rw same at f)

pub fields_ended : (vs : List Var) → first_of vs ≡ None → Ended (ReadsFields vs)
fields_ended [] e r h = h
fields_ended (v ∷ vs) e r h = absurd cc
