-- Numbers of readings, one after another.
use Rattle.std.proofs.Common.{◌≡◌, ℕ, List, [], ◌∷◌, ◌++◌, length, take, refl, sym, ap, ◌∙◌, append_assoc}
use Rattle.std.proofs.lemmas.List.{map-append, append-nil}
use Rattle.etcs_vars.specs.Reading.{Sent, Reading, numbers}

pub numbers_none : (f : List ℕ) → f ++ numbers [] ≡ f
numbers_none f = append-nil f

pub numbers_both : (f : List ℕ) (a b : Reading) → f ++ numbers (a ++ b) ≡ (f ++ numbers a) ++ numbers b
numbers_both f a b = ap (λ (t : List ℕ). f ++ t) (map-append (λ (p : Sent). p.1) a b) ∙ sym (append_assoc f (numbers a) (numbers b))

pub pairs_none : (r : Reading) → r ++ [] ≡ r
pairs_none r = append-nil r

pub pairs_both : (r a b : Reading) → r ++ (a ++ b) ≡ (r ++ a) ++ b
pairs_both r a b = sym (append_assoc r a b)

-- what begins with numbers and more begins with them
begin : (f m g : List ℕ) → take (length (f ++ m)) g ≡ f ++ m → take (length f) g ≡ f
begin [] m g h = refl
begin (x ∷ f) m [] h = absurd cc
begin (x ∷ f) m (y ∷ g) h =
    let first : y ≡ x = cc in
    let rest : take (length (f ++ m)) g ≡ f ++ m = cc in
    rw (first, begin f m g rest) refl

pub numbers_begin : (f : List ℕ) (a : Reading) (g : List ℕ) → take (length (f ++ numbers a)) g ≡ f ++ numbers a → take (length f) g ≡ f
numbers_begin f a g h = begin f (numbers a) g h
