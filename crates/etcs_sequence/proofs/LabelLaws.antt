-- Further lemmas beside specs/laws/LabelLaws.antt.
use Rattle.std.proofs.Common.{◌≡◌, ℕ, suc, ◌+◌, ◌≤◌, List, [], ◌∷◌, ◌++◌, length, drop, Some, refl, ap, ◌∙◌, arith}
use Rattle.etcs_vars.specs.declared.var.Var.{Var}
use Rattle.etcs_vars.specs.Vars.{width}
use Rattle.etcs_vars.specs.Reading.{Reading, spelled, numbers}
use Rattle.etcs_vars.proofs.Sent.{length-sent}
use Rattle.etcs_reader.specs.Fields.{first_of}
use Rattle.etcs_sequence.specs.Labels.{labelled, widths, widths_of}

pub labelled_none : (vs : List Var) → labelled vs [] ≡ []
labelled_none [] = refl
labelled_none (v ∷ vs) = refl

pub labelled_more : (vs : List Var) (ns : List ℕ) (x : Var) (n : ℕ) → first_of (drop (length ns) vs) ≡ Some x → labelled vs (ns ++ n ∷ []) ≡ labelled vs ns ++ (x, n) ∷ []
labelled_more [] [] x n e = absurd cc
labelled_more [] (m ∷ ns) x n e = absurd cc
labelled_more (v ∷ vs) [] x n e = let same : v ≡ x = cc in rw (same, labelled_none vs) refl
labelled_more (v ∷ vs) (m ∷ ns) x n e = ap (λ (t : Reading). (v, m) ∷ t) (labelled_more vs ns x n e)

pub numbers_labelled : (vs : List Var) (ns : List ℕ) → length ns ≡ length vs → numbers (labelled vs ns) ≡ ns
numbers_labelled [] [] e = refl
numbers_labelled [] (n ∷ ns) e = absurd cc
numbers_labelled (v ∷ vs) [] e = absurd cc
numbers_labelled (v ∷ vs) (n ∷ ns) e = ap (λ (t : List ℕ). n ∷ t) (numbers_labelled vs ns (let k : length ns ≡ length vs = cc in k))

pub labelled_count : (vs : List Var) (ns : List ℕ) → length ns ≡ length vs → length (labelled vs ns) ≡ length vs
labelled_count [] ns e = refl
labelled_count (v ∷ vs) [] e = absurd cc
labelled_count (v ∷ vs) (n ∷ ns) e = ap suc (labelled_count vs ns (let k : length ns ≡ length vs = cc in k))

-- they are no more than the numbers
pub labelled_most : (vs : List Var) (ns : List ℕ) → length (labelled vs ns) ≤ length ns
labelled_most [] ns = omega arith
labelled_most (v ∷ vs) [] = omega arith
labelled_most (v ∷ vs) (n ∷ ns) = omega (arith, labelled_most vs ns)

-- how many bits they take
pub length-widths : (r : Reading) → length (spelled r) ≡ widths_of r
length-widths [] = refl
length-widths (p ∷ r) = length-sent p.0 p.1 r ∙ ap (λ (k : ℕ). width p.0 + k) (length-widths r)

pub labelled_widths : (vs : List Var) (ns : List ℕ) → length ns ≡ length vs → widths_of (labelled vs ns) ≡ widths vs
labelled_widths [] ns e = refl
labelled_widths (v ∷ vs) [] e = absurd cc
labelled_widths (v ∷ vs) (n ∷ ns) e = ap (λ (k : ℕ). width v + k) (labelled_widths vs ns (let k : length ns ≡ length vs = cc in k))
