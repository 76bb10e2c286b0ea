-- The lengths of a row are those of its readings.
use Rattle.std.proofs.Common.{◌≡◌, ℕ, zero, suc, ◌+◌, ◌≤◌, Bool, true, false, [], ◌∷◌, ◌++◌, length, None, refl, sym, ap, ◌∙◌}
use Rattle.std.specs.Prelude.{◌↔◌, IsTrue, MatchBool}
use Rattle.std.proofs.lemmas.List.{length-append}
use Rattle.etcs_vars.specs.Vars.{width}
use Rattle.etcs_vars.specs.Reading.{Reading, spelled, numbers, Then, Times}
use Rattle.etcs_vars.specs.laws.Spellings.{spelled-append}
use Rattle.etcs_vars.proofs.Languages.{Same}
use Rattle.etcs_vars.proofs.Sent.{length-sent}
use Rattle.etcs_tables.specs.Layouts.{Layout, whole, one, guarded, counted, passes, looks, Reads, Lengths}
use Rattle.etcs_rows.specs.Places.{append, iterate, onto}
use Rattle.etcs_rows.specs.Sums.{Plus, SumOf}
use Rattle.etcs_rows.specs.Lengths.{LengthOf, LengthsBy}
use Rattle.etcs_rows.proofs.Following.{ReadsBy, by_number, by-append, by-onto, by-iterate, open_free}
use Rattle.etcs_rows.proofs.PlaceLemmas.{Open, Open-onto}

-- two sets of the same numbers
abbrev pub SameSet : (ℕ → Type 0) → (ℕ → Type 0) → Type 0
SameSet A B = (m : ℕ) → A m ↔ B m

pub set_along : (A B C : ℕ → Type 0) → SameSet A B → SameSet B C → SameSet A C
set_along A B C h k m = (λ x. (k m).0 ((h m).0 x), λ x. (h m).1 ((k m).1 x))

pub set_back : (A B : ℕ → Type 0) → SameSet A B → SameSet B A
set_back A B h m = ((h m).1, (h m).0)

pub set_self : (A : ℕ → Type 0) → SameSet A A
set_self A m = (λ x. x, λ x. x)

pub Plus-same : (A B A' B' : ℕ → Type 0) → SameSet A A' → SameSet B B' → SameSet (Plus A B) (Plus A' B')
Plus-same A B A' B' h k m = (λ (i, j, a, b, e). (i, j, (h i).0 a, (k j).0 b, e), λ (i, j, a, b, e). (i, j, (h i).1 a, (k j).1 b, e))

pub SumOf-same : (n : ℕ) (A A' : ℕ → Type 0) → SameSet A A' → SameSet (SumOf n A) (SumOf n A')
SumOf-same zero A A' h = set_self (λ m. m ≡ 0)
SumOf-same (suc n) A A' h = Plus-same A (SumOf n A) A' (SumOf n A') h (SumOf-same n A A' h)

pub length-spelled : (p q : Reading) → length (spelled (p ++ q)) ≡ length (spelled p) + length (spelled q)
length-spelled p q = ap length (spelled-append p q) ∙ length-append (spelled p) (spelled q)

-- ---- Sets of lengths, and languages.

pub of_same : (P Q : Reading → Type 0) → Same P Q → SameSet (LengthOf P) (LengthOf Q)
of_same P Q h m = (λ (r, p, e). (r, (h r).0 p, e), λ (r, p, e). (r, (h r).1 p, e))

pub of_then : (P Q : Reading → Type 0) → SameSet (LengthOf (Then P Q)) (Plus (LengthOf P) (LengthOf Q))
of_then P Q m = (
  λ (r, (a, b, i, p, q), e). (length (spelled a), length (spelled b), (a, p, refl), (b, q, refl), (let t : length (spelled a) + length (spelled b) ≡ m = sym (length-spelled a b) ∙ ap (λ (x : Reading). length (spelled x)) (sym i) ∙ e in t)),
  λ (j, k, (a, p, ea), (b, q, eb), e). (a ++ b, (a, b, refl, p, q), (let t : length (spelled (a ++ b)) ≡ m = length-spelled a b ∙ ap (λ x. x + length (spelled b)) ea ∙ ap (λ x. j + x) eb ∙ e in t)),
)

pub of_nothing : SameSet (LengthOf (λ r. r ≡ [])) (λ m. m ≡ 0)
of_nothing m = (λ (r, i, e). sym e ∙ ap (λ (x : Reading). length (spelled x)) i, λ e. ([], refl, sym e))

pub of_times : (n : ℕ) (P : Reading → Type 0) → SameSet (LengthOf (Times n P)) (SumOf n (LengthOf P))
of_times zero P = of_nothing
of_times (suc n) P = set_along (LengthOf (Times (suc n) P)) (Plus (LengthOf P) (LengthOf (Times n P))) (SumOf (suc n) (LengthOf P)) (of_then P (Times n P)) (Plus-same (LengthOf P) (LengthOf (Times n P)) (LengthOf P) (SumOf n (LengthOf P)) (set_self (LengthOf P)) (of_times n P))

of_case : (b : Bool) (P Q : Reading → Type 0) (A B : ℕ → Type 0) → SameSet A (LengthOf P) → SameSet B (LengthOf Q) → SameSet (λ m. MatchBool b (A m) (B m)) (LengthOf (λ r. MatchBool b (P r) (Q r)))
of_case true P Q A B h k = h
of_case false P Q A B h k = k

-- ---- The lengths of a row after a number.

pub lengths_by : (row : Layout) (n : ℕ) → SameSet (LengthsBy row n) (LengthOf (ReadsBy row n))
unfolding LengthsBy
lengths_by whole n m = set_back (LengthOf (λ r. r ≡ [])) (λ m. m ≡ 0) of_nothing m
lengths_by (one v rest) n m = (
  λ (k, j, a, l, e).
      let below = (lengths_by rest k j).0 l in
      ((v, k) ∷ below.0, (k, below.0, a, refl, below.1), (let t : length (spelled ((v, k) ∷ below.0)) ≡ m = length-sent v k below.0 ∙ ap (λ x. width v + x) below.2 ∙ e in t)),
  λ (r, (k, r', a, i, l), e).
      (k, length (spelled r'), a, (lengths_by rest k (length (spelled r'))).1 (r', l, refl), (let t : width v + length (spelled r') ≡ m = sym (length-sent v k r') ∙ ap (λ (x : Reading). length (spelled x)) (sym i) ∙ e in t)),
)
lengths_by (guarded g group rest) n m =
    let G = LengthsBy group n in let R = LengthsBy rest n in
    let GL = ReadsBy group n in let RL = ReadsBy rest n in
    of_case (passes g.test n) (Then GL RL) RL (Plus G R) R
    (set_along (Plus G R) (Plus (LengthOf GL) (LengthOf RL)) (LengthOf (Then GL RL)) (Plus-same G R (LengthOf GL) (LengthOf RL) (lengths_by group n) (lengths_by rest n)) (set_back (LengthOf (Then GL RL)) (Plus (LengthOf GL) (LengthOf RL)) (of_then GL RL)))
    (lengths_by rest n) m
lengths_by (counted group rest) n m =
    let G = LengthsBy group n in let R = LengthsBy rest n in
    let GL = ReadsBy group n in let RL = ReadsBy rest n in
    set_along (Plus (SumOf n G) R) (Plus (LengthOf (Times n GL)) (LengthOf RL)) (LengthOf (Then (Times n GL) RL))
    (Plus-same (SumOf n G) R (LengthOf (Times n GL)) (LengthOf RL)
    (set_along (SumOf n G) (SumOf n (LengthOf GL)) (LengthOf (Times n GL)) (SumOf-same n G (LengthOf GL) (lengths_by group n)) (set_back (LengthOf (Times n GL)) (SumOf n (LengthOf GL)) (of_times n GL)))
    (lengths_by rest n))
    (set_back (LengthOf (Then (Times n GL) RL)) (Plus (LengthOf (Times n GL)) (LengthOf RL)) (of_then (Times n GL) RL)) m

-- ---- What is left: by its parts.

-- sets that are each the lengths of a row, by their languages
pub by_then : (row a b : Layout) (n i j : ℕ) → Same (ReadsBy row n) (Then (ReadsBy a i) (ReadsBy b j)) → SameSet (LengthsBy row n) (Plus (LengthsBy a i) (LengthsBy b j))
by_then row a b n i j h =
    set_along (LengthsBy row n) (LengthOf (ReadsBy row n)) (Plus (LengthsBy a i) (LengthsBy b j)) (lengths_by row n)
    (set_along (LengthOf (ReadsBy row n)) (LengthOf (Then (ReadsBy a i) (ReadsBy b j))) (Plus (LengthsBy a i) (LengthsBy b j)) (of_same (ReadsBy row n) (Then (ReadsBy a i) (ReadsBy b j)) h)
    (set_along (LengthOf (Then (ReadsBy a i) (ReadsBy b j))) (Plus (LengthOf (ReadsBy a i)) (LengthOf (ReadsBy b j))) (Plus (LengthsBy a i) (LengthsBy b j)) (of_then (ReadsBy a i) (ReadsBy b j))
    (set_back (Plus (LengthsBy a i) (LengthsBy b j)) (Plus (LengthOf (ReadsBy a i)) (LengthOf (ReadsBy b j))) (Plus-same (LengthsBy a i) (LengthsBy b j) (LengthOf (ReadsBy a i)) (LengthOf (ReadsBy b j)) (lengths_by a i) (lengths_by b j)))))

pub lengths-append : (row tail : Layout) (n : ℕ) → Open tail → SameSet (LengthsBy (append row tail) n) (Plus (LengthsBy row n) (LengthsBy tail 0))
lengths-append row tail n h = by_then (append row tail) row tail n n 0 (by-append row tail n h)

pub lengths-onto : (row tail : Layout) (n : ℕ) → Open tail → SameSet (LengthsBy (onto n row tail) 0) (Plus (LengthsBy row n) (LengthsBy tail 0))
lengths-onto row tail n h = by_then (onto n row tail) row tail 0 n 0 (by-onto row tail n h)

pub lengths-free : (row : Layout) (m n : ℕ) → Open row → SameSet (LengthsBy row m) (LengthsBy row n)
lengths-free row m n h =
    set_along (LengthsBy row m) (LengthOf (ReadsBy row m)) (LengthsBy row n) (lengths_by row m)
    (set_along (LengthOf (ReadsBy row m)) (LengthOf (ReadsBy row n)) (LengthsBy row n) (of_same (ReadsBy row m) (ReadsBy row n) (open_free row m n h)) (set_back (LengthsBy row n) (LengthOf (ReadsBy row n)) (lengths_by row n)))

pub nothing_left : (r : Reading) → numbers r ≡ [] → r ≡ []
nothing_left [] e = refl
nothing_left (p ∷ r) e = absurd cc

-- ---- The lengths of a sound row.
pub lengths_are : (row : Layout) → IsTrue (looks None row) → (m : ℕ) → Lengths row [] m ↔ (LengthsBy row 0 m × (m ≤ 8191))
lengths_are row sound m =
    let same = by_number row None [] tt sound in (
      λ (r, rest, reads, none, len, small).
          let gone : r ≡ [] = nothing_left r none in
          let all : Reads row [] rest = rw gone at reads in
          ((lengths_by row 0 m).1 (rest, (same rest).0 all, len), small),
      λ (l, small).
          let x = (lengths_by row 0 m).0 l in
          ([], x.0, (same x.0).1 x.1, refl, x.2, small),
    )

-- a group before what is left, k times
pub lengths-iterate : (k n : ℕ) (group x : Layout) → Open x → SameSet (LengthsBy (iterate k (onto n group) x) 0) (Plus (SumOf k (LengthsBy group n)) (LengthsBy x 0))
lengths-iterate k n group x h =
    let row = iterate k (onto n group) x in let G = ReadsBy group n in
    set_along (LengthsBy row 0) (LengthOf (ReadsBy row 0)) (Plus (SumOf k (LengthsBy group n)) (LengthsBy x 0)) (lengths_by row 0)
    (set_along (LengthOf (ReadsBy row 0)) (LengthOf (Then (Times k G) (ReadsBy x 0))) (Plus (SumOf k (LengthsBy group n)) (LengthsBy x 0))
    (of_same (ReadsBy row 0) (Then (Times k G) (ReadsBy x 0)) (by-iterate k (onto n group) x G (λ y q. Open-onto n group y q) (λ y q. by-onto group y n q) h))
    (set_along (LengthOf (Then (Times k G) (ReadsBy x 0))) (Plus (LengthOf (Times k G)) (LengthOf (ReadsBy x 0))) (Plus (SumOf k (LengthsBy group n)) (LengthsBy x 0)) (of_then (Times k G) (ReadsBy x 0))
    (Plus-same (LengthOf (Times k G)) (LengthOf (ReadsBy x 0)) (SumOf k (LengthsBy group n)) (LengthsBy x 0)
    (set_along (LengthOf (Times k G)) (SumOf k (LengthOf G)) (SumOf k (LengthsBy group n)) (of_times k G) (SumOf-same k (LengthOf G) (LengthsBy group n) (set_back (LengthsBy group n) (LengthOf G) (lengths_by group n))))
    (set_back (LengthsBy x 0) (LengthOf (ReadsBy x 0)) (lengths_by x 0)))))
