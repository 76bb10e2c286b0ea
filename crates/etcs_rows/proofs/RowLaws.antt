-- The laws of rows: a place stands for the numbers that it was given, and numbers and bits determine each other.
use Rattle.std.proofs.Common.{◌≡◌, ℕ, Bool, true, false, List, [], ◌∷◌, ◌++◌, length, ◌≤◌, Some, None, refl, sym, ap, ◌∙◌, subst}
use Rattle.std.specs.Prelude.{IsTrue, Option, if◌then◌else◌}
use Rattle.std.specs.Option.{option_and_then}
use Rattle.std.proofs.lemmas.List.{append-nil}
use Rattle.etcs_vars.specs.declared.var.Var.{Var}
use Rattle.etcs_vars.specs.Vars.{admits}
use Rattle.etcs_vars.specs.Reading.{Sent, Reading, spelled, numbers}
use Rattle.etcs_vars.proofs.Apart.{Agree}
use Rattle.etcs_tables.specs.Layouts.{Layout, whole, one, guarded, counted, Reads, Spells, AdmitsFields, ROW_LIMIT, looks}
use Rattle.etcs_rows.specs.Places.{onto, left_after, one_more, read_of, StandsFor, PlacesStand, PlacesMeasure}
use Rattle.etcs_rows.specs.Writing.{OneSpelling}
use Rattle.etcs_rows.proofs.Following.{follows, looks-onto, tail_of}
use Rattle.etcs_rows.specs.laws.OneReading.{Reads-agree, Reads-apart}
use Rattle.etcs_rows.proofs.WriteLemmas.{first_of_row}

-- ---- Places.

-- a reading of the row whose first number is n
first_pair : (v : Var) (rest : Layout) (n : ℕ) (f : List ℕ) (r tail : Reading) → IsTrue (looks None (one v rest)) → Reads (one v rest) [] (r ++ tail) → numbers r ≡ n ∷ f
    → (r' : Reading) × (r ≡ (v, n) ∷ r') × (numbers r' ≡ f) × IsTrue (admits v n) × Reads (onto n rest whole) [] (r' ++ tail)
first_pair v rest n f [] tail look reads e = absurd cc
first_pair v rest n f ((w, m) ∷ r) tail look reads e =
    let number : m ≡ n = cc in
    let others : numbers r ≡ f = cc in
    let x = first_of_row v rest n (numbers (r ++ tail)) ((w, m) ∷ (r ++ tail)) look reads (ap (λ k. k ∷ numbers (r ++ tail)) number) in
    let pair : ◌≡◌ {A = Sent} (w, m) (v, n) = cc in
    let same : x.0 ≡ r ++ tail = sym (ap (λ (t : Reading). tail_of t) x.1) in
    (r, ap (λ (p : Sent). p ∷ r) pair, others, x.3, subst (λ (t : Reading). Reads (onto n rest whole) [] t) same x.4)

-- what stands for the numbers after the first stands for all
after_first : (v : Var) (rest : Layout) (n : ℕ) (f : List ℕ) (front : Reading) (left : Option Layout) → IsTrue (looks None (one v rest)) → IsTrue (admits v n)
    → StandsFor (onto n rest whole) f front left → StandsFor (one v rest) (n ∷ f) ((v, n) ∷ front) left
after_first v rest n f front (Some left) look ok (same, reads, alone) = (
  ap (λ (g : List ℕ). n ∷ g) same,
  λ tail. (let first = follows v rest n look ok (front ++ tail) in (λ x. (reads tail).0 (first.0 x), λ y. first.1 ((reads tail).1 y))),
  λ r tail h e. (let x = first_pair v rest n f r tail look h e in x.1 ∙ ap (λ (t : Reading). (v, n) ∷ t) (alone x.0 tail x.4 x.2)),
)
after_first v rest n f front None look ok none = λ r tail h e. (let x = first_pair v rest n f r tail look h e in none x.0 tail x.4 x.2)

by_first : (v : Var) (rest : Layout) (n : ℕ) (f : List ℕ) (b : Bool) → IsTrue (looks None (one v rest)) → admits v n ≡ b → StandsFor (onto n rest whole) f (read_of (onto n rest whole) f) (left_after (onto n rest whole) f)
    → StandsFor (one v rest) (n ∷ f) (one_more (Some v) (if b then Some (onto n rest whole) else None) n (λ mid. read_of mid f)) (option_and_then (λ left. left_after left f) (if b then Some (onto n rest whole) else None))
by_first v rest n f true look ok h = after_first v rest n f (read_of (onto n rest whole) f) (left_after (onto n rest whole) f) look ok h
by_first v rest n f false look refused h = λ r tail reads e. (let x = first_pair v rest n f r tail look reads e in let ok : admits v n ≡ true = x.3 in absurd cc)

none_of : (r : Reading) → numbers r ≡ [] → r ≡ []
none_of [] e = refl
none_of (p ∷ r) e = absurd cc

not_empty : (n : ℕ) (f : List ℕ) (r tail : Reading) → ◌≡◌ {A = Reading} (r ++ tail) [] → numbers r ≡ n ∷ f → ⊥
not_empty n f [] tail h e = absurd cc
not_empty n f (p ∷ r) tail h e = absurd cc

pub places_stand : PlacesStand
unfolding Reads
places_stand row [] look = (refl, λ tail. (λ x. x, λ x. x), λ r tail h e. none_of r e)
places_stand whole (n ∷ f) look = λ r tail h e. not_empty n f r tail h e
places_stand (one v rest) (n ∷ f) look = by_first v rest n f (admits v n) look refl (places_stand (onto n rest whole) f (looks-onto n (Some v) rest whole tt look refl))
places_stand (guarded g group rest) (n ∷ f) look = absurd cc
places_stand (counted group rest) (n ∷ f) look = absurd cc

pub places_measure : PlacesMeasure
places_measure row left f look e m =
    let stands = subst (λ (o : Option Layout). StandsFor row f (read_of row f) o) e (places_stand row f look) in (
      λ (r, tail, reads, same, len, small).
          let is = stands.2 r tail reads same in
          ([], tail, (stands.1 tail).0 (subst (λ (q : Reading). Reads row [] (q ++ tail)) is reads), refl, len, small),
      λ (r, tail, reads, same, len, small).
          let is = none_of r same in
          (read_of row f, tail, (stands.1 tail).1 (subst (λ (q : Reading). Reads left [] (q ++ tail)) is reads), stands.0, len, small),
    )

stands_alone : (row : Layout) (read q : Reading) (o : Option Layout) → Reads row [] (read ++ q) → StandsFor row (numbers read) (read_of row (numbers read)) o → read_of row (numbers read) ≡ read
stands_alone row read q (Some left) reads stands = sym (stands.2 read q reads refl)
stands_alone row read q None reads stands = absurd (stands read q reads refl)

-- the pairs with which a reading of the row begins are those of their numbers
pub read_is : (row : Layout) (read q : Reading) → IsTrue (looks None row) → Reads row [] (read ++ q) → read_of row (numbers read) ≡ read
read_is row read q look reads = stands_alone row read q (left_after row (numbers read)) reads (places_stand row (numbers read) look)

-- ---- Spellings.

-- readings of a row with the same numbers are one
by_numbers : (a b : Reading) → Agree a b → numbers a ≡ numbers b → a ≡ b
by_numbers [] [] h e = refl
by_numbers [] (q ∷ b) h e = absurd cc
by_numbers (p ∷ a) [] h e = absurd cc
by_numbers ((v, n) ∷ a) ((w, m) ∷ b) h e =
    let var : v ≡ w = h.0 in
    let number : n ≡ m = cc in
    let others : numbers a ≡ numbers b = cc in
    let head : ◌≡◌ {A = Sent} (v, n) (w, m) = cc in
    let tail : a ≡ b = by_numbers a b (h.1 head) others in
    let all : ◌≡◌ {A = Reading} ((v, n) ∷ a) ((w, m) ∷ b) = cc in
    all

pub one_spelling : OneSpelling
one_spelling = (
  λ row f f' b c (r, reads, e, is) (r', reads', e', is').
      let bits : spelled r ++ c ≡ spelled r' ++ [] = ap (λ (x : List Bool). x ++ c) is ∙ sym is' ∙ sym (append-nil (spelled r')) in
      let x = Reads-apart row [] r r' c [] reads reads' bits in
      (sym e ∙ ap numbers x.0 ∙ e', x.1),
  λ row f b b' (r, reads, e, is) (r', reads', e', is').
      sym is ∙ ap spelled (by_numbers r r' (Reads-agree row [] r r' reads reads') (e ∙ sym e')) ∙ is',
)

-- the spelling of numbers that are admitted is short
pub admitted_length : (row : Layout) (f : List ℕ) (b : List Bool) → AdmitsFields row f → Spells row [] f b → length b ≤ ROW_LIMIT
admitted_length row f b (b', spells', short) spells = let same : b ≡ b' = one_spelling.1 row f b b' spells spells' in rw (← same) at short
