-- What is left of a row after numbers of it, as a row again: groups on numbers that are known are opened (SUBSET-026,
-- 7.4).
use Rattle.std.specs.Prelude.{◌≡◌, ◌↔◌, ℕ, zero, suc, List, [], ◌∷◌, ◌++◌, IsTrue, Option, Some, None, if◌then◌else◌}
use Rattle.std.specs.Option.{option_and_then}
use Rattle.etcs_vars.specs.declared.var.Var.{Var}
use Rattle.etcs_vars.specs.Vars.{admits}
use Rattle.etcs_vars.specs.Reading.{Reading, numbers}
use Rattle.etcs_tables.specs.Layouts.{Layout, whole, one, guarded, counted, Reads, passes, looks, Lengths}

-- a row, and after it another
abbrev pub append : Layout → Layout → Layout
append whole tail = tail
append (one v rest) tail = one v (append rest tail)
append (guarded g group rest) tail = guarded g group (append rest tail)
append (counted group rest) tail = counted group (append rest tail)

-- no group in front
abbrev pub Open : Layout → Type 0
Open whole = Unit {0}
Open (one v rest) = Unit {0}
Open (guarded g group rest) = ⊥
Open (counted group rest) = ⊥

-- n times f, of x
abbrev pub iterate : ℕ → (Layout → Layout) → Layout → Layout
iterate zero f x = x
iterate (suc n) f x = f (iterate n f x)

-- a row after a variable whose number is n, and after it another: the groups in front are opened by n
abbrev pub onto : ℕ → Layout → Layout → Layout
onto n whole tail = tail
onto n (one v rest) tail = one v (append rest tail)
onto n (guarded g group rest) tail = if passes g.test n then onto n group (onto n rest tail) else onto n rest tail
onto n (counted group rest) tail = iterate n (onto n group) (onto n rest tail)

-- the variable that comes next in a row whose groups in front are open, if there is one
abbrev pub first_variable : Layout → Option Var
first_variable whole = None
first_variable (one v rest) = Some v
first_variable (guarded g group rest) = None
first_variable (counted group rest) = None

-- what is left after the number n of the next variable: groups that look at it are opened by it; nothing if n isn't
-- admitted or the row has ended
abbrev pub after_number : Layout → ℕ → Option Layout
after_number whole n = None
after_number (one v rest) n = if admits v n then Some (onto n rest whole) else None
after_number (guarded g group rest) n = None
after_number (counted group rest) n = None

-- what is left after the number n of the next variable, admitted or not: groups that look at it are opened by it
abbrev pub after_any : Layout → ℕ → Option Layout
after_any whole n = None
after_any (one v rest) n = Some (onto n rest whole)
after_any (guarded g group rest) n = None
after_any (counted group rest) n = None

-- what is left of a row after the numbers f of it, one after another; nothing if one isn't admitted or the row has
-- ended
abbrev pub left_after : Layout → List ℕ → Option Layout
left_after row [] = Some row
left_after row (n ∷ f) = option_and_then (λ left. left_after left f) (after_number row n)

-- the pair of the next variable and its number, and more, if the row has such a variable and admits the number
abbrev pub one_more : Option Var → Option Layout → ℕ → (Layout → Reading) → Reading
one_more None mid n more = []
one_more (Some v) None n more = []
one_more (Some v) (Some mid) n more = (v, n) ∷ more mid

-- the numbers f of a row with their variables, up to the first that the row doesn't admit
abbrev pub read_of : Layout → List ℕ → Reading
read_of row [] = []
read_of row (n ∷ f) = one_more (first_variable row) (after_number row n) n (λ mid. read_of mid f)

-- ---- What a place means for the row.

-- what is left stands for the row after the numbers f, those of the pairs in front: a tail after these pairs is a
-- reading of the row exactly if it is one of what is left, and no other pairs with these numbers begin a reading of the
-- row; if nothing is left, no reading begins with them
abbrev pub StandsFor : Layout → List ℕ → Reading → Option Layout → Type 0
StandsFor row f front (Some left) =
    (numbers front ≡ f)
    × ((tail : Reading) → Reads row [] (front ++ tail) ↔ Reads left [] tail)
    × ((r : Reading) (tail : Reading) → Reads row [] (r ++ tail) → numbers r ≡ f → r ≡ front)
StandsFor row f front None = (r : Reading) (tail : Reading) → Reads row [] (r ++ tail) → numbers r ≡ f → ⊥

-- what is left after any numbers of a row stands for them, of every row whose guards and counts look at the variable
-- before
abbrev pub PlacesStand : Type 0
PlacesStand = (row : Layout) (f : List ℕ) → IsTrue (looks None row) → StandsFor row f (read_of row f) (left_after row f)

-- after numbers of a row exactly this many bits may follow, up to 8,191, as in what is left after them
abbrev pub PlacesMeasure : Type 0
PlacesMeasure = (row left : Layout) (f : List ℕ) → IsTrue (looks None row) → left_after row f ≡ Some left → (n : ℕ) → Lengths row f n ↔ Lengths left [] n
