-- What a place in a row stands for: what is left of the row, and the groups that wait (SUBSET-026, 7.4).
use Rattle.std.specs.Prelude.{◌≡◌, ℕ, ◌+◌, ◌-◌, ◌<◌, ◌≤◌, false, ◌&&◌, List, [], ◌∷◌, length, reverse, IsTrue, IfSome, sum_by}
use Rattle.etcs_rows.specs.declared.place.Pending.{Pending}
use Rattle.etcs_rows.specs.declared.place.Cursor.{Cursor}
use Rattle.etcs_tables.specs.Layouts.{Layout, whole, layout, begins, nests}
use Rattle.etcs_rows.specs.Lengths.{LengthsBy}
use Rattle.etcs_rows.specs.Places.{onto, iterate}
use Rattle.etcs_rows.specs.Progressions.{IsProgression}
use Rattle.etcs_rows.specs.Sums.{Plus}

-- what is left of the row by the groups that wait, the innermost first: each as often as it still occurs, and what
-- follows it
abbrev pub waiting : List Pending → Layout
waiting [] = whole
waiting (p ∷ ps) = iterate p.times (onto p.before (layout p.group.now)) (onto p.before (layout p.items.now) (waiting ps))

-- what is left of the row: the items of the current list, and then the groups that wait
abbrev pub left_of : Cursor → Layout
left_of c = onto c.before (layout c.items.now) (waiting (reverse c.pending.items))

-- ---- What keeps the stack small.

-- the steps that are kept, if any, are the lengths of the group
abbrev pub KnowsSteps : Pending → Type 0
KnowsSteps p = IfSome p.steps (λ s. IsProgression s (LengthsBy (layout p.group.now) p.before))

-- the tail that is kept, if any, is the lengths of what follows the group, with the groups that wait further out
abbrev pub KnowsTail : Pending → List Pending → Type 0
KnowsTail p ps = IfSome p.tail (λ s. IsProgression s (Plus (LengthsBy (layout p.items.now) p.before) (LengthsBy (waiting ps) 0)))

-- the groups that wait nest at most four deep, and what is kept of their lengths is right
abbrev pub WaitsNest : List Pending → Type 0
WaitsNest [] = Unit {0}
WaitsNest (p ∷ ps) = IsTrue (nests (4 - length ps) (layout p.items.now)) × (0 < p.times → IsTrue (begins (layout p.group.now) && nests (3 - length ps) (layout p.group.now))) × KnowsSteps p × KnowsTail p ps × WaitsNest ps

-- at most four groups wait, all that is left nests at most four deep, and what is kept of lengths is right
abbrev pub Nests : Cursor → Type 0
Nests c = (length c.pending.items ≤ 4) × IsTrue (nests (4 - length c.pending.items) (layout c.items.now)) × WaitsNest (reverse c.pending.items)

-- a variable comes next, or the row has ended
abbrev pub IsSettled : Cursor → Type 0
IsSettled c = (begins (layout c.items.now) ≡ false) → (c.items.now ≡ []) × (c.pending.items ≡ [])

-- the items that are left of the current list and after the groups that wait, counted so that opening groups ends
abbrev pub cursor_size : Cursor → ℕ
cursor_size c = length c.items.now + sum_by (λ p. length p.items.now + 1) c.pending.items
