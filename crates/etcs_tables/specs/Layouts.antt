-- Rows of packets and messages as nested lists, and what they spell (SUBSET-026, chapters 7.4 and 8). Before the rest
-- of a row is a variable, a guarded group (a row that is there if a test holds of the nearest variable of a name before
-- it) or a counted group (a row that is there as often as the number just before it).
use Rattle.std.specs.Prelude.{◌≡◌, ℕ, zero, suc, ◌-◌, ◌≤◌, Bool, true, false, ◌&&◌, ◌||◌, ◌==◌, List, [], ◌∷◌, ◌++◌, length, take, drop, IsTrue, Option, Some, None, if◌then◌else◌, nat_le, nat_lt, MatchBool}
use Rattle.etcs_vars.specs.declared.var.Var.{Var}
use Rattle.etcs_vars.specs.Vars.{width, admits, same_name}
use Rattle.etcs_vars.specs.Reading.{Sent, Reading, Then, Times, spelled, numbers}
use Rattle.etcs_tables.specs.declared.item.Test.{Test}
use Rattle.etcs_tables.specs.declared.item.Test.TheVariants.{IsZero, IsOne, IsOneOrTwo, IsNotZero}
use Rattle.etcs_tables.specs.declared.item.Guard.{Guard}
use Rattle.etcs_tables.specs.declared.item.RowItem.{RowItem}
use Rattle.etcs_tables.specs.declared.item.RowItem.TheVariants.{One, When, Many}

-- a row as a nested list: nothing (whole), or a variable (one), a guarded group or a counted group, and then the rest
-- of the row
pub data Layout : Type 0 where
  whole : Layout
  one : Var → Layout → Layout
  guarded : Guard → Layout → Layout → Layout
  counted : Layout → Layout → Layout

-- ---- The variables that come before, the nearest first.

-- pairs of a variable and its number that come before, the nearest first
abbrev pub Scope : Type 0
Scope = List Sent

-- the test holds of the number n
abbrev pub passes : Test → ℕ → Bool
passes IsZero n = n == 0
passes IsOne n = n == 1
passes IsOneOrTwo n = n == 1 || n == 2
passes IsNotZero n = nat_lt 0 n

-- the number of the nearest variable of this printed name in the pairs that come before, if there is one
abbrev pub nearest : Var → Scope → Option ℕ
nearest v [] = None
nearest v (p ∷ s) = if same_name p.0 v then Some p.1 else nearest v s

-- the guard holds after the pairs s: its variable is among them, and the number of the nearest one passes its test
abbrev pub holds : Guard → Scope → Bool
holds g s = elim (nearest g.var s) [ None ↦ false | Some n ↦ passes g.test n ]

-- how often a counted group occurs after the pairs s: as the number just before it, 0 if there is none
abbrev pub count_before : Scope → ℕ
count_before [] = 0
count_before (p ∷ s) = p.1

-- ---- What a row spells.

-- r is a reading of the row after the pairs s, which come before it, the nearest first
unfoldable pub Reads : Layout → Scope → Reading → Type 0
Reads whole s r = r ≡ []
Reads (one v rest) s r = (n : ℕ) × (r' : Reading) × IsTrue (admits v n) × (r ≡ (v, n) ∷ r') × Reads rest ((v, n) ∷ s) r'
Reads (guarded g group rest) s r = MatchBool (holds g s) (Then (Reads group s) (Reads rest s) r) (Reads rest s r)
Reads (counted group rest) s r = Then (Times (count_before s) (Reads group s)) (Reads rest s) r

-- a reading of the row after the pairs s has the numbers f and the bits b
abbrev pub Spells : Layout → Scope → List ℕ → List Bool → Type 0
Spells row s f b = (r : Reading) × Reads row s r × (numbers r ≡ f) × (spelled r ≡ b)

-- the most bits that L_PACKET leaves for the row of a packet to the train: 8,191 less the frame of 23
abbrev pub ROW_LIMIT : ℕ
ROW_LIMIT = 8168

-- the row spells the numbers f in at most 8,168 bits
abbrev pub AdmitsFields : Layout → List ℕ → Type 0
AdmitsFields row f = (b : List Bool) × Spells row [] f b × (length b ≤ ROW_LIMIT)

-- ---- A row as a table of items, in which a group is given by the number of its items.

-- the flat table of a row, in which a group is given by the number of its items: layout of it is the row again
abbrev pub items : Layout → List RowItem
items whole = []
items (one v rest) = One v ∷ items rest
items (guarded g group rest) = When g (length (items group)) ∷ items group ++ items rest
items (counted group rest) = Many (length (items group)) ∷ items group ++ items rest

-- the row of the first n items of a table, as far as they go
abbrev pub layout_in : ℕ → List RowItem → Layout
layout_in zero table = whole
layout_in (suc n) [] = whole
layout_in (suc n) (One v ∷ table) = one v (layout_in n table)
layout_in (suc n) (When g k ∷ table) = guarded g (layout_in n (take k table)) (layout_in n (drop k table))
layout_in (suc n) (Many k ∷ table) = counted (layout_in n (take k table)) (layout_in n (drop k table))

-- the row of a table
abbrev pub layout : List RowItem → Layout
layout table = layout_in (length table) table

-- ---- What every table of this project keeps, as a test that computes.

-- the guard looks at the variable just before it, if there is one
abbrev pub looks_at : Guard → Option Var → Bool
looks_at g None = false
looks_at g (Some v) = same_name v g.var

-- the variable just before a counted group has at most 8 bits
abbrev pub counts_by : Option Var → Bool
counts_by None = false
counts_by (Some v) = nat_le (width v) 8

-- the row begins with a variable
abbrev pub begins : Layout → Bool
begins whole = false
begins (one v rest) = true
begins (guarded g group rest) = false
begins (counted group rest) = false

-- at most depth groups inside one another, and each begins with a variable
abbrev pub nests : ℕ → Layout → Bool
nests depth whole = true
nests depth (one v rest) = nests depth rest
nests depth (guarded g group rest) = nat_lt 0 depth && begins group && nests (depth - 1) group && nests depth rest
nests depth (counted group rest) = nat_lt 0 depth && begins group && nests (depth - 1) group && nests depth rest

-- each guard looks at the variable just before it, which is last before the row, with nothing between but groups on the
-- same variable, and each count has at most 8 bits
abbrev pub looks : Option Var → Layout → Bool
looks last whole = true
looks last (one v rest) = looks (Some v) rest
looks last (guarded g group rest) = looks_at g last && looks last group && looks last rest
looks last (counted group rest) = counts_by last && looks last group && looks last rest

-- groups nest at most four deep, each begins with a variable, each guard looks at the variable just before it (with
-- nothing between but groups on that variable), and each count has at most 8 bits
abbrev pub is_sound : Layout → Bool
is_sound row = nests 4 row && looks None row

-- ---- What is left of a row.

-- some continuation of the numbers f of the row takes n bits, and n is at most 8,191
abbrev pub Lengths : Layout → List ℕ → ℕ → Type 0
Lengths row f n = (r : Reading) × (rest : Reading) × Reads row [] (r ++ rest) × (numbers r ≡ f) × (length (spelled rest) ≡ n) × (n ≤ 8191)

-- r is a reading of the row that takes len bits
abbrev pub ReadsIn : Layout → ℕ → Reading → Type 0
ReadsIn row len r = Reads row [] r × (length (spelled r) ≡ len)
