-- Packets without groups with which nothing is wrong.
use Rattle.std.proofs.Common.{◌≡◌, ℕ, ◌*◌, ◌≤◌, ◌==◌, Bool, true, false, List, [], ◌∷◌, length, Option, Some, None, refl, arith, rules}
use Rattle.std.specs.Prelude.{IsTrue, if◌then◌else◌, nat_le}
use Rattle.std.specs.Option.{option_map}
use Rattle.std.proofs.lemmas.Option.{option_and_then_some}
use Rattle.std.proofs.lemmas.Bool.Decides.{nat_tests}
use Rattle.etcs_vars.specs.declared.var.Var.{Var}
use Rattle.etcs_vars.specs.declared.var.Var.TheVariants.{Q_DIR}
use Rattle.etcs_vars.specs.declared.fault.BuildFault.{BuildFault}
use Rattle.etcs_vars.specs.declared.fault.BuildFault.TheVariants.{NotAdmitted, Count}
use Rattle.etcs_vars.specs.Faults.{◌or_else◌, number_fault}
use Rattle.etcs_vars.specs.Vars.{admits}
use Rattle.etcs_vars.specs.Reading.{spelled}
use Rattle.etcs_vars.proofs.Prefixes.{width-le}
use Rattle.etcs_vars.proofs.Sent.{length-sent}
use Rattle.etcs_tables.specs.declared.row.Way.{Way}
use Rattle.etcs_tables.specs.declared.row.Way.TheVariants.{ToTrain, ToTrack}
use Rattle.etcs_tables.specs.Frames.{is_direction}
use Rattle.etcs_tables.specs.Rows.{row_to, rows_to}
use Rattle.etcs_tables.specs.Layouts.{Layout}
use Rattle.etcs_tables.proofs.EachRow.{of_each}
use Rattle.etcs_flat.specs.Flats.{variables, flat_row_to, numbers_fault, row_fault, pairs}
use Rattle.etcs_flat.specs.Others.{direction_fault}

-- ---- Faults, one after another.

pub none_both : (a b : Option BuildFault) → a or_else b ≡ None → (a ≡ None) × (b ≡ None)
none_both None b e = (refl, e)
none_both (Some x) b e = absurd cc

by_test : (b : Bool) (e : BuildFault) → (if b then None else Some e) ≡ None → IsTrue b
by_test true e h = refl
by_test false e h = absurd cc

pub number_fine : (v : Var) (n : ℕ) → number_fault v n ≡ None → IsTrue (admits v n)
number_fine v n e = by_test (admits v n) (NotAdmitted v) e

pub fine_number : (v : Var) (n : ℕ) → IsTrue (admits v n) → number_fault v n ≡ None
fine_number v n h = rw h refl

pub direction_fine : (way : Way) (dir : ℕ) → direction_fault way dir ≡ None → IsTrue (is_direction way dir)
direction_fine way dir e = by_test (is_direction way dir) (NotAdmitted Q_DIR) e

pub fine_direction : (way : Way) (dir : ℕ) → IsTrue (is_direction way dir) → direction_fault way dir ≡ None
fine_direction way dir h = rw h refl

count_fine : (ns : List ℕ) (vs : List Var) → (if length ns == length vs then None else Some Count) ≡ None → length ns ≡ length vs
count_fine ns vs e = grind (arith, rules)

pub same_count : {A : Type 0} (m n : ℕ) (x y : A) → m ≡ n → (if m == n then x else y) ≡ x
same_count m n x y e = grind (arith, rules)

-- ---- Readings of a row without groups.

-- the variables of a row that begins with one
pub after_first : (v : Var) (o : Option (List Var)) (vs : List Var) → option_map (λ ws. v ∷ ws) o ≡ Some vs → (ws : List Var) × (o ≡ Some ws) × (v ∷ ws ≡ vs)
after_first v (Some ws) vs e = (ws, refl, cc)
after_first v None vs e = absurd cc

pub pairs-short : (vs : List Var) (ns : List ℕ) → length (spelled (pairs vs ns)) ≤ 64 * length vs
pairs-short [] ns = omega arith
pairs-short (v ∷ vs) [] = omega arith
pairs-short (v ∷ vs) (n ∷ ns) = omega (arith, length-sent v n (pairs vs ns), width-le v, pairs-short vs ns)

-- ---- Every row without groups is short.

-- at most six variables
abbrev short : Option (List Var) → Bool
short None = true
short (Some vs) = nat_le (length vs) 6

at_most_six : (o : Option (List Var)) (vs : List Var) → IsTrue (short o) → o ≡ Some vs → length vs ≤ 6
at_most_six None vs h e = absurd cc
at_most_six (Some ws) vs h e =
    let same : ws ≡ vs = cc in
    rw (← same) (grind (arith, nat_tests))

each_short : (way : Way) (nid : ℕ) (row : Layout) → row_to way nid ≡ Some row → IsTrue (short (variables row))
each_short ToTrain nid row is = of_each (λ n r. short (variables r)) (rows_to ToTrain) nid row refl is
each_short ToTrack nid row is = of_each (λ n r. short (variables r)) (rows_to ToTrack) nid row refl is

pub row_short : (way : Way) (nid : ℕ) (vs : List Var) → flat_row_to way nid ≡ Some vs → length vs ≤ 6
row_short way nid vs e = option_and_then_some variables (row_to way nid) vs e (λ row is its. at_most_six (variables row) vs (each_short way nid row is) its)

-- ---- What nothing is wrong with.

pub nothing_wrong : (way : Way) (o : Option (List Var)) (dir : ℕ) (ns : List ℕ) → row_fault way o dir ns ≡ None → (vs : List Var) × (o ≡ Some vs) × (length ns ≡ length vs) × IsTrue (is_direction way dir) × (numbers_fault vs ns ≡ None)
nothing_wrong way None dir ns fine = absurd cc
nothing_wrong way (Some vs) dir ns fine =
    let a = none_both (if length ns == length vs then None else Some Count) (direction_fault way dir or_else numbers_fault vs ns) fine in
    let b = none_both (direction_fault way dir) (numbers_fault vs ns) a.1 in
    (vs, refl, count_fine ns vs a.0, direction_fine way dir b.0, b.1)

pub nothing_found : (way : Way) (o : Option (List Var)) (vs : List Var) (dir : ℕ) (ns : List ℕ) → o ≡ Some vs → length ns ≡ length vs → IsTrue (is_direction way dir) → numbers_fault vs ns ≡ None → row_fault way o dir ns ≡ None
nothing_found way o vs dir ns is long admitted fine = rw (is, same_count (length ns) (length vs) None (Some Count) long, fine_direction way dir admitted) fine
