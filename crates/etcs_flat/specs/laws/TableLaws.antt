-- What loops over the table of a packet without groups compute, by the packet's variables.
use Rattle.std.proofs.Common.{◌≡◌, ℕ, ◌+◌, ◌≤◌, List, [], ◌∷◌, ◌++◌, length, map, drop, Option, Some, None, refl, sym, ap, ◌∙◌, append_assoc, arith, Bool, true, false}
use Rattle.std.specs.Prelude.{IsSome, sum_by, if◌then◌else◌}
use Rattle.std.specs.Option.{option_map, option_and_then}
use Rattle.std.proofs.lemmas.List.Sums.{sum_by-cons}
use Rattle.std.proofs.lemmas.List.{length-map}
use Rattle.etcs_vars.specs.declared.var.Var.{Var}
use Rattle.etcs_vars.specs.Vars.{width}
use Rattle.etcs_vars.specs.Reading.{Reading, spelled}
use Rattle.etcs_vars.proofs.Prefixes.{width-le}
use Rattle.etcs_vars.proofs.Sent.{length-sent}
use Rattle.etcs_tables.specs.declared.item.RowItem.{RowItem}
use Rattle.etcs_tables.specs.declared.item.RowItem.TheVariants.{One, When, Many}
use Rattle.etcs_tables.specs.declared.row.Way.{Way}
use Rattle.etcs_flat.specs.Flats.{flat_row_to, flat_fault_to, pairs, row_reading, flat_reading_to, variables, is_one}
use Rattle.etcs_flat.specs.laws.FlatLaws.{nothing_wrong, row_short}
use Rattle.etcs_flat.specs.Tables.{item_width, item_pair, table_pairs, table_from}
use Rattle.etcs_bodies.specs.Taking.{Left, next_number}
use Rattle.etcs_bodies.specs.Repeats.{beyond}
use Rattle.etcs_bodies.specs.laws.Repeats.{after_more}
use Rattle.std.specs.List.{list_all}
use Rattle.etcs_tables.specs.Layouts.{Layout, whole, one, guarded, counted, items}

-- ---- Pairs and widths.

pub pairs_of_none : (items : List RowItem) → table_pairs items [] ≡ []
pairs_of_none [] = refl
pairs_of_none (item ∷ items) = refl

pub pairs_in : (vs : List Var) (ns : List ℕ) → table_pairs (map One vs) ns ≡ pairs vs ns
pairs_in [] ns = refl
pairs_in (v ∷ vs) [] = refl
pairs_in (v ∷ vs) (n ∷ ns) = ap (λ (r : Reading). (v, n) ∷ r) (pairs_in vs ns)

pub width_in : (vs : List Var) (ns : List ℕ) → length ns ≡ length vs → sum_by item_width (map One vs) ≡ length (spelled (pairs vs ns))
width_in [] ns long = refl
width_in (v ∷ vs) [] long = absurd (omega arith)
width_in (v ∷ vs) (n ∷ ns) long = sum_by-cons item_width (One v) (map One vs) ∙ ap (λ k. width v + k) (width_in vs ns (omega (arith, long))) ∙ sym (length-sent v n (pairs vs ns))

pub item_narrow : (item : RowItem) → item_width item ≤ 64
item_narrow (One v) = width-le v
item_narrow (When g k) = omega arith
item_narrow (Many k) = omega arith

pub width_narrow : (v : Var) → width v ≤ 64
width_narrow v = width-le v

-- ---- Numbers that are taken.

-- one more, and none if the next isn't there or is a group
pub taken_more : (ns : List ℕ) (v : Var) (n : ℕ) (table : List RowItem) (s t : Left) → next_number v s ≡ Some (n, t) → beyond ns (table_from (One v ∷ table) s) ≡ beyond (ns ++ n ∷ []) (table_from table t)
taken_more ns v n table s t h = rw h (after_more ns n (table_from table t))

pub taken_none : (ns : List ℕ) (v : Var) (table : List RowItem) (s : Left) → next_number v s ≡ None → beyond ns (table_from (One v ∷ table) s) ≡ None
taken_none ns v table s h = rw h refl

-- one more pair
pub pairs_more : (table rest : List RowItem) (v : Var) (n : ℕ) (ns : List ℕ) → drop (length ns) table ≡ One v ∷ rest → table_pairs table (ns ++ n ∷ []) ≡ table_pairs table ns ++ (v, n) ∷ []
pairs_more [] rest v n [] e = absurd cc
pairs_more [] rest v n (m ∷ ns) e = absurd cc
pairs_more (item ∷ table) rest v n [] e = let first : item ≡ One v = cc in rw first (ap (λ (r : Reading). (v, n) ∷ r) (pairs_of_none table))
pairs_more (item ∷ table) rest v n (m ∷ ns) e = ap (λ (r : Reading). item_pair item m ++ r) (pairs_more table rest v n ns e) ∙ sym (append_assoc (item_pair item m) (table_pairs table ns) ((v, n) ∷ []))

-- ---- The table of a row without groups.

first_item : (v : Var) (t : Bool) (table : List RowItem) (o : Option (List Var)) → (if t then Some table else None) ≡ option_map (λ vs. map One vs) o → (if t then Some (One v ∷ table) else None) ≡ option_map (λ vs. map One vs) (option_map (λ vs. v ∷ vs) o)
first_item v true table (Some vs) e = let same : table ≡ map One vs = cc in ap (λ (l : List RowItem). Some (One v ∷ l)) same
first_item v true table None e = absurd cc
first_item v false table (Some vs) e = absurd cc
first_item v false table None e = refl

items_flat : (row : Layout) → (if list_all is_one (items row) then Some (items row) else None) ≡ option_map (λ vs. map One vs) (variables row)
items_flat whole = refl
items_flat (one v rest) = first_item v (list_all is_one (items rest)) (items rest) (variables rest) (items_flat rest)
items_flat (guarded g group rest) = refl
items_flat (counted group rest) = refl

-- if a row has no groups, its table has none
pub flat_table : (o : Option Layout) (table : List RowItem) → Some table ≡ option_map items o → (if list_all is_one table then Some table else None) ≡ option_map (λ vs. map One vs) (option_and_then variables o)
flat_table None table is = absurd cc
flat_table (Some row) table is = let same : table ≡ items row = cc in rw same (items_flat row)

-- ---- A packet's own table.

-- it is the variables of the row
own_table : (o : Option (List Var)) (table : List RowItem) → Some table ≡ option_map (λ vs. map One vs) o → (vs : List Var) × (o ≡ Some vs) × (table ≡ map One vs)
own_table None table e = absurd cc
own_table (Some vs) table e = (vs, refl, cc)

-- it has at most six items
pub table_short : (way : Way) (nid : ℕ) (table : List RowItem) → Some table ≡ option_map (λ vs. map One vs) (flat_row_to way nid) → length table ≤ 6
table_short way nid table is =
    let t = own_table (flat_row_to way nid) table is in
    omega (arith, row_short way nid t.0 t.1, ap length t.2, length-map t.0 One)

pub row_there : (way : Way) (nid dir : ℕ) (ns : List ℕ) → flat_fault_to way nid dir ns ≡ None → IsSome (flat_row_to way nid)
row_there way nid dir ns fine = let x = nothing_wrong way (flat_row_to way nid) dir ns fine in rw x.1 refl

pub table_width : (way : Way) (nid dir : ℕ) (ns : List ℕ) (table : List RowItem) → flat_fault_to way nid dir ns ≡ None → Some table ≡ option_map (λ vs. map One vs) (flat_row_to way nid) → sum_by item_width table ≡ length (spelled (flat_reading_to way nid ns))
table_width way nid dir ns table fine is =
    let t = own_table (flat_row_to way nid) table is in
    let x = nothing_wrong way (flat_row_to way nid) dir ns fine in
    let same : x.0 ≡ t.0 = (let e : Some x.0 ≡ Some t.0 = sym x.1 ∙ t.1 in cc) in
    ap (sum_by item_width) t.2 ∙ width_in t.0 ns (x.2 ∙ ap length same) ∙ ap (λ (o : Option (List Var)). length (spelled (row_reading o ns))) (sym t.1)

pub table_reading : (way : Way) (nid : ℕ) (ns : List ℕ) (table : List RowItem) → Some table ≡ option_map (λ vs. map One vs) (flat_row_to way nid) → table_pairs table ns ≡ flat_reading_to way nid ns
table_reading way nid ns table is =
    let t = own_table (flat_row_to way nid) table is in
    ap (λ (l : List RowItem). table_pairs l ns) t.2 ∙ pairs_in t.0 ns ∙ ap (λ (o : Option (List Var)). row_reading o ns) (sym t.1)
