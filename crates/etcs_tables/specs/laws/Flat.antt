-- A table's row, item by item; and what is left of a row, which is stored as its table.
use Rattle.std.proofs.Common.{◌≡◌, ℕ, zero, suc, ◌≤◌, List, [], ◌∷◌, ◌++◌, length, take, drop, refl, ap, ◌∙◌, arith}
use Rattle.std.specs.Coded.{Coded, code_by, coded_list}
use Rattle.std.proofs.lemmas.List.{length-take, length-drop, take_at, drop_at}
use Rattle.etcs_tables.specs.declared.item.Guard.{Guard}
use Rattle.etcs_tables.specs.declared.item.RowItem.{RowItem}
use Rattle.etcs_tables.specs.declared.item.RowItem.TheVariants.{One, When, Many}
use Rattle.etcs_tables.specs.contracts.item.RowItem as row_item
use Rattle.etcs_tables.specs.Layouts.{Layout, whole, one, guarded, counted, items, layout, layout_in}

-- enough fuel is enough
pub layout_in-enough : (n m : ℕ) (table : List RowItem) → length table ≤ n → length table ≤ m → layout_in n table ≡ layout_in m table
layout_in-enough zero zero table h k = refl
layout_in-enough zero (suc m) [] h k = refl
layout_in-enough zero (suc m) (item ∷ table) h k = absurd (omega arith)
layout_in-enough (suc n) zero [] h k = refl
layout_in-enough (suc n) zero (item ∷ table) h k = absurd (omega arith)
layout_in-enough (suc n) (suc m) [] h k = refl
layout_in-enough (suc n) (suc m) (One v ∷ table) h k = ap (one v) (layout_in-enough n m table (omega arith) (omega arith))
layout_in-enough (suc n) (suc m) (When g j ∷ table) h k =
    let a = layout_in-enough n m (take j table) (omega (arith, length-take j table)) (omega (arith, length-take j table)) in
    let b = layout_in-enough n m (drop j table) (omega (arith, length-drop j table)) (omega (arith, length-drop j table)) in
    cc
layout_in-enough (suc n) (suc m) (Many j ∷ table) h k =
    let a = layout_in-enough n m (take j table) (omega (arith, length-take j table)) (omega (arith, length-take j table)) in
    let b = layout_in-enough n m (drop j table) (omega (arith, length-drop j table)) (omega (arith, length-drop j table)) in
    cc

pub layout-when : (g : Guard) (j : ℕ) (table : List RowItem) → layout (When g j ∷ table) ≡ guarded g (layout (take j table)) (layout (drop j table))
layout-when g j table =
    let a = layout_in-enough (length table) (length (take j table)) (take j table) (omega (arith, length-take j table)) (omega arith) in
    let b = layout_in-enough (length table) (length (drop j table)) (drop j table) (omega (arith, length-drop j table)) (omega arith) in
    cc

pub layout-many : (j : ℕ) (table : List RowItem) → layout (Many j ∷ table) ≡ counted (layout (take j table)) (layout (drop j table))
layout-many j table =
    let a = layout_in-enough (length table) (length (take j table)) (take j table) (omega (arith, length-take j table)) (omega arith) in
    let b = layout_in-enough (length table) (length (drop j table)) (drop j table) (omega (arith, length-drop j table)) (omega arith) in
    cc

-- a row comes back from its table
pub layout-items : (row : Layout) → layout (items row) ≡ row
layout-items whole = refl
layout-items (one v rest) = ap (one v) (layout-items rest)
layout-items (guarded g group rest) =
    let a = layout-items group in
    let b = layout-items rest in
    layout-when g (length (items group)) (items group ++ items rest) ∙ rw (take_at (items group) (items rest) (length (items group)) refl, drop_at (items group) (items rest) (length (items group)) refl, a, b) refl
layout-items (counted group rest) =
    let a = layout-items group in
    let b = layout-items rest in
    layout-many (length (items group)) (items group ++ items rest) ∙ rw (take_at (items group) (items rest) (length (items group)) refl, drop_at (items group) (items rest) (length (items group)) refl, a, b) refl

abbrev pub layout_code : Coded Layout
layout_code = code_by (List RowItem) (coded_list row_item.the_row.coded) items layout layout-items
