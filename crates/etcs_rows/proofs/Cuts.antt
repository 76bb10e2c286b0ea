-- A group in front, cut off as the code does.
use Rattle.std.proofs.Common.{◌≡◌, ℕ, List, [], ◌∷◌, length, take, drop, refl, ap, ◌∙◌, arith}
use Rattle.std.specs.Prelude.{min}
use Rattle.std.proofs.Math.Nat.{min_comm}
use Rattle.std.proofs.lemmas.List.{take_min, drop_min}
use Rattle.etcs_tables.specs.declared.item.Guard.{Guard}
use Rattle.etcs_tables.specs.declared.item.RowItem.{RowItem}
use Rattle.etcs_tables.specs.declared.item.RowItem.TheVariants.{When, Many}
use Rattle.etcs_tables.specs.Layouts.{guarded, counted, layout}
use Rattle.etcs_tables.specs.laws.Flat.{layout-when, layout-many}

pub no_item : (xs : List RowItem) → length xs ≡ 0 → xs ≡ []
no_item [] e = refl
no_item (x ∷ xs) e = absurd (omega (arith, e))

take_clamped : {A : Type 0} (n : ℕ) (xs : List A) → take (min (length xs) n) xs ≡ take n xs
take_clamped n xs = ap (λ k. take k xs) (min_comm (length xs) n) ∙ take_min n xs

drop_clamped : {A : Type 0} (n : ℕ) (xs : List A) → drop (min (length xs) n) xs ≡ drop n xs
drop_clamped n xs = ap (λ k. drop k xs) (min_comm (length xs) n) ∙ drop_min n xs

-- a guarded group in front, cut off as the code does
pub layout-when_cut : (g : Guard) (j : ℕ) (table rest front back : List RowItem) → table ≡ When g j ∷ rest → front ≡ take (min (length rest) j) rest → back ≡ drop (min (length rest) j) rest → layout table ≡ guarded g (layout front) (layout back)
layout-when_cut g j table rest front back e f b = rw (e, f, b, take_clamped, drop_clamped) (layout-when g j rest)

pub layout-many_cut : (j : ℕ) (table rest front back : List RowItem) → table ≡ Many j ∷ rest → front ≡ take (min (length rest) j) rest → back ≡ drop (min (length rest) j) rest → layout table ≡ counted (layout front) (layout back)
layout-many_cut j table rest front back e f b = rw (e, f, b, take_clamped, drop_clamped) (layout-many j rest)
