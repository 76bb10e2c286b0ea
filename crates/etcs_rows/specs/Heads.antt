-- What comes first in a row's items.
use Rattle.std.specs.Prelude.{◌≡◌, ℕ, ◌<◌, List, [], ◌∷◌, length, false, Option, Some, None}
use Rattle.etcs_tables.specs.declared.item.RowItem.{RowItem}
use Rattle.etcs_tables.specs.declared.item.RowItem.TheVariants as item
use Rattle.etcs_rows.specs.declared.head.Head.{Head}
use Rattle.etcs_rows.specs.declared.head.Head.TheVariants.{End, One, When, Many}
use Rattle.etcs_rows.specs.declared.head.Alone.{Alone}
use Rattle.etcs_rows.specs.declared.head.Alone.TheVariants as alone
use Rattle.etcs_tables.specs.Layouts.{Layout, layout, guarded, counted}
use Rattle.etcs_rows.specs.declared.head.Looked.{Looked}
use Rattle.etcs_rows.specs.Lengths.{LengthsBy, beyond, begins_with_group, GroupsWithin}
use Rattle.etcs_rows.specs.Sums.{Plus}

-- the items begin with this head: nothing, a variable or a group, and what follows; each part is shorter than all
abbrev pub IsHead : Head → List RowItem → Type 0
IsHead End items = items ≡ []
IsHead (One v rest) items = (items ≡ item.One v ∷ rest.now) × (length rest.now < length items)
IsHead (When g group rest) items = (layout items ≡ guarded g (layout group.now) (layout rest.now)) × (length group.now < length items) × (length rest.now < length items)
IsHead (Many group rest) items = (layout items ≡ counted (layout group.now) (layout rest.now)) × (length group.now < length items) × (length rest.now < length items)

-- the items begin with this group, and no other group looks at the number before it
abbrev pub IsAlone : Alone → List RowItem → Type 0
IsAlone (alone.When g group) items = (rest : Layout) × (layout items ≡ guarded g (layout group.now) rest) × (begins_with_group (layout group.now) ≡ false) × (begins_with_group rest ≡ false) × (length group.now < length items)
IsAlone (alone.Many group) items = (rest : Layout) × (layout items ≡ counted (layout group.now) rest) × (begins_with_group (layout group.now) ≡ false) × (begins_with_group rest ≡ false) × (length group.now < length items)

-- the lengths of the groups that look at a variable and of what follows them, or 0 if there is no such variable
abbrev pub AfterLooked : Option Looked → ℕ → Type 0
AfterLooked None m = m ≡ 0
AfterLooked (Some l) m = Plus (GroupsWithin l.var (layout l.rest.now) 0 18446744073709551615) (LengthsBy (beyond (layout l.rest.now)) 0) m
