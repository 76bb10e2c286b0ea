-- Telegrams make one list of groups, each of its own telegrams; and groups have one text.
use Rattle.std.specs.Prelude.{◌≡◌, ◌⊎◌, ◌==◌, ◌&&◌, ℕ, ◌+◌, ◌-◌, ◌^◌, min, List, [], ◌∷◌, Contains, filter, reverse}
use Rattle.etcs_telegram.specs.Telegrams.{TelegramContent}
use Rattle.etcs_group.specs.declared.groups.Group.{Group}
use Rattle.etcs_group.specs.Groups.{JoinsSet, HeldOf, IsHeldOf}
use Rattle.etcs_group.specs.ManyGroups.{AreGroupsOf, AreDistinct}
use Rattle.etcs_group.specs.GroupLines.{AreGroupLines}

-- telegrams in this order have one list of groups
abbrev pub OneList : Type 0
OneList = (ts : List TelegramContent) (gs gs' : List Group) → AreGroupsOf ts gs → AreGroupsOf ts gs' → gs ≡ gs'

-- no two groups of such a list have the same NID_C and NID_BG
abbrev pub OneOfEach : Type 0
OneOfEach = (ts : List TelegramContent) (gs : List Group) → AreGroupsOf ts gs → AreDistinct gs

-- groups have one text
abbrev pub OneText : Type 0
OneText = (gs : List Group) (text text' : List ℕ) → AreGroupLines gs text → AreGroupLines gs text' → text ≡ text'

-- the telegrams of a list that are of these numbers, in their order
abbrev pub own : ℕ → ℕ → List TelegramContent → List TelegramContent
own nid_c nid_bg ts = filter (λ t. (t.header.nid_c == nid_c) && (t.header.nid_bg == nid_bg)) ts

-- n is how many of these adds, the last of them first, find a set that they don't join, up to 2 ^ 64 - 1
abbrev pub RefusedOf : List TelegramContent → ℕ → Type 0
RefusedOf [] n = n ≡ 0
RefusedOf (t ∷ earlier) n =
    (JoinsSet (HeldOf earlier) t × RefusedOf earlier n)
    ⊎ ((JoinsSet (HeldOf earlier) t → ⊥) × ((m : ℕ) × RefusedOf earlier m × (n ≡ min (m + 1) (2 ^ 64 - 1))))

-- these adds, the last of them first, make what a group holds, and its clashes
abbrev pub IsMadeOf : List TelegramContent → Group → Type 0
IsMadeOf ts g = IsHeldOf ts g.held × RefusedOf ts g.clashes

-- each group holds what its own telegrams make, in their order, and its clashes are those of them that are refused
abbrev pub OwnTelegrams : Type 0
OwnTelegrams = (ts : List TelegramContent) (gs : List Group) (g : Group) → AreGroupsOf ts gs → Contains gs g → IsMadeOf (own g.nid_c g.nid_bg (reverse ts)) g
