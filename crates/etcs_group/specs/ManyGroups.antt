-- Balise groups by NID_C and NID_BG, in the order in which they began (SUBSET-026, 3.16.2.4).
use Rattle.std.specs.Prelude.{◌≡◌, ◌⊎◌, ℕ, ◌+◌, ◌-◌, ◌*◌, ◌^◌, ◌<◌, min, List, [], ◌∷◌, ◌++◌, replicate, Option, Some, None, Contains, slice_get, slice_set, length}
use Rattle.std.specs.Ordering.{nat_cmp}
use Rattle.std.specs.BTreeMap.{BTreeMap, get}
use Rattle.etcs_telegram.specs.Telegrams.{TelegramContent}
use Rattle.etcs_group.specs.declared.groups.Group.{Group}
use Rattle.etcs_group.specs.declared.clash.Clash.{Clash}
use Rattle.etcs_group.specs.Clashes.{IsFirstClash}
use Rattle.etcs_group.specs.Groups.{IsGroup, Joins, HeldAfter}

-- the group is of this NID_C and NID_BG
abbrev pub IsOfNumbers : ℕ → ℕ → Group → Type 0
IsOfNumbers nid_c nid_bg g = (g.nid_c ≡ nid_c) × (g.nid_bg ≡ nid_bg)

-- no group of the list is of these numbers
abbrev pub HasNone : List Group → ℕ → ℕ → Type 0
HasNone gs nid_c nid_bg = (g : Group) → Contains gs g → IsOfNumbers nid_c nid_bg g → ⊥

-- a group of which nothing is held, and no telegram clashed
abbrev pub empty_group : ℕ → ℕ → Group
empty_group nid_c nid_bg = record { nid_c = nid_c; nid_bg = nid_bg; held = replicate 8 None; clashes = 0 }

-- a group after an add of t: it holds t too if t joins what is held, and else counts a clash, up to 2 ^ 64 - 1
pub record GroupAfter (old : Group) (t : TelegramContent) (new : Group) : Type 0 where
  pub same : IsOfNumbers old.nid_c old.nid_bg new
  pub held : HeldAfter old.held t new.held
  pub placed : IsGroup new.held
  pub clashes : (Joins old.held t × (new.clashes ≡ old.clashes)) ⊎ ((Joins old.held t → ⊥) × (new.clashes ≡ min (old.clashes + 1) (2 ^ 64 - 1)))

-- a group that holds t too, if t joins what it holds
pub record GroupHolds (old : Group) (t : TelegramContent) (new : Group) : Type 0 where
  pub same : IsOfNumbers old.nid_c old.nid_bg new
  pub held : HeldAfter old.held t new.held
  pub placed : IsGroup new.held
  pub clashes : new.clashes ≡ old.clashes

-- t is of the group and joins what it holds
abbrev pub Takes : Group → TelegramContent → Type 0
Takes g t = IsOfNumbers t.header.nid_c t.header.nid_bg g × Joins g.held t

-- the group of these numbers, of which nothing is held if there is none
abbrev pub IsGroupOf : List Group → ℕ → ℕ → Group → Type 0
IsGroupOf gs nid_c nid_bg g = (Contains gs g × IsOfNumbers nid_c nid_bg g) ⊎ (HasNone gs nid_c nid_bg × (g ≡ empty_group nid_c nid_bg))

-- t clashes first in this way with what the group of its numbers holds; or there is no clash, and it joins that
abbrev pub IsClashWith : List Group → TelegramContent → Option Clash → Type 0
IsClashWith gs t None = (g : Group) × IsGroupOf gs t.header.nid_c t.header.nid_bg g × Joins g.held t
IsClashWith gs t (Some c) = (g : Group) × IsGroupOf gs t.header.nid_c t.header.nid_bg g × IsFirstClash c g.held t

-- the groups after an add of t: the group of its numbers has it, and all others are as before; if there was none, it
-- begins, after all others
abbrev pub Adds : List Group → TelegramContent → List Group → Type 0
Adds old t new =
    let nid_c = t.header.nid_c in
    let nid_bg = t.header.nid_bg in
    ((k : ℕ) × (g : Group) × (h : Group) × (slice_get old k ≡ Some g) × IsOfNumbers nid_c nid_bg g × GroupAfter g t h × (new ≡ slice_set old k h))
    ⊎ (HasNone old nid_c nid_bg × ((h : Group) × GroupAfter (empty_group nid_c nid_bg) t h × (new ≡ old ++ h ∷ [])))

-- the groups after adds of these telegrams, one after another
abbrev pub AddsAll : List Group → List TelegramContent → List Group → Type 0
AddsAll old [] new = new ≡ old
AddsAll old (t ∷ ts) new = (mid : List Group) × Adds old t mid × AddsAll mid ts new

-- the groups of these telegrams, which came in this order: each begins with its first telegram, holds what HeldAfter
-- gives for its own, and counts those that clash, up to 2 ^ 64 - 1
abbrev pub AreGroupsOf : List TelegramContent → List Group → Type 0
AreGroupsOf ts gs = AddsAll [] ts gs

-- no two groups have the same NID_C and NID_BG
abbrev pub AreDistinct : List Group → Type 0
AreDistinct gs = (i j : ℕ) (g h : Group) → slice_get gs i ≡ Some g → slice_get gs j ≡ Some h → IsOfNumbers h.nid_c h.nid_bg g → i ≡ j

-- NID_C and NID_BG as one number
abbrev pub group_key : ℕ → ℕ → ℕ
group_key nid_c nid_bg = nid_c * 65536 + nid_bg

-- the map has the place of each group
pub record Indexes (places : BTreeMap ℕ ℕ) (gs : List Group) : Type 0 where
  pub small : (k : ℕ) (g : Group) → slice_get gs k ≡ Some g → g.nid_bg < 65536
  pub found : (k : ℕ) (g : Group) → slice_get gs k ≡ Some g → get nat_cmp places (group_key g.nid_c g.nid_bg) ≡ Some k
  pub there : (key k : ℕ) → get nat_cmp places key ≡ Some k → (g : Group) × (slice_get gs k ≡ Some g) × (group_key g.nid_c g.nid_bg ≡ key)

-- place k has the group of these numbers, which was there before, or begins after all others
abbrev pub Opens : List Group → ℕ → ℕ → ℕ → List Group → Type 0
Opens old nid_c nid_bg k new =
    ((new ≡ old) × ((g : Group) × (slice_get old k ≡ Some g) × IsOfNumbers nid_c nid_bg g))
    ⊎ ((new ≡ old ++ empty_group nid_c nid_bg ∷ []) × (k ≡ length old) × HasNone old nid_c nid_bg)
