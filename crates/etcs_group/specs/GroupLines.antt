-- The lines of groups: the numbers of each, its state, and its clashes.
use Rattle.std.specs.Prelude.{◌≡◌, ◌⊎◌, ◌↔◌, ◌==◌, ℕ, zero, suc, Bool, true, false, if◌then◌else◌, List, [], ◌∷◌, ◌++◌, Option, Some, codes, flat_map, slice_get, slice_index_or}
use Rattle.std.specs.Fmt.{decimal}
use Rattle.etcs_telegram.specs.Telegrams.{TelegramContent}
use Rattle.etcs_group.specs.declared.groups.Group.{Group}
use Rattle.etcs_group.specs.Groups.{Holds, HoldsNone}
use Rattle.etcs_group.specs.Messages.{IsMissing, IsWhole}

-- of the first n places of a list, those that are true, in rising order
abbrev pub trues : ℕ → List Bool → List ℕ
trues zero bs = []
trues (suc n) bs = trues n bs ++ (if slice_index_or bs n false then n ∷ [] else [])

-- the list is true at exactly the positions that are missing
abbrev pub AreMissing : List (Option TelegramContent) → List Bool → Type 0
AreMissing held bs = (p : ℕ) → (slice_get bs p ≡ Some true) ↔ IsMissing held p

-- positions, each after a blank
abbrev pub positions_text : List ℕ → List ℕ
positions_text ps = flat_map (λ p. codes " " ++ decimal p) ps

-- the text of a group's state: ` complete`, ` empty` if nothing is held, or ` missing` and exactly the missing
-- positions
abbrev pub StateText : List (Option TelegramContent) → List ℕ → Type 0
StateText held text =
    (IsWhole held × (text ≡ codes " complete"))
    ⊎ ((HoldsNone held × (text ≡ codes " empty"))
    ⊎ (((t : TelegramContent) × Holds held t) × (IsWhole held → ⊥) × ((bs : List Bool) × AreMissing held bs × (text ≡ codes " missing" ++ positions_text (trues 8 bs)))))

-- ` clashes` and their count; nothing if there are none
abbrev pub clashes_text : ℕ → List ℕ
clashes_text clashes = if clashes == 0 then [] else codes " clashes " ++ decimal clashes

-- a group's line: `group`, NID_C, NID_BG, its state, its clashes if there are any, and LF
abbrev pub IsGroupLine : Group → List ℕ → Type 0
IsGroupLine g line =
    (state : List ℕ) × StateText g.held state
    × (line ≡ codes "group " ++ decimal g.nid_c ++ codes " " ++ decimal g.nid_bg ++ state ++ clashes_text g.clashes ++ codes "\n")

-- the lines of groups, one after another
abbrev pub AreGroupLines : List Group → List ℕ → Type 0
AreGroupLines [] text = text ≡ []
AreGroupLines (g ∷ gs) text = (line : List ℕ) × (rest : List ℕ) × IsGroupLine g line × AreGroupLines gs rest × (text ≡ line ++ rest)

-- a blank and the front; nothing if there is none
abbrev pub front_text : List ℕ → List ℕ
front_text [] = []
front_text (c ∷ cs) = codes " " ++ c ∷ cs
