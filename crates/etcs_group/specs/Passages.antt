-- The passages of a log: telegrams of one group that follow one another (SUBSET-026, 3.16.2.4).
use Rattle.std.specs.Prelude.{◌≡◌, ◌⊎◌, ℕ, List, [], ◌∷◌, ◌++◌, Option, Some, None, codes}
use Rattle.std.specs.Fmt.{decimal}
use Rattle.etcs_telegram.specs.Telegrams.{TelegramContent}
use Rattle.etcs_group.specs.declared.groups.Group.{Group}
use Rattle.etcs_group.specs.declared.passages.Passage.{Passage}
use Rattle.etcs_group.specs.GroupLines.{IsGroupLine, front_text}
use Rattle.etcs_group.specs.ManyGroups.{GroupHolds, Takes, empty_group}

-- ---- The line of a passage.

-- `line`, the number and the front of the passage's first line, and its group's line
abbrev pub IsPassageLine : Passage → List ℕ → Type 0
IsPassageLine p line = (group : List ℕ) × IsGroupLine p.group group × (line ≡ codes "line " ++ decimal p.line ++ front_text p.front.items ++ codes " " ++ group)

-- ---- Which telegrams are a passage.

-- a passage that begins with a telegram
abbrev pub PassageOf : ℕ → List ℕ → TelegramContent → Passage → Type 0
PassageOf line front t p = (p.line ≡ line) × (p.front.items ≡ front) × GroupHolds (empty_group t.header.nid_c t.header.nid_bg) t p.group

-- the passage takes the telegram
abbrev pub Joined : Option Passage → TelegramContent → Option Passage → Type 0
Joined None t new = ⊥
Joined (Some p) t None = ⊥
Joined (Some p) t (Some q) = Takes p.group t × (q.line ≡ p.line) × (q.front.items ≡ p.front.items) × GroupHolds p.group t q.group

-- no passage takes it
abbrev pub IsNext : Option Passage → TelegramContent → Type 0
IsNext None t = Unit {0}
IsNext (Some p) t = Takes p.group t → ⊥

-- the text at the end: the line of the last passage
abbrev pub EndsWith : Option Passage → List ℕ → Type 0
EndsWith None text = text ≡ []
EndsWith (Some p) text = IsPassageLine p text

-- the passage after the next telegram, of this line and front, and the text of it: none if the passage takes it; else it
-- begins the next one, and the text is the line of the one before
abbrev pub GoesOn : Option Passage → ℕ → List ℕ → TelegramContent → Option Passage → List ℕ → Type 0
GoesOn old line front t new text = (Joined old t new × (text ≡ [])) ⊎ (IsNext old t × ((p : Passage) × PassageOf line front t p × (new ≡ Some p)) × EndsWith old text)

-- a telegram with its line and front
pub record Passing : Type 0 where
  pub line : ℕ
  pub front : List ℕ
  pub telegram : TelegramContent

-- the passage after these, the last of them first, and the text so far
abbrev pub Passed : List Passing → Option Passage → List ℕ → Type 0
Passed [] p text = (p ≡ None) × (text ≡ [])
Passed (e ∷ earlier) p text = (old : Option Passage) × (before : List ℕ) × (more : List ℕ) × Passed earlier old before × GoesOn old e.line e.front e.telegram p more × (text ≡ before ++ more)

-- the text of all passages of these, the last of them first
abbrev pub ArePassages : List Passing → List ℕ → Type 0
ArePassages es text = (p : Option Passage) × (before : List ℕ) × (end : List ℕ) × Passed es p before × EndsWith p end × (text ≡ before ++ end)
