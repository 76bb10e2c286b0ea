-- The message of a balise group: which positions are missing, and what the others give together (SUBSET-026, 3.16.2.4).
use Rattle.std.specs.Prelude.{◌≡◌, ◌⊎◌, ℕ, zero, suc, ◌+◌, ◌≤◌, List, [], ◌++◌, Option}
use Rattle.etcs_packets.specs.declared.packet.Packet.{Packet}
use Rattle.etcs_telegram.specs.Telegrams.{TelegramContent}
use Rattle.etcs_group.specs.Groups.{Holds}

-- a telegram of position p is held
abbrev pub IsHeldAt : List (Option TelegramContent) → ℕ → Type 0
IsHeldAt slots p = (t : TelegramContent) × Holds slots t × (t.header.n_pig ≡ p)

-- one with this M_DUP is: 1 if the balise is a duplicate of the next, 2 if it is one of the previous
abbrev pub IsHeldAs : List (Option TelegramContent) → ℕ → ℕ → Type 0
IsHeldAs slots p m_dup = (t : TelegramContent) × Holds slots t × (t.header.n_pig ≡ p) × (t.header.m_dup ≡ m_dup)

-- position p isn't held, the position before isn't held with M_DUP 1, and the one after isn't with M_DUP 2
pub record IsLacking (slots : List (Option TelegramContent)) (p : ℕ) : Type 0 where
  pub itself : IsHeldAt slots p → ⊥
  pub by_previous : (q : ℕ) → q + 1 ≡ p → IsHeldAs slots q 1 → ⊥
  pub by_next : IsHeldAs slots (p + 1) 2 → ⊥

-- position p is lacking and at most N_TOTAL of a held telegram
abbrev pub IsMissing : List (Option TelegramContent) → ℕ → Type 0
IsMissing slots p = ((t : TelegramContent) × Holds slots t × (p ≤ t.header.n_total)) × IsLacking slots p

-- something is held and nothing is missing
abbrev pub IsWhole : List (Option TelegramContent) → Type 0
IsWhole slots = ((t : TelegramContent) × Holds slots t) × ((p : ℕ) → IsMissing slots p → ⊥)

-- the position before p is held, and it has M_DUP 1 or p is held with M_DUP 2
abbrev pub IsSecond : List (Option TelegramContent) → ℕ → Type 0
IsSecond slots p = (q : ℕ) × (q + 1 ≡ p) × IsHeldAt slots q × (IsHeldAs slots q 1 ⊎ IsHeldAs slots p 2)

-- ps are the packets of the telegram that is held at p, or none if none is held there or p is the second of two
abbrev pub Gives : List (Option TelegramContent) → ℕ → List Packet → Type 0
Gives slots p ps = ((t : TelegramContent) × Holds slots t × (t.header.n_pig ≡ p) × (IsSecond slots p → ⊥) × (ps ≡ t.packets)) ⊎ (((IsHeldAt slots p → ⊥) ⊎ IsSecond slots p) × (ps ≡ []))

-- what the first n positions give, in rising order
unfoldable pub FirstGive : List (Option TelegramContent) → ℕ → List Packet → Type 0
FirstGive slots zero ps = ps ≡ []
FirstGive slots (suc n) ps = (before : List Packet) × (last : List Packet) × FirstGive slots n before × Gives slots n last × (ps ≡ before ++ last)

-- ps is what the positions 0 to 7 give, one after another
abbrev pub IsGroupMessage : List (Option TelegramContent) → List Packet → Type 0
IsGroupMessage slots ps = FirstGive slots 8 ps
