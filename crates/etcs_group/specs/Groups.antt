-- Balise groups: which telegrams belong together (SUBSET-026, 3.16.2.4, and M_DUP, M_MCOUNT, N_PIG, N_TOTAL of 7.5). No
-- definition speaks of an order of arrival but those that name earlier adds.
use Rattle.std.specs.Prelude.{◌≡◌, ◌≢◌, ◌⊎◌, ◌↔◌, ℕ, ◌≤◌, ◌<◌, List, [], ◌∷◌, length, Contains, Option, Some, slice_get}
use Rattle.etcs_telegram.specs.Telegrams.{TelegramContent, HeaderValue}

-- N_PIG is at most N_TOTAL; position 0 doesn't have M_DUP 2, and position N_TOTAL doesn't have M_DUP 1
pub record IsGood (h : HeaderValue) : Type 0 where
  pub position : h.n_pig ≤ h.n_total
  pub first : h.n_pig ≡ 0 → h.m_dup ≢ 2
  pub last : h.n_pig ≡ h.n_total → h.m_dup ≢ 1

-- neither M_MCOUNT is 254, and they are equal or one of them is 255
abbrev pub CountersAgree : ℕ → ℕ → Type 0
CountersAgree m n = (m ≢ 254) × (n ≢ 254) × ((m ≡ n) ⊎ ((m ≡ 255) ⊎ (n ≡ 255)))

-- NID_C, NID_BG and N_TOTAL are equal
pub record Alike (t u : TelegramContent) : Type 0 where
  pub country : t.header.nid_c ≡ u.header.nid_c
  pub group : t.header.nid_bg ≡ u.header.nid_bg
  pub total : t.header.n_total ≡ u.header.n_total

-- the two are alike, their counters agree, and if the positions are equal the telegrams are
pub record Fit (t u : TelegramContent) : Type 0 where
  pub alike : Alike t u
  pub counters : CountersAgree t.header.m_mcount u.header.m_mcount
  pub same : t.header.n_pig ≡ u.header.n_pig → t ≡ u

-- t is good and fits every telegram of the set
abbrev pub JoinsSet : (TelegramContent → Type 0) → TelegramContent → Type 0
JoinsSet Held t = IsGood t.header × ((u : TelegramContent) → Held u → Fit t u)

-- the set after an add of t: u is in the set, or it is t and t joins the set
abbrev pub SetAfter : (TelegramContent → Type 0) → TelegramContent → TelegramContent → Type 0
SetAfter Held t u = Held u ⊎ (JoinsSet Held t × (u ≡ t))

-- the set that these adds make of the empty one; the list has the last of them first
abbrev pub HeldOf : List TelegramContent → TelegramContent → Type 0
HeldOf [] u = ⊥
HeldOf (t ∷ earlier) u = SetAfter (HeldOf earlier) t u

-- the telegram is in one of the assembly's places
abbrev pub Holds : List (Option TelegramContent) → TelegramContent → Type 0
Holds slots t = Contains slots (Some t)

-- no telegram is in any of the places
abbrev pub HoldsNone : List (Option TelegramContent) → Type 0
HoldsNone slots = (t : TelegramContent) → Holds slots t → ⊥

-- t is good and fits every telegram that is held
abbrev pub Joins : List (Option TelegramContent) → TelegramContent → Type 0
Joins slots t = JoinsSet (Holds slots) t

-- what is held after an add of t is exactly what was held, and t if it joins that
abbrev pub HeldAfter : List (Option TelegramContent) → TelegramContent → List (Option TelegramContent) → Type 0
HeldAfter old t new = (u : TelegramContent) → Holds new u ↔ SetAfter (Holds old) t u

-- what is held is exactly the set that these adds make, the last of them first in the list
abbrev pub IsHeldOf : List TelegramContent → List (Option TelegramContent) → Type 0
IsHeldOf ts slots = (u : TelegramContent) → Holds slots u ↔ HeldOf ts u

-- eight places, each with a telegram of its position; all are of one group
pub record IsGroup (slots : List (Option TelegramContent)) : Type 0 where
  pub eight : length slots ≡ 8
  pub placed : (p : ℕ) (t : TelegramContent) → slice_get slots p ≡ Some (Some t) → t.header.n_pig ≡ p
  pub small : (t : TelegramContent) → Holds slots t → t.header.n_total < 8
  pub alike : (t u : TelegramContent) → Holds slots t → Holds slots u → Alike t u
