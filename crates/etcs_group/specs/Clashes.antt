-- Why a telegram isn't accepted, and in which order that is looked for (SUBSET-026, 3.16.2.4 and 7.5).
use Rattle.std.specs.Prelude.{◌≡◌, ◌≢◌, ◌⊎◌, ◌<◌, List, [], ◌∷◌, Option, All}
use Rattle.etcs_telegram.specs.Telegrams.{TelegramContent, HeaderValue}
use Rattle.etcs_group.specs.declared.clash.Clash.{Clash}
use Rattle.etcs_group.specs.declared.clash.Clash.TheVariants.{BadPosition, BadDuplicate, OtherGroup, OtherTotal, Counter, Differs}
use Rattle.etcs_group.specs.Groups.{CountersAgree, Holds}

-- a header has this clash by itself: N_PIG is above N_TOTAL; or position 0 has M_DUP 2, or N_TOTAL has M_DUP 1
abbrev pub Alone : Clash → HeaderValue → Type 0
Alone BadPosition h = h.n_total < h.n_pig
Alone BadDuplicate h = ((h.n_pig ≡ 0) × (h.m_dup ≡ 2)) ⊎ ((h.n_pig ≡ h.n_total) × (h.m_dup ≡ 1))
Alone OtherGroup h = ⊥
Alone OtherTotal h = ⊥
Alone Counter h = ⊥
Alone Differs h = ⊥

-- t has this clash beside u: in NID_C or NID_BG, in N_TOTAL, in M_MCOUNT, or at u's position without being equal
abbrev pub Between : Clash → TelegramContent → TelegramContent → Type 0
Between BadPosition t u = ⊥
Between BadDuplicate t u = ⊥
Between OtherGroup t u = (t.header.nid_c ≢ u.header.nid_c) ⊎ (t.header.nid_bg ≢ u.header.nid_bg)
Between OtherTotal t u = t.header.n_total ≢ u.header.n_total
Between Counter t u = CountersAgree t.header.m_mcount u.header.m_mcount → ⊥
Between Differs t u = (t.header.n_pig ≡ u.header.n_pig) × (t ≢ u)

-- the telegram has this clash by itself or beside one that is held
abbrev pub Clashes : List (Option TelegramContent) → TelegramContent → Clash → Type 0
Clashes slots t c = Alone c t.header ⊎ ((u : TelegramContent) × Holds slots u × Between c t u)

-- the clashes that are looked for before this one, in the order of the variants
abbrev pub before : Clash → List Clash
before BadPosition = []
before BadDuplicate = BadPosition ∷ []
before OtherGroup = BadPosition ∷ BadDuplicate ∷ []
before OtherTotal = BadPosition ∷ BadDuplicate ∷ OtherGroup ∷ []
before Counter = BadPosition ∷ BadDuplicate ∷ OtherGroup ∷ OtherTotal ∷ []
before Differs = BadPosition ∷ BadDuplicate ∷ OtherGroup ∷ OtherTotal ∷ Counter ∷ []

-- the telegram has this clash, and none of those before it
abbrev pub IsFirstClash : Clash → List (Option TelegramContent) → TelegramContent → Type 0
IsFirstClash c slots t = Clashes slots t c × All (λ d. Clashes slots t d → ⊥) (before c)
