-- The clashes in the order in which they are looked for.
use Rattle.std.proofs.Common.{◌≡◌, refl, sym, subst, ℕ, zero, suc, ◌<◌, arith, lit<, List, [], ◌∷◌, Option, All, get_or, take}
use Rattle.etcs_telegram.specs.Telegrams.{TelegramContent}
use Rattle.etcs_group.specs.declared.clash.Clash.{Clash}
use Rattle.etcs_group.specs.declared.clash.Clash.TheVariants.{BadPosition, BadDuplicate, OtherGroup, OtherTotal, Counter, Differs}
use Rattle.etcs_group.specs.Groups.{Joins}
use Rattle.etcs_group.specs.Clashes.{Clashes, before, IsFirstClash}
use Rattle.etcs_group.proofs.Joining.{joins_unless}

abbrev pub order : List Clash
order = BadPosition ∷ BadDuplicate ∷ OtherGroup ∷ OtherTotal ∷ Counter ∷ Differs ∷ []

before_order : (i : ℕ) → i < 6 → before (get_or order i BadPosition) ≡ take i order
before_order zero h = refl
before_order (suc zero) h = refl
before_order (suc (suc zero)) h = refl
before_order (suc (suc (suc zero))) h = refl
before_order (suc (suc (suc (suc zero)))) h = refl
before_order (suc (suc (suc (suc (suc zero))))) h = refl
before_order (suc (suc (suc (suc (suc (suc i)))))) h = absurd (omega (arith, h))

abbrev pub NoneOf : List (Option TelegramContent) → TelegramContent → List Clash → Type 0
NoneOf slots t cs = All (λ d. Clashes slots t d → ⊥) cs

pub first_of : (slots : List (Option TelegramContent)) (t : TelegramContent) (i : ℕ) → i < 6 → Clashes slots t (get_or order i BadPosition) → NoneOf slots t (take i order) → IsFirstClash (get_or order i BadPosition) slots t
first_of slots t i h met none = (met, subst (λ (cs : List Clash). NoneOf slots t cs) (sym (before_order i h)) none)

none_met : (slots : List (Option TelegramContent)) (t : TelegramContent) → NoneOf slots t order → (c : Clash) → Clashes slots t c → ⊥
none_met slots t none BadPosition = none 0 BadPosition (lit< tt)
none_met slots t none BadDuplicate = none 1 BadPosition (lit< tt)
none_met slots t none OtherGroup = none 2 BadPosition (lit< tt)
none_met slots t none OtherTotal = none 3 BadPosition (lit< tt)
none_met slots t none Counter = none 4 BadPosition (lit< tt)
none_met slots t none Differs = none 5 BadPosition (lit< tt)

pub joins_after : (slots : List (Option TelegramContent)) (t : TelegramContent) (i : ℕ) → i ≡ 6 → NoneOf slots t (take i order) → Joins slots t
joins_after slots t i e none =
    let all : NoneOf slots t (take 6 order) = subst (λ (n : ℕ). NoneOf slots t (take n order)) e none in
    joins_unless slots t (none_met slots t all)
