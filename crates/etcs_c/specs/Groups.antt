-- What telegrams of a balise group make together: the result of `etcs_assemble`.
use Rattle.std.specs.Prelude.{◌≡◌, ◌↔◌, ◌⊎◌, ◌*◌, ℕ, Bool, true, false, List, [], ◌∷◌, map, reverse, take, slice_get, Option, Some}
use Rattle.etcs_bits.specs.Bits.{bits}
use Rattle.etcs_vars.specs.Reading.{IsOutcome, done}
use Rattle.etcs_telegram.specs.Telegrams.{TelegramContent, telegram_value}
use Rattle.etcs_text.specs.declared.entry.Kind.{Kind}
use Rattle.etcs_text.specs.Entries.{EntryReads, of_telegram}
use Rattle.etcs_text.specs.Kinds.{IsOfTelegrams}
use Rattle.etcs_group.specs.declared.clash.Clash.{Clash}
use Rattle.etcs_group.specs.declared.clash.Clash.TheVariants.{BadPosition, BadDuplicate, OtherGroup, OtherTotal, Counter, Differs}
use Rattle.etcs_group.specs.Clashes.{IsFirstClash}
use Rattle.etcs_group.specs.Groups.{IsHeldOf}
use Rattle.etcs_group.specs.Messages.{IsMissing, IsWhole}
use Rattle.etcs_group.specs.Orders.{NoneRefused}
use Rattle.etcs_c.specs.declared.answer.EtcsAnswer.{EtcsAnswer}
use Rattle.etcs_c.specs.declared.groups.EtcsGroup.{EtcsGroup}
use Rattle.etcs_c.specs.declared.groups.EtcsTelegram.{EtcsTelegram}
use Rattle.etcs_c.specs.Answers.{SaysNone, kind_number}

-- the status of a clash
abbrev pub clash_status : Clash → ℕ
clash_status BadPosition = 11
clash_status BadDuplicate = 12
clash_status OtherGroup = 13
clash_status OtherTotal = 14
clash_status Counter = 15
clash_status Differs = 16

-- the bytes begin with this telegram, which is of the kind
abbrev pub IsOf : EtcsTelegram → TelegramContent → Type 0
IsOf r t = (kind : Kind) × (k : ℕ) × (kind_number kind ≡ r.kind) × IsOutcome (EntryReads kind) (bits r.bytes) (done (of_telegram (telegram_value t)) (8 * k))

-- the same of each of the telegrams, in order
abbrev pub AreOf : List EtcsTelegram → List TelegramContent → Type 0
AreOf [] [] = Unit {0}
AreOf [] (t ∷ ts) = ⊥
AreOf (r ∷ rs) [] = ⊥
AreOf (r ∷ rs) (t ∷ ts) = IsOf r t × AreOf rs ts

-- none of the telegrams clashes with those before it, and these places hold what they make together
abbrev pub AreHeld : List EtcsTelegram → List (Option TelegramContent) → Type 0
AreHeld rs slots = (ts : List TelegramContent) × AreOf (reverse rs) ts × NoneRefused ts × IsHeldOf ts slots

-- 1 for true, 0 for false
abbrev pub flag : Bool → ℕ
flag true = 1
flag false = 0

-- the group marks exactly the positions that are missing, and is complete exactly if something is held and nothing is
-- missing
abbrev pub IsState : List (Option TelegramContent) → EtcsGroup → Type 0
IsState slots g = ((m : List Bool) × (g.missing ≡ map flag m) × ((p : ℕ) → (slice_get m p ≡ Some true) ↔ IsMissing slots p)) × ((whole : Bool) × (g.is_complete ≡ flag whole) × ((whole ≡ true) ↔ IsWhole slots))

-- why a telegram isn't held beside these: its first clash with them; what its bytes begin with; or 5, since its kind is
-- that of no telegram
abbrev pub SaysUnheld : EtcsTelegram → List (Option TelegramContent) → ℕ → EtcsAnswer → Type 0
SaysUnheld r slots s a =
    ((t : TelegramContent) × (c : Clash) × IsOf r t × IsFirstClash c slots t × (s ≡ clash_status c))
    ⊎ (((kind : Kind) × (kind_number kind ≡ r.kind) × IsOfTelegrams kind × SaysNone (EntryReads kind) (bits r.bytes) s a)
    ⊎ ((s ≡ 5) × ((kind : Kind) → IsOfTelegrams kind → kind_number kind ≡ r.kind → ⊥)))

-- the index of the first telegram that isn't held beside those before it, and why
abbrev pub SaysFirst : List EtcsTelegram → ℕ → EtcsAnswer → Type 0
SaysFirst rs s a = (r : EtcsTelegram) × (slots : List (Option TelegramContent)) × (slice_get rs a.taken ≡ Some r) × AreHeld (take a.taken rs) slots × SaysUnheld r slots s a

-- each telegram is held, and the group is what they make; or the first that isn't held, and the group is as before
abbrev pub SaysGroup : List EtcsTelegram → EtcsGroup → EtcsGroup → ℕ → EtcsAnswer → Type 0
SaysGroup rs old new s a = ((slots : List (Option TelegramContent)) × AreHeld rs slots × (s ≡ 0) × IsState slots new) ⊎ (SaysFirst rs s a × (new ≡ old))
