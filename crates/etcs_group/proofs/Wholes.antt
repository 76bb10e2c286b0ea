-- When a group is whole, by the positions up to N_TOTAL.
use Rattle.std.proofs.Common.{◌≡◌, ◌↔◌, ap, ℕ, ◌+◌, ◌<◌, arith, Bool, true, false, not, List, Option, Some, Contains, slice_get, inl, inr}
use Rattle.std.specs.Bool.{Decides}
use Rattle.std.proofs.lemmas.Bool.{both_ways, not-true, cases_Bool}
use Rattle.etcs_telegram.specs.Telegrams.{TelegramContent}
use Rattle.etcs_group.specs.Groups.{Holds, HoldsNone}
use Rattle.etcs_group.specs.Messages.{IsLacking, IsMissing, IsWhole}
use Rattle.etcs_group.proofs.Places.{contains_place, place_contains}

-- some telegram is held, and all have this N_TOTAL
abbrev pub HasTotal : List (Option TelegramContent) → ℕ → Type 0
HasTotal slots total = ((t : TelegramContent) × Holds slots t) × ((t : TelegramContent) → Holds slots t → t.header.n_total ≡ total)

-- so a position is missing if it is lacking and isn't after this N_TOTAL
pub missing_iff : (slots : List (Option TelegramContent)) (total p : ℕ) → HasTotal slots total → ((p < total + 1) × IsLacking slots p) ↔ IsMissing slots p
missing_iff slots total p held =
    (λ h. let same = held.1 held.0.0 held.0.1 in ((held.0.0, held.0.1, omega (arith, same, h.0)), h.1), λ m. let same = held.1 m.0.0 m.0.1 in (omega (arith, same, m.0.2), m.1))

-- if something is held, the group is whole if none is reported as missing
pub none_missing : (slots : List (Option TelegramContent)) (missing : List Bool) (b : Bool) → ((t : TelegramContent) × Holds slots t) → ((p : ℕ) → (slice_get missing p ≡ Some true) ↔ IsMissing slots p) → Decides b (Contains missing true) → Decides (not b) (IsWhole slots)
none_missing slots missing b held marked among = (
  λ e. (held, λ p m. both_ways b (not-true b e) (among.1 (place_contains missing p true ((marked p).1 m)))),
  λ w. elim (cases_Bool b) [
    | inl e ↦
        let place = contains_place missing true (among.0 e) in
        absurd (w.1 place.0 ((marked place.0).0 place.1))
    | inr e ↦ ap not e
  ],
)

pub nothing_held : (slots : List (Option TelegramContent)) (b : Bool) → b ≡ false → HoldsNone slots → Decides b (IsWhole slots)
nothing_held slots b not_some none = (λ e. absurd (both_ways b not_some e), λ w. absurd (none w.0.0 w.0.1))
