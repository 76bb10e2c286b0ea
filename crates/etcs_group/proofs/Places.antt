-- The places of an assembly, and what is held in them.
use Rattle.std.proofs.Common.{◌≡◌, ◌∙◌, ap, ℕ, ◌<◌, arith, List, Option, Some, slice_get, length, set, Contains}
use Rattle.std.proofs.lemmas.Grind.{common_steps}
use Rattle.std.proofs.lemmas.Option.{slice_get-get_or, slice_get_within, get_or_from_slice_get, gets}
use Rattle.etcs_telegram.specs.Telegrams.{TelegramContent}
use Rattle.etcs_group.specs.Groups.{Holds}

pub contains_place : {X : Type 0} (xs : List X) (x : X) → Contains xs x → (k : ℕ) × (slice_get xs k ≡ Some x)
contains_place xs x h = (h.0, slice_get-get_or xs h.0 x h.1 ∙ ap Some h.2)

pub place_contains : {X : Type 0} (xs : List X) (k : ℕ) (x : X) → slice_get xs k ≡ Some x → Contains xs x
place_contains xs k x e = (k, slice_get_within xs k x e, get_or_from_slice_get xs k x x e)

pub held_place : (slots : List (Option TelegramContent)) (t : TelegramContent) → Holds slots t → (k : ℕ) × (slice_get slots k ≡ Some (Some t))
held_place slots t h = contains_place slots (Some t) h

pub place_held : (slots : List (Option TelegramContent)) (k : ℕ) (t : TelegramContent) → slice_get slots k ≡ Some (Some t) → Holds slots t
place_held slots k t e = place_contains slots k (Some t) e

pub get_set-same : {X : Type 0} (xs : List X) (i : ℕ) (x : X) → i < length xs → slice_get (set xs i x) i ≡ Some x
get_set-same xs i x h = grind (arith, common_steps, gets)

pub get_set-other : {X : Type 0} (xs : List X) (i p : ℕ) (x : X) → (p ≡ i → ⊥) → slice_get (set xs i x) p ≡ slice_get xs p
get_set-other xs i p x h = grind (arith, common_steps, gets)
