-- Where the variables of a row are: in which entry of which repeated group (SUBSET-026, 7.4 and 8).
use Rattle.std.specs.Prelude.{◌≡◌, ℕ, zero, suc, ◌-◌, ◌==◌, Bool, true, ◌&&◌, List, [], ◌∷◌, ◌++◌, map, IsTrue, Some, nat_lt, MatchBool, if◌then◌else◌, ◌⊎◌}
use Rattle.etcs_vars.specs.Reading.{Reading}
use Rattle.etcs_tables.specs.declared.row.Way.{Way}
use Rattle.etcs_tables.specs.Rows.{row_to, message_row_to}
use Rattle.etcs_tables.specs.Layouts.{Layout, whole, one, guarded, counted, Scope, holds, count_before}
use Rattle.etcs_places.specs.declared.place.Place.{Place}

-- outside of packets
abbrev pub outside : Place
outside = record { packet = 0; entry = 0; inner = 0 }

-- in the packet of this number, outside of groups
abbrev pub in_packet : ℕ → Place
in_packet k = record { packet = k; entry = 0; inner = 0 }

-- in entry k of a group that is at this place
abbrev pub in_entry : Place → ℕ → Place
in_entry at k = if at.entry == 0 then record at { entry = k } else record at { inner = k }

-- all of these variables are at this place
abbrev pub all_at : Place → Reading → List Place
all_at at r = map (λ pair. at) r

-- ---- As readings (Then, Times and Reads), with a place for each variable.

-- r with its places p is one of P, and after it one of Q
abbrev pub Both : (Reading → List Place → Type 0) → (Reading → List Place → Type 0) → Reading → List Place → Type 0
Both P Q r p = (r1 : Reading) × (r2 : Reading) × (p1 : List Place) × (p2 : List Place) × (r ≡ r1 ++ r2) × (p ≡ p1 ++ p2) × P r1 p1 × Q r2 p2

-- r with its places p is n entries, one after another: the first is one of P k, the next one of P (k + 1)
abbrev pub Entries : ℕ → ℕ → (ℕ → Reading → List Place → Type 0) → Reading → List Place → Type 0
Entries k zero P r p = (r ≡ []) × (p ≡ [])
Entries k (suc n) P r p = Both (P k) (Entries (suc k) n P) r p

-- r is a reading of the row after the pairs s, in a row or a group at this place, and p are the places of its variables:
-- the variables of the row are at this place, and those of a counted group in its entries, counted from 1
unfoldable pub RowPlaces : Layout → Scope → Place → Reading → List Place → Type 0
RowPlaces whole s at r p = (r ≡ []) × (p ≡ [])
RowPlaces (one v rest) s at r p = (n : ℕ) × (r' : Reading) × (p' : List Place) × (r ≡ (v, n) ∷ r') × (p ≡ at ∷ p') × RowPlaces rest ((v, n) ∷ s) at r' p'
RowPlaces (guarded g group rest) s at r p = MatchBool (holds g s) (Both (RowPlaces group s at) (RowPlaces rest s at) r p) (RowPlaces rest s at r p)
RowPlaces (counted group rest) s at r p = Both (Entries 1 (count_before s) (λ k. RowPlaces group s (in_entry at k))) (RowPlaces rest s at) r p

-- ---- How deep groups nest.

-- at most depth counted groups are inside one another
abbrev pub repeats : ℕ → Layout → Bool
repeats depth whole = true
repeats depth (one v rest) = repeats depth rest
repeats depth (guarded g group rest) = repeats depth group && repeats depth rest
repeats depth (counted group rest) = nat_lt 0 depth && repeats (depth - 1) group && repeats depth rest

-- at most two counted groups are inside one another, in rows of packets and of messages
abbrev pub TwoDeep : Type 0
TwoDeep = (way : Way) (nid : ℕ) (row : Layout) → (row_to way nid ≡ Some row) ⊎ (message_row_to way nid ≡ Some row) → IsTrue (repeats 2 row)
