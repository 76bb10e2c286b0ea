-- The walk over the variables of an item, as a function.
use Rattle.std.specs.Prelude.{ℕ, zero, suc, Bool, true, false, List, [], ◌∷◌, ◌++◌, length, drop, Option, Some, None, if◌then◌else◌}
use Rattle.etcs_vars.specs.declared.var.Var.{Var}
use Rattle.etcs_vars.specs.declared.var.Var.TheVariants.{NID_PACKET, L_PACKET, FILL, PADDING, PAD}
use Rattle.etcs_vars.specs.Reading.{Reading}
use Rattle.etcs_tables.specs.Layouts.{Layout, whole, one, guarded, counted, passes}
use Rattle.etcs_places.specs.declared.place.Place.{Place}
use Rattle.etcs_places.specs.Places.{in_entry}

-- the places by f, and those by g of what is left then
abbrev pub both : (Reading → List Place) → (Reading → List Place) → Reading → List Place
both f g r = f r ++ g (drop (length (f r)) r)

-- the places by f k, those by f (k + 1) of what is left then, and so on, n times
abbrev pub entries : ℕ → ℕ → (ℕ → Reading → List Place) → Reading → List Place
entries k zero f r = []
entries k (suc n) f r = both (f k) (entries (suc k) n f) r

-- the places of the variables that a row takes from the front of r, after the number n
unfoldable pub row_places : Layout → ℕ → Place → Reading → List Place
row_places whole n at r = []
row_places (one v rest) n at [] = []
row_places (one v rest) n at (p ∷ r) = at ∷ row_places rest p.1 at r
row_places (guarded g group rest) n at r = both (λ q. if passes g.test n then row_places group n at q else []) (row_places rest n at) r
row_places (counted group rest) n at r = both (entries 1 n (λ k. row_places group n (in_entry at k))) (row_places rest n at) r

-- the places of the variables that entries of a group take from the front of r: m of them, the first of entry k, after the
-- number n
abbrev pub entries_of : Layout → ℕ → Place → ℕ → ℕ → Reading → List Place
entries_of group n at k m r = entries k m (λ i. row_places group n (in_entry at i)) r

-- the same of a row that may be none
abbrev pub places_by : Option Layout → Place → Reading → List Place
places_by None at r = []
places_by (Some row) at r = row_places row 0 at r

-- ---- Variables outside of rows.

-- a packet begins with this variable
abbrev pub opens : Var → Bool
opens NID_PACKET = true
opens v = false

-- this variable comes after the packets
abbrev pub closes : Var → Bool
closes FILL = true
closes PADDING = true
closes PAD = true
closes v = false

-- the row of a packet comes after this variable
abbrev pub is_length : Var → Bool
is_length L_PACKET = true
is_length v = false
