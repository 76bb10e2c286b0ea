-- What tokens begin with, and what is found if only what fits its place is made.
use Rattle.std.specs.Prelude.{◌≡◌, ◌⊎◌, ℕ, List, length, Option, Some, None}
use Rattle.json.specs.Token.{Token}
use Rattle.json.specs.Json.{items, members, value}
use Rattle.serde_json.specs.Data.{Data, null, Items, Members, no_members, member, put}
use Rattle.serde_json.specs.Read.{of_json, of_items, of_members, converted}
use Rattle.etcs_json_trees.specs.declared.place.Place.{Place}
use Rattle.etcs_json_trees.specs.Fits.{Fits, FitsItem}

-- the value that tokens begin with, and the tokens after it
abbrev pub first_value : ℕ → List Token → Option (Data × List Token)
first_value depth ts = converted of_json (value depth ts)

-- the same of what is left of a list
abbrev pub first_items : ℕ → List Token → Option (Items × List Token)
first_items depth ts = converted of_items (items (value depth) (length ts) ts)

-- the same of what is left of an object
abbrev pub first_members : ℕ → List Token → Option (Members × List Token)
first_members depth ts = converted (λ js. of_members js no_members) (members (value depth) (length ts) ts)

-- what is read is this value, and of the kind P; or it isn't of that kind, and none is found; the tokens rest follow
abbrev pub Finds : {A : Type 0} → Option (A × List Token) → (A → Type 0) → Option A → List Token → Type 0
Finds {A} read P None rest = (a : A) × (read ≡ Some (a, rest)) × (P a → ⊥)
Finds {A} read P (Some a) rest = (read ≡ Some (a, rest)) × P a

-- what is read of a whole text is the tree found, and an item may have it; or none is found, and nothing read fits an item
abbrev pub FindsTree : Option Data → Option Data → Type 0
FindsTree read None = (d : Data) → read ≡ Some d → FitsItem d → ⊥
FindsTree read (Some d) = (read ≡ Some d) × FitsItem d

-- e is kept of the member d: d itself, or null if it isn't of the kind P
abbrev pub Keeps : Type 0 → Data → Data → Type 0
Keeps P d e = ((d ≡ e) × P) ⊎ ((e ≡ null) × (P → ⊥))

-- a member is read, and what is kept of it is put under the name k into the members `old`
abbrev pub FindsMember : Place → ℕ → List ℕ → Option (Data × List Token) → List Token → Members → Members → Type 0
FindsMember p n k read rest old new = (d : Data) × (e : Data) × (read ≡ Some (d, rest)) × Keeps (Fits p n d) d e × (new ≡ put k e old)

-- a member is null
abbrev pub HasNull : Members → Type 0
HasNull no_members = ⊥
HasNull (member k d ms) = (d ≡ null) ⊎ HasNull ms
