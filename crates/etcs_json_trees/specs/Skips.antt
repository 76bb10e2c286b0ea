-- What is left of a list or of an object is skipped: it is read, but nothing is made of it.
use Rattle.std.specs.Prelude.{◌≡◌, ℕ, ◌≤◌, List, length, Some, None}
use Rattle.json.specs.Token.{Token}
use Rattle.json.specs.Json.{items, members, value}
use Rattle.serde_json.specs.Data.{Items, Members}
use Rattle.serde_json.specs.Read.{of_items, of_members, converted}

-- the tokens `old` begin with what is left of a list, and `new` follow
abbrev pub SkipsItems : ℕ → List Token → List Token → Type 0
SkipsItems depth old new = (n : ℕ) → length old ≤ n → (ds : Items) × (converted of_items (items (value depth) n old) ≡ Some (ds, new))

-- the tokens `old` don't begin with what is left of a list
abbrev pub NoItems : ℕ → List Token → Type 0
NoItems depth old = (n : ℕ) → length old ≤ n → converted of_items (items (value depth) n old) ≡ None

-- the tokens `old` begin with what is left of an object, whatever was found of it before, and `new` follow
abbrev pub SkipsMembers : ℕ → List Token → List Token → Type 0
SkipsMembers depth old new = (n : ℕ) (found : Members) → length old ≤ n → (ms : Members) × (converted (λ js. of_members js found) (members (value depth) n old) ≡ Some (ms, new))

-- the tokens `old` don't begin with what is left of an object
abbrev pub NoMembers : ℕ → List Token → Type 0
NoMembers depth old = (n : ℕ) (found : Members) → length old ≤ n → converted (λ js. of_members js found) (members (value depth) n old) ≡ None
