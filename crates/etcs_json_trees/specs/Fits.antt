-- Which values may be at a place of an item's tree, by their shape and their size.
use Rattle.std.specs.Prelude.{ℕ, ◌+◌, ◌≤◌, IsTrue, IsSomeAnd}
use Rattle.serde_json.specs.Data.{Data, null, boolean, number, string, array, object, Items, no_items, item, Members, no_members, member}
use Rattle.etcs_json_trees.specs.declared.place.Place.{Place}
use Rattle.etcs_json_trees.specs.declared.place.Place.TheVariants.{Item}
use Rattle.etcs_json_trees.specs.Places.{is_scalar, is_object, items_place, member_place, limit}

-- how many values d has, itself included, with an object counted as sixteen
abbrev mutual
  pub weight : Data → ℕ
  weight null = 1
  weight (boolean b) = 1
  weight (number n) = 1
  weight (string s) = 1
  weight (array ds) = 1 + items_weight ds
  weight (object ms) = 16 + members_weight ms

  -- the weights of the items of a list, added
  pub items_weight : Items → ℕ
  items_weight no_items = 0
  items_weight (item d ds) = weight d + items_weight ds

  -- the weights of the members of an object, added
  pub members_weight : Members → ℕ
  members_weight no_members = 0
  members_weight (member k d ms) = weight d + members_weight ms

-- d is what may be at the place p, all that is in it is at its place, and no member is heavier than its place admits
abbrev mutual
  pub HasShape : Place → Data → Type 0
  HasShape p null = ⊥
  HasShape p (boolean b) = ⊥
  HasShape p (number n) = IsTrue (is_scalar p)
  HasShape p (string s) = IsTrue (is_scalar p)
  HasShape p (array ds) = IsSomeAnd (items_place p) (λ q. ItemsHaveShape q ds)
  HasShape p (object ms) = IsTrue (is_object p) × MembersHaveShape p ms

  -- each item of a list is what may be at the place q
  pub ItemsHaveShape : Place → Items → Type 0
  ItemsHaveShape q no_items = Unit {0}
  ItemsHaveShape q (item d ds) = HasShape q d × ItemsHaveShape q ds

  -- each member of an object at p is what may be at its place, and no heavier than that admits
  pub MembersHaveShape : Place → Members → Type 0
  MembersHaveShape p no_members = Unit {0}
  MembersHaveShape p (member k d ms) = IsSomeAnd (member_place p k) (λ q. HasShape q d × (weight d ≤ limit q)) × MembersHaveShape p ms

-- d is what may be at the place p, and weighs at most n
abbrev pub Fits : Place → ℕ → Data → Type 0
Fits p n d = HasShape p d × (weight d ≤ n)

-- the same of the items of a list, each at the place q
abbrev pub ItemsFit : Place → ℕ → Items → Type 0
ItemsFit q n ds = ItemsHaveShape q ds × (items_weight ds ≤ n)

-- the same of the members of an object at the place p
abbrev pub MembersFit : Place → ℕ → Members → Type 0
MembersFit p n ms = MembersHaveShape p ms × (members_weight ms ≤ n)

-- an item may have the tree d
abbrev pub FitsItem : Data → Type 0
FitsItem d = Fits Item (limit Item) d
