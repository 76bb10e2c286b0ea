-- Lists whose items fit, one after another, and lists with one that doesn't.
use Rattle.std.proofs.Common.{◌≡◌, ℕ, ◌+◌, List, [], ◌∷◌, ◌++◌, arith}
use Rattle.serde_json.specs.Data.{Data, Items, item}
use Rattle.serde_json.specs.View.{view, items_view}
use Rattle.serde_json.specs.declared.value.Value.{Value}
use Rattle.etcs_json_trees.specs.declared.place.Place.{Place}
use Rattle.etcs_json_trees.specs.Fits.{weight, items_weight, HasShape, ItemsHaveShape, Fits, ItemsFit}
use Rattle.etcs_json_trees.proofs.Reading.{items_before}

module _ (q : Place) where
  pub ItemsHaveShape-push : (vs : List Value) (v : Value) → ItemsHaveShape q (items_view vs) → HasShape q (view v) → ItemsHaveShape q (items_view (vs ++ v ∷ []))
  ItemsHaveShape-push [] v h k = (k, tt)
  ItemsHaveShape-push (w ∷ vs) v h k = (h.0, ItemsHaveShape-push vs v h.1 k)

  HasShape-within : (vs : List Value) (d : Data) (ds : Items) → ItemsHaveShape q (items_before vs (item d ds)) → HasShape q d
  HasShape-within [] d ds h = h.0
  HasShape-within (v ∷ vs) d ds h = HasShape-within vs d ds h.1

pub items_weight-push : (vs : List Value) (v : Value) → items_weight (items_view (vs ++ v ∷ [])) ≡ items_weight (items_view vs) + weight (view v)
items_weight-push [] v = omega arith
items_weight-push (w ∷ vs) v = omega (arith, items_weight-push vs v)

items_weight-within : (vs : List Value) (d : Data) (ds : Items) → items_weight (items_before vs (item d ds)) ≡ items_weight (items_view vs) + (weight d + items_weight ds)
items_weight-within [] d ds = omega arith
items_weight-within (v ∷ vs) d ds = omega (arith, items_weight-within vs d ds)

-- an item that doesn't fit what is left of the room
pub item_unfit : (q : Place) (vs : List Value) (d : Data) (ds : Items) (left room : ℕ) → items_weight (items_view vs) + left ≡ room → (Fits q left d → ⊥) → ItemsFit q room (items_before vs (item d ds)) → ⊥
item_unfit q vs d ds left room spent unfit h = unfit (HasShape-within q vs d ds h.0, omega (arith, items_weight-within vs d ds, h.1))
