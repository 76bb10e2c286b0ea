-- What may be at each place in the tree of an item, and how large it may be.
use Rattle.std.specs.Prelude.{ℕ, Bool, true, false, List, [], ◌∷◌, bytes_eq, codes, if◌then◌else◌, Option, Some, None}
use Rattle.etcs_json_trees.specs.declared.place.Place.{Place}
use Rattle.etcs_json_trees.specs.declared.place.Place.TheVariants.{Item, Own, Packets, Packet, Pairs, Pair, Scalar}

-- a number or a text may be at the place
abbrev pub is_scalar : Place → Bool
is_scalar Item = false
is_scalar Own = false
is_scalar Packets = false
is_scalar Packet = false
is_scalar Pairs = false
is_scalar Pair = false
is_scalar Scalar = true

-- an object may be at the place
abbrev pub is_object : Place → Bool
is_object Item = true
is_object Own = false
is_object Packets = false
is_object Packet = true
is_object Pairs = false
is_object Pair = false
is_object Scalar = false

-- the place of each item of a list at the place; none if no list may be there
abbrev pub items_place : Place → Option Place
items_place Item = None
items_place Own = Some Pair
items_place Packets = Some Packet
items_place Packet = None
items_place Pairs = Some Pair
items_place Pair = Some Scalar
items_place Scalar = None

-- the place that is listed with the name k, if one is
abbrev pub named : List ℕ → List (List ℕ × Place) → Option Place
named k [] = None
named k (m ∷ ms) = if bytes_eq k m.0 then Some m.1 else named k ms

-- the place of the member of the name k of an object at the place; none if there may be no such member
abbrev pub member_place : Place → List ℕ → Option Place
member_place Item k =
    named k ((codes "data", Scalar) ∷ (codes "fields", Own) ∷ (codes "fill", Scalar) ∷ (codes "header", Own) ∷ (codes "kind", Scalar) ∷ (codes "nid", Scalar) ∷ (codes "packets", Packets) ∷ (codes "padding", Scalar) ∷ [])
member_place Own k = None
member_place Packets k = None
member_place Packet k =
    named k ((codes "data", Scalar) ∷ (codes "dir", Scalar) ∷ (codes "fields", Pairs) ∷ (codes "nid", Scalar) ∷ [])
member_place Pairs k = None
member_place Pair k = None
member_place Scalar k = None

-- how much a value may weigh at the place: 256 for the pairs of a header and for a message's own, 24,576 for packets, since
-- an item has at most 8,184 bits, and a bit has at most three values
abbrev pub limit : Place → ℕ
limit Item = 32768
limit Own = 256
limit Packets = 24576
limit Packet = 24576
limit Pairs = 24576
limit Pair = 24576
limit Scalar = 24576
