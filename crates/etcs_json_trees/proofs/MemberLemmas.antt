-- What is left of an object's members.
use Rattle.std.proofs.Common.{◌≡◌, ℕ, List}
use Rattle.serde_json.specs.Data.{Data, Members, member, no_members, object}

pub inside : (ms ns : Members) → object ms ≡ object ns → ms ≡ ns
inside ms ns e = cc

pub after_one : (a : List ℕ) (x v : Data) (ms ns : Members) → member a x ms ≡ member a v ns → ms ≡ ns
after_one a x v ms ns e = cc

pub after_two : (a b : List ℕ) (x y v w : Data) (ms ns : Members) → member a x (member b y ms) ≡ member a v (member b w ns) → ms ≡ ns
after_two a b x y v w ms ns e = cc

-- the first member's value by another name
pub valued : (a : List ℕ) (x y : Data) (ms ns : Members) → ms ≡ member a x ns → x ≡ y → ms ≡ member a y ns
valued a x y ms ns e f = cc

-- six members, one after another
pub all_six : (ms ns os ps : Members) (a b k n p q : List ℕ) (x y z z' w u v : Data) → ms ≡ member a x (member b y ns) → ns ≡ member k z os → z ≡ z' → os ≡ member n w ps → ps ≡ member p u (member q v no_members)
    → ms ≡ member a x (member b y (member k z' (member n w (member p u (member q v no_members)))))
all_six ms ns os ps a b k n p q x y z z' w u v e f same g h = cc
