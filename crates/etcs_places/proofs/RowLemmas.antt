-- The walk over a row finds the places of its reading.
use Rattle.std.proofs.Common.{◌≡◌, ℕ, zero, suc, ◌+◌, ◌≤◌, Bool, true, false, List, [], ◌∷◌, ◌++◌, length, drop, Some, None, refl, sym, ap, subst, arith, append_assoc, length-append, length-drop}
use Rattle.std.specs.Prelude.{IsTrue, MatchBool, ◌&&◌, if◌then◌else◌}
use Rattle.std.proofs.lemmas.Bool.{and_parts}
use Rattle.std.proofs.lemmas.List.{drop_at}
use Rattle.etcs_vars.specs.declared.var.Var.{Var}
use Rattle.etcs_vars.specs.Reading.{Reading, Then, Times}
use Rattle.etcs_tables.specs.declared.item.Guard.{Guard}
use Rattle.etcs_tables.specs.Layouts.{Layout, whole, one, guarded, counted, Scope, Reads, holds, passes, looks, looks_at, counts_by}
use Rattle.etcs_places.specs.declared.place.Place.{Place}
use Rattle.etcs_places.specs.Places.{Both, Entries, RowPlaces, in_entry}
use Rattle.etcs_places.specs.Walks.{both, entries, row_places}

-- the walk f takes exactly r, whatever comes after it, and its places are those by P
abbrev pub Finds : (Reading → List Place) → (Reading → List Place → Type 0) → Reading → Type 0
Finds f P r = (tail : Reading) → (length (f (r ++ tail)) ≡ length r) × P r (f (r ++ tail))

both_finds : (f g : Reading → List Place) (P Q : Reading → List Place → Type 0) (r1 r2 : Reading) → Finds f P r1 → Finds g Q r2 → Finds (both f g) (Both P Q) (r1 ++ r2)
both_finds f g P Q r1 r2 a b = λ tail.
    let whole_tail = append_assoc r1 r2 tail in
    let first = a (r2 ++ tail) in
    let rest = b tail in
    let left : drop (length (f (r1 ++ (r2 ++ tail)))) (r1 ++ (r2 ++ tail)) ≡ r2 ++ tail = drop_at r1 (r2 ++ tail) (length (f (r1 ++ (r2 ++ tail)))) (sym first.0) in
    let is : both f g ((r1 ++ r2) ++ tail) ≡ f (r1 ++ (r2 ++ tail)) ++ g (r2 ++ tail) = rw (whole_tail, left) refl in (
      rw (is, length-append (f (r1 ++ (r2 ++ tail))) (g (r2 ++ tail)), first.0, rest.0) (sym (length-append r1 r2)),
      (r1, r2, f (r1 ++ (r2 ++ tail)), g (r2 ++ tail), refl, is, first.1, rest.1),
    )

entries_find : (n k : ℕ) (f : ℕ → Reading → List Place) (P : ℕ → Reading → List Place → Type 0) (G : Reading → Type 0) → ((j : ℕ) (q : Reading) → G q → Finds (f j) (P j) q) → (r : Reading) → Times n G r → Finds (entries k n f) (Entries k n P) r
entries_find zero k f P G h r e = λ tail. (rw e refl, (e, refl))
entries_find (suc n) k f P G h r (first, rest, e, g, times) =
    subst (λ (q : Reading). Finds (entries k (suc n) f) (Entries k (suc n) P) q) (sym e) (both_finds (f k) (entries (suc k) n f) (P k) (Entries (suc k) n P) first rest (h k first g) (entries_find n (suc k) f P G h rest times))

guarded_finds : (b : Bool) (f g : Reading → List Place) (P Q : Reading → List Place → Type 0) (F R : Reading → Type 0) → ((q : Reading) → F q → Finds f P q) → ((q : Reading) → R q → Finds g Q q) → (r : Reading) → MatchBool b (Then F R r) (R r) → Finds (both (λ q. if b then f q else []) g) (λ q p. MatchBool b (Both P Q q p) (Q q p)) r
guarded_finds true f g P Q F R hf hg r (first, rest, e, a, b) =
    subst (λ (q : Reading). Finds (both f g) (Both P Q) q) (sym e) (both_finds f g P Q first rest (hf first a) (hg rest b))
guarded_finds false f g P Q F R hf hg r a = λ tail. hg r a tail

holds-last : (g : Guard) (v : Var) (n : ℕ) (s : Scope) → looks_at g (Some v) ≡ true → holds g ((v, n) ∷ s) ≡ passes g.test n
holds-last g v n s same = rw (holds, same) refl

pub row_after : (row : Layout) (v : Var) (n : ℕ) (s : Scope) (at : Place) (r : Reading) → IsTrue (looks (Some v) row) → Reads row ((v, n) ∷ s) r → Finds (row_places row n at) (RowPlaces row ((v, n) ∷ s) at) r
unfolding Reads RowPlaces row_places
row_after whole v n s at r h e = λ tail. (rw e refl, (e, refl))
row_after (one w rest) v n s at r h (m, r', admitted, e, reads) = λ tail.
    let more = row_after rest w m ((v, n) ∷ s) at r' h reads tail in
    rw e (ap (λ k. suc k) more.0, (m, r', row_places rest m at (r' ++ tail), refl, refl, more.1))
row_after (guarded g group rest) v n s at r h reads =
    let parts = and_parts (looks_at g (Some v) && looks (Some v) group) (looks (Some v) rest) h in
    let inside = and_parts (looks_at g (Some v)) (looks (Some v) group) parts.0 in
    let same = holds-last g v n s inside.0 in
    let found = guarded_finds (passes g.test n) (row_places group n at) (row_places rest n at) (RowPlaces group ((v, n) ∷ s) at) (RowPlaces rest ((v, n) ∷ s) at) (Reads group ((v, n) ∷ s)) (Reads rest ((v, n) ∷ s)) (λ q a. row_after group v n s at q inside.1 a) (λ q a. row_after rest v n s at q parts.1 a) r (rw same at reads) in
    λ tail.
    let it = found tail in
    let p = both (λ q. if passes g.test n then row_places group n at q else []) (row_places rest n at) (r ++ tail) in
    (it.0, subst (λ (b : Bool). MatchBool b (Both (RowPlaces group ((v, n) ∷ s) at) (RowPlaces rest ((v, n) ∷ s) at) r p) (RowPlaces rest ((v, n) ∷ s) at r p)) (sym same) it.1)
row_after (counted group rest) v n s at r h (first, r2, e, times, reads) =
    let parts = and_parts (counts_by (Some v) && looks (Some v) group) (looks (Some v) rest) h in
    let inside = and_parts (counts_by (Some v)) (looks (Some v) group) parts.0 in
    let each = entries_find n 1 (λ k. row_places group n (in_entry at k)) (λ k. RowPlaces group ((v, n) ∷ s) (in_entry at k)) (Reads group ((v, n) ∷ s)) (λ k q a. row_after group v n s (in_entry at k) q inside.1 a) first times in
    subst (λ (x : Reading). Finds (row_places (counted group rest) n at) (RowPlaces (counted group rest) ((v, n) ∷ s) at) x) (sym e)
    (both_finds (entries 1 n (λ k. row_places group n (in_entry at k))) (row_places rest n at) (Entries 1 n (λ k. RowPlaces group ((v, n) ∷ s) (in_entry at k))) (RowPlaces rest ((v, n) ∷ s) at) first r2 each (row_after rest v n s at r2 parts.1 reads))

pub row_finds : (row : Layout) (at : Place) (r : Reading) → IsTrue (looks None row) → Reads row [] r → Finds (row_places row 0 at) (RowPlaces row [] at) r
unfolding Reads RowPlaces row_places
row_finds whole at r h e = λ tail. (rw e refl, (e, refl))
row_finds (one w rest) at r h (m, r', admitted, e, reads) = λ tail.
    let more = row_after rest w m [] at r' h reads tail in
    rw e (ap (λ k. suc k) more.0, (m, r', row_places rest m at (r' ++ tail), refl, refl, more.1))
row_finds (guarded g group rest) at r h reads = absurd cc
row_finds (counted group rest) at r h reads = absurd cc

-- ---- A walk has no more places than there are variables.

abbrev Within : (Reading → List Place) → Type 0
Within f = (r : Reading) → length (f r) ≤ length r

both_within : (f g : Reading → List Place) → Within f → Within g → Within (both f g)
both_within f g a b r =
    omega (arith, a r, b (drop (length (f r)) r), length-drop (length (f r)) r, length-append (f r) (g (drop (length (f r)) r)))

entries_within : (n k : ℕ) (f : ℕ → Reading → List Place) → ((j : ℕ) → Within (f j)) → Within (entries k n f)
entries_within zero k f h r = omega arith
entries_within (suc n) k f h r = both_within (f k) (entries (suc k) n f) (h k) (entries_within n (suc k) f h) r

if_within : (b : Bool) (f : Reading → List Place) → Within f → Within (λ q. if b then f q else [])
if_within true f h r = h r
if_within false f h r = omega arith

pub row_within : (row : Layout) (n : ℕ) (at : Place) (r : Reading) → length (row_places row n at r) ≤ length r
unfolding row_places
row_within whole n at r = omega arith
row_within (one v rest) n at [] = omega arith
row_within (one v rest) n at (p ∷ r) = omega (arith, row_within rest p.1 at r)
row_within (guarded g group rest) n at r = both_within (λ q. if passes g.test n then row_places group n at q else []) (row_places rest n at) (if_within (passes g.test n) (row_places group n at) (row_within group n at)) (row_within rest n at) r
row_within (counted group rest) n at r = both_within (entries 1 n (λ k. row_places group n (in_entry at k))) (row_places rest n at) (entries_within n 1 (λ k. row_places group n (in_entry at k)) (λ k. row_within group n (in_entry at k))) (row_within rest n at) r
