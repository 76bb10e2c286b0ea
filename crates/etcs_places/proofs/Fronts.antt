-- The walk over the front of some variables finds the same places.
use Rattle.std.proofs.Common.{◌≡◌, ℕ, zero, suc, ◌+◌, ◌-◌, ◌<◌, ◌≤◌, ◌⊎◌, Bool, true, false, List, [], ◌∷◌, ◌++◌, length, take, drop, Option, Some, None, refl, sym, ap, ◌∙◌, inl, inr, arith, append-nil, length-take, length-drop}
use Rattle.std.specs.Prelude.{if◌then◌else◌}
use Rattle.std.proofs.lemmas.Bool.{cases_order}
use Rattle.std.proofs.lemmas.List.{take_all, take-append-le, drop-append-le, drop_all}
use Rattle.etcs_vars.specs.declared.var.Var.{Var}
use Rattle.etcs_vars.specs.Reading.{Reading}
use Rattle.etcs_tables.specs.declared.row.Way.{Way}
use Rattle.etcs_tables.specs.Layouts.{Layout, whole, one, guarded, counted, passes}
use Rattle.etcs_tables.specs.Rows.{row_to}
use Rattle.etcs_places.specs.declared.place.Place.{Place}
use Rattle.etcs_places.specs.declared.walk.Here.{Here}
use Rattle.etcs_places.specs.Places.{in_entry}
use Rattle.etcs_places.specs.Walks.{both, entries, row_places, places_by, is_length}
use Rattle.etcs_places.specs.Scans.{step, body_places, scan}

-- of the front p of some variables the walk f finds the first places of all
abbrev Steady : (Reading → List Place) → Type 0
Steady f = (p t : Reading) → f p ≡ take (length p) (f (p ++ t))

take_none : (n : ℕ) → ◌≡◌ {A = List Place} (take n []) []
take_none zero = refl
take_none (suc n) = refl

-- the front of two lists, one after another
take_past : (n : ℕ) (a b : List Place) → length a ≤ n → take n (a ++ b) ≡ a ++ take (n - length a) b
take_past n [] b le = let e : n ≡ n - 0 = omega arith in ap (λ k. take k b) e
take_past zero (x ∷ a) b le = absurd (omega (arith, le))
take_past (suc n) (x ∷ a) b le =
    let e : n - length a ≡ suc n - suc (length a) = omega arith in
    ap (λ (q : List Place). x ∷ q) (take_past n a b (omega (arith, le)) ∙ ap (λ k. a ++ take k b) e)

both_steady : (f g : Reading → List Place) → Steady f → Steady g → Steady (both f g)
both_steady f g hf hg p t = by_length (split (length (f (p ++ t))) (length p))
  where
    split : (m n : ℕ) → (m ≤ n) ⊎ (n < m)
    split m n = elim (cases_order m n) [ inl e ↦ inl (omega (arith, e)) | inr h ↦ elim h [ inl lt ↦ inl (omega (arith, lt)) | inr gt ↦ inr gt ] ]

    by_length : (length (f (p ++ t)) ≤ length p) ⊎ (length p < length (f (p ++ t))) → both f g p ≡ take (length p) (both f g (p ++ t))
    by_length (inl le) =
        let a = f (p ++ t) in
        let all : f p ≡ a = hf p t ∙ take_all (length p) a le in
        let left = drop (length a) p in
        let rest : drop (length a) (p ++ t) ≡ left ++ t = drop-append-le (length a) p t le in
        let b = g (left ++ t) in
        let count : length left ≡ length p - length a = length-drop (length a) p in
        ap (λ (q : List Place). q ++ g (drop (length q) p)) all
        ∙ ap (λ (q : List Place). a ++ q) (hg left t ∙ ap (λ k. take k b) count)
        ∙ sym (take_past (length p) a b le)
        ∙ ap (λ (r : Reading). take (length p) (a ++ g r)) (sym rest)
    by_length (inr lt) =
        let a = f (p ++ t) in
        let b = g (drop (length a) (p ++ t)) in
        let first = hf p t in
        let count : length (f p) ≡ length p = ap (λ (q : List Place). length q) first ∙ omega (arith, lt, length-take (length p) a) in
        let gone : drop (length (f p)) p ≡ [] = drop_all (length (f p)) p (omega (arith, count)) in
        let none : g [] ≡ [] = hg [] [] in
        ap (λ (r : Reading). f p ++ g r) gone
        ∙ ap (λ (q : List Place). f p ++ q) none
        ∙ append-nil (f p)
        ∙ first
        ∙ sym (take-append-le (length p) a b (omega (arith, lt)))

entries_steady : (n k : ℕ) (f : ℕ → Reading → List Place) → ((j : ℕ) → Steady (f j)) → Steady (entries k n f)
entries_steady zero k f h p t = sym (take_none (length p))
entries_steady (suc n) k f h p t = both_steady (f k) (entries (suc k) n f) (h k) (entries_steady n (suc k) f h) p t

if_steady : (b : Bool) (f : Reading → List Place) → Steady f → Steady (λ q. if b then f q else [])
if_steady true f h p t = h p t
if_steady false f h p t = sym (take_none (length p))

row_steady : (row : Layout) (n : ℕ) (at : Place) (p t : Reading) → row_places row n at p ≡ take (length p) (row_places row n at (p ++ t))
unfolding row_places
row_steady whole n at p t = sym (take_none (length p))
row_steady (one v rest) n at [] t = refl
row_steady (one v rest) n at (s ∷ p) t = ap (λ (q : List Place). at ∷ q) (row_steady rest s.1 at p t)
row_steady (guarded g group rest) n at p t = both_steady (λ q. if passes g.test n then row_places group n at q else []) (row_places rest n at) (if_steady (passes g.test n) (row_places group n at) (row_steady group n at)) (row_steady rest n at) p t
row_steady (counted group rest) n at p t = both_steady (entries 1 n (λ k. row_places group n (in_entry at k))) (row_places rest n at) (entries_steady n 1 (λ k. row_places group n (in_entry at k)) (λ k. row_steady group n (in_entry at k))) (row_steady rest n at) p t

by_steady : (o : Option Layout) (at : Place) → Steady (places_by o at)
by_steady None at p t = sym (take_none (length p))
by_steady (Some row) at p t = row_steady row 0 at p t

body_steady : (way : Way) (h : Here) (v : Var) → Steady (body_places way h v)
body_steady way h v p t = if_steady (is_length v) (places_by (row_to way h.nid) h.at) (by_steady (row_to way h.nid) h.at) p t

scan_queued : (way : Way) (h : Here) (q : List Place) (p t : Reading) → scan way h (take (length p) q) p ≡ take (length p) (scan way h q (p ++ t))
unfolding scan
scan_queued way h q [] t = refl
scan_queued way h [] (s ∷ p) t =
    ap (λ (q : List Place). (step h s).at ∷ q)
    (ap (λ (q : List Place). scan way (step h s) q p) (body_steady way (step h s) s.0 p t) ∙ scan_queued way (step h s) (body_places way (step h s) s.0 (p ++ t)) p t)
scan_queued way h (x ∷ q) (s ∷ p) t = ap (λ (r : List Place). x ∷ r) (scan_queued way h q p t)

pub scan_front : (way : Way) (h : Here) (p t : Reading) → scan way h [] p ≡ take (length p) (scan way h [] (p ++ t))
scan_front way h p t = ap (λ (q : List Place). scan way h q p) (sym (take_none (length p))) ∙ scan_queued way h [] p t
