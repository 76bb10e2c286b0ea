-- The steps of the walk over a row, as the code takes them.
use Rattle.std.proofs.Common.{◌≡◌, ℕ, suc, ◌+◌, ◌-◌, ◌<◌, ◌≤◌, true, false, List, [], ◌∷◌, ◌++◌, length, get_or, drop, refl, sym, ap, ◌∙◌, arith, append_assoc, append-nil, length-append, drop-drop}
use Rattle.std.proofs.lemmas.List.{drop_all, drop_more}
use Rattle.etcs_vars.specs.declared.var.Var.{Var}
use Rattle.etcs_vars.specs.Reading.{Sent, Reading}
use Rattle.etcs_tables.specs.declared.item.Guard.{Guard}
use Rattle.etcs_tables.specs.Layouts.{Layout, whole, one, guarded, counted, passes}
use Rattle.etcs_places.specs.declared.place.Place.{Place}
use Rattle.etcs_places.specs.Places.{in_entry}
use Rattle.etcs_places.specs.Walks.{both, entries, row_places, entries_of}

pub walked_none : (pairs : Reading) (places : List Place) (row : Layout) (n : ℕ) (at : Place) → row ≡ whole → places ≡ places ++ row_places row n at (drop (length places) pairs)
unfolding row_places
walked_none pairs places row n at e = rw e (sym (append-nil places))

pub walked_out : (pairs : Reading) (places : List Place) (row rest : Layout) (v : Var) (n : ℕ) (at : Place) → row ≡ one v rest → length pairs ≤ length places → places ≡ places ++ row_places row n at (drop (length places) pairs)
unfolding row_places
walked_out pairs places row rest v n at e past = rw (e, drop_all (length places) pairs past) (sym (append-nil places))

pub walked_one : (pairs : Reading) (places new : List Place) (row rest : Layout) (v : Var) (p : Sent) (n : ℕ) (at : Place) → row ≡ one v rest → length places < length pairs → p ≡ get_or pairs (length places) p → new ≡ (places ++ at ∷ []) ++ row_places rest p.1 at (drop (length (places ++ at ∷ [])) pairs) → new ≡ places ++ row_places row n at (drop (length places) pairs)
unfolding row_places
walked_one pairs places new row rest v p n at e inside here is =
    let next : drop (length places) pairs ≡ p ∷ drop (length places + 1) pairs = drop_more pairs (length places) p inside ∙ ap (λ (q : Sent). q ∷ drop (length places + 1) pairs) (sym here) in
    let count : length (places ++ at ∷ []) ≡ length places + 1 = length-append places (at ∷ []) in
    is ∙ rw (e, next, count) (append_assoc places (at ∷ []) (row_places rest p.1 at (drop (length places + 1) pairs)))

pub walked_both : (pairs : Reading) (places mid new : List Place) (f g : Reading → List Place) → mid ≡ places ++ f (drop (length places) pairs) → new ≡ mid ++ g (drop (length mid) pairs) → new ≡ places ++ both f g (drop (length places) pairs)
walked_both pairs places mid new f g first second =
    let taken = f (drop (length places) pairs) in
    let count : length mid ≡ length places + length taken = ap (λ (q : List Place). length q) first ∙ length-append places taken in
    second ∙ rw (count, first, ← drop-drop (length taken) (length places) pairs) (append_assoc places taken (g (drop (length taken) (drop (length places) pairs))))

pub walked_guarded : (pairs : Reading) (places mid new : List Place) (row group rest : Layout) (g : Guard) (n : ℕ) (at : Place) → row ≡ guarded g group rest → passes g.test n ≡ true → mid ≡ places ++ row_places group n at (drop (length places) pairs) → new ≡ mid ++ row_places rest n at (drop (length mid) pairs) → new ≡ places ++ row_places row n at (drop (length places) pairs)
unfolding row_places
walked_guarded pairs places mid new row group rest g n at e passed first second =
    rw (e, passed) (walked_both pairs places mid new (row_places group n at) (row_places rest n at) first second)

pub walked_past : (pairs : Reading) (places new : List Place) (row group rest : Layout) (g : Guard) (n : ℕ) (at : Place) → row ≡ guarded g group rest → passes g.test n ≡ false → new ≡ places ++ row_places rest n at (drop (length places) pairs) → new ≡ places ++ row_places row n at (drop (length places) pairs)
unfolding row_places
walked_past pairs places new row group rest g n at e failed is =
    rw (e, failed) is

pub walked_start : (pairs : Reading) (places : List Place) (group : Layout) (n : ℕ) (at : Place) → places ++ entries_of group n at 1 (n - 0) (drop (length places) pairs) ≡ places ++ entries_of group n at 1 n (drop (length places) pairs)
walked_start pairs places group n at =
    let all : n - 0 ≡ n = omega arith in
    ap (λ k. places ++ entries_of group n at 1 k (drop (length places) pairs)) all

pub walked_entry : (pairs : Reading) (places new all : List Place) (group : Layout) (n : ℕ) (at : Place) (k left less : ℕ) → left ≡ suc less → new ≡ places ++ row_places group n (in_entry at k) (drop (length places) pairs) → places ++ entries_of group n at k left (drop (length places) pairs) ≡ all → new ++ entries_of group n at (k + 1) less (drop (length new) pairs) ≡ all
walked_entry pairs places new all group n at k left less e first is =
    let f = λ (i : ℕ). row_places group n (in_entry at i) in
    let next : k + 1 ≡ suc k = omega arith in
    let step = walked_both pairs places new (new ++ entries (suc k) less f (drop (length new) pairs)) (f k) (entries (suc k) less f) first refl in
    rw next (step ∙ (rw e at is))

pub walked_counted : (pairs : Reading) (places mid new : List Place) (row group rest : Layout) (n k left : ℕ) (at : Place) → row ≡ counted group rest → left ≡ 0 → mid ++ entries_of group n at k left (drop (length mid) pairs) ≡ places ++ entries_of group n at 1 n (drop (length places) pairs) → new ≡ mid ++ row_places rest n at (drop (length mid) pairs) → new ≡ places ++ row_places row n at (drop (length places) pairs)
unfolding row_places
walked_counted pairs places mid new row group rest n k left at e none entered second =
    let f = λ (i : ℕ). row_places group n (in_entry at i) in
    let first : mid ≡ places ++ entries 1 n f (drop (length places) pairs) = sym (append-nil mid) ∙ (rw none at entered) in
    rw e (walked_both pairs places mid new (entries 1 n f) (row_places rest n at) first second)
