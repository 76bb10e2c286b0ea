-- Steps of a cursor keep what is left of the row.
use Rattle.std.proofs.Common.{◌≡◌, ℕ, suc, ◌+◌, ◌<◌, true, List, [], ◌∷◌, ◌++◌, length, take, get_or, reverse, None, refl, sym, ap, ◌∙◌}
use Rattle.std.proofs.lemmas.List.{reverse-append, take_more}
use Rattle.etcs_tables.specs.declared.item.Guard.{Guard}
use Rattle.etcs_rows.specs.declared.place.Pending.{Pending}
use Rattle.etcs_rows.specs.declared.place.Cursor.{Cursor}
use Rattle.etcs_tables.specs.Layouts.{Layout, layout, guarded, counted, passes}
use Rattle.etcs_rows.specs.Places.{onto, iterate}
use Rattle.etcs_rows.specs.Cursors.{waiting, left_of}

pub reverse-push : {A : Type 0} (xs : List A) (x : A) → reverse (xs ++ x ∷ []) ≡ x ∷ reverse xs
reverse-push xs x = reverse-append xs (x ∷ [])

iterate_more : (n t : ℕ) (f : Layout → Layout) (x : Layout) → n ≡ suc t → iterate n f x ≡ f (iterate t f x)
iterate_more n t f x e = ap (λ k. iterate k f x) e

-- a group that occurs once more
pub leave_again : (old : Cursor) (stack ps : List Pending) (top next : Pending) → old.items.now ≡ [] → reverse old.pending.items ≡ top ∷ ps → reverse stack ≡ next ∷ ps
    → top.times ≡ suc next.times → next.group ≡ top.group → next.items ≡ top.items → next.before ≡ top.before → left_of old ≡ onto top.before (layout top.group.now) (waiting (reverse stack))
leave_again old stack ps top next ended e f times group items before = rw (ended, e, f, group, items, before, times) refl

-- a group that does not
pub leave_after : (old : Cursor) (stack : List Pending) (top : Pending) → old.items.now ≡ [] → reverse old.pending.items ≡ top ∷ reverse stack
    → top.times ≡ 0 → left_of old ≡ onto top.before (layout top.items.now) (waiting (reverse stack))
leave_after old stack top ended e times = rw (ended, e, times) refl

pub enter_guarded : (old : Cursor) (stack : List Pending) (g : Guard) (group rest : Layout) (next : Pending) → layout old.items.now ≡ guarded g group rest → passes g.test old.before ≡ true
    → stack ≡ old.pending.items ++ next ∷ [] → next.times ≡ 0 → layout next.items.now ≡ rest → next.before ≡ old.before → left_of old ≡ onto old.before group (waiting (reverse stack))
enter_guarded old stack g group rest next here pass e times items before = rw (here, e, reverse-push, times, items, before, pass) refl

pub enter_counted : (old : Cursor) (stack : List Pending) (group rest : Layout) (next : Pending) → layout old.items.now ≡ counted group rest → old.before ≡ suc next.times
    → stack ≡ old.pending.items ++ next ∷ [] → layout next.group.now ≡ group → layout next.items.now ≡ rest → next.before ≡ old.before → left_of old ≡ onto old.before group (waiting (reverse stack))
enter_counted old stack group rest next here times e groups items before = rw (here, e, reverse-push, groups, items, before) (iterate_more old.before next.times (onto old.before group) (onto old.before rest (waiting (reverse old.pending.items))) times)

-- what a loop over the stack reads past its end
abbrev pub blank : Pending
blank = record { group = record { ref_ptr = (0, 0); now = [] }; times = 0; items = record { ref_ptr = (0, 0); now = [] }; before = 0; steps = None; tail = None }

pub one_more_waits : (xs ys : List Pending) (i : ℕ) → ys ≡ xs → i < length ys → get_or ys i blank ∷ reverse (take i xs) ≡ reverse (take (i + 1) xs)
one_more_waits xs ys i e h =
    let t : i < length xs = rw (← e) h in
    ap (λ (zs : List Pending). get_or zs i blank ∷ reverse (take i xs)) e ∙ sym (ap reverse (take_more xs i blank t) ∙ reverse-push (take i xs) (get_or xs i blank))
