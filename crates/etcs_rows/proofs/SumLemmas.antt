-- Sets of lengths, put together as the groups of a row are.
use Rattle.std.proofs.Common.{◌≡◌, ℕ, ◌+◌, ◌-◌, ◌^◌, ◌/◌, ◌<◌, ◌≤◌, List, [], ◌∷◌, zero, suc, length, reverse, add-one, true, false, not, Some, subst, refl, sym, ap, ◌∙◌, arith, inl, inr}
use Rattle.std.specs.Prelude.{◌↔◌, ◌⊎◌, IsTrue}
use Rattle.std.proofs.lemmas.Bool.{cases_lt}
use Rattle.std.proofs.lemmas.Nat.Bits.{ones_shr}
use Rattle.etcs_vars.specs.declared.var.Var.{Var}
use Rattle.std.proofs.Math.Pow.{pow_mono}
use Rattle.etcs_vars.specs.Vars.{width, admits}
use Rattle.etcs_vars.proofs.Prefixes.{admits_parts, admits_from, some_number, width-le}
use Rattle.etcs_rows.specs.declared.length_set.LengthSet.{LengthSet}
use Rattle.etcs_tables.specs.declared.item.Guard.{Guard}
use Rattle.etcs_tables.specs.declared.item.RowItem.{RowItem}
use Rattle.etcs_tables.specs.declared.item.RowItem.TheVariants.{One}
use Rattle.etcs_tables.specs.Layouts.{Layout, whole, one, guarded, counted, passes, layout, begins}
use denote.Bor.{Bor}
use Rattle.etcs_rows.specs.declared.head.Head.{Head}
use Rattle.etcs_rows.specs.declared.head.Head.TheVariants as head
use Rattle.etcs_rows.specs.Heads.{IsHead}
use Rattle.etcs_rows.specs.Places.{append, onto, first_variable}
use Rattle.etcs_rows.specs.Cursors.{waiting, left_of, IsSettled}
use Rattle.etcs_rows.specs.declared.place.Pending.{Pending}
use Rattle.etcs_rows.specs.declared.place.Cursor.{Cursor}
use Rattle.etcs_rows.specs.Sets.{In, IsSet}
use Rattle.etcs_rows.specs.Sums.{Plus, SumOf}
use Rattle.etcs_rows.specs.Lengths.{LengthsBy, front, beyond, begins_with_group, GroupsWithin, SetsWithin, FirstWithin, FitsWithin, is_free}
use Rattle.etcs_rows.proofs.SetLemmas.{SumsOf, times_more}
use Rattle.etcs_rows.proofs.PlaceLemmas.{Open, Open-onto, Open-waiting}
use Rattle.etcs_rows.proofs.LengthLemmas.{SameSet, set_back, lengths-append, lengths-free, lengths-onto, lengths-iterate}

pub set_same : (s : LengthSet) (A B : ℕ → Type 0) → SameSet A B → IsSet s A → IsSet s B
set_same s A B h is m = (λ x. (let y = (is m).0 x in ((h m).0 y.0, y.1)), λ (b, small). (is m).1 ((h m).1 b, small))

pub set_nothing : (s : LengthSet) (A : ℕ → Type 0) → ((m : ℕ) → In s m ↔ (m ≡ 0)) → SameSet (λ m. m ≡ 0) A → IsSet s A
set_nothing s A h same m = (λ x. (let e = (h m).0 x in let t : m ≤ 8191 = omega (arith, e) in ((same m).0 e, t)), λ (a, small). (h m).1 ((same m).1 a))

pub set_plus : (a b s : LengthSet) (A B : ℕ → Type 0) → IsSet a A → IsSet b B → ((m : ℕ) → In s m ↔ (Plus (In a) (In b) m × (m ≤ 8191))) → IsSet s (Plus A B)
set_plus a b s A B ha hb h m = (
  λ x. (let y = (h m).0 x in let p = y.0 in ((p.0, p.1, ((ha p.0).0 p.2).0, ((hb p.1).0 p.3).0, p.4), y.1)),
  λ ((j, k, x, y, e), small). (h m).1 ((j, k, (ha j).1 (x, (let t : j ≤ 8191 = omega (arith, e, small) in t)), (hb k).1 (y, (let t : k ≤ 8191 = omega (arith, e, small) in t)), e), small),
)

sum_of_in : (n : ℕ) (a : LengthSet) (A : ℕ → Type 0) → IsSet a A → (m : ℕ) → m ≤ 8191 → SumOf n (In a) m ↔ SumOf n A m
sum_of_in zero a A h m small = (λ x. x, λ x. x)
sum_of_in (suc n) a A h m small = (
  λ (j, k, x, y, e). (j, k, ((h j).0 x).0, (sum_of_in n a A h k (omega (arith, e, small))).0 y, e),
  λ (j, k, x, y, e). (j, k, (h j).1 (x, (let t : j ≤ 8191 = omega (arith, e, small) in t)), (sum_of_in n a A h k (omega (arith, e, small))).1 y, e),
)

pub set_times : (n : ℕ) (a s : LengthSet) (A : ℕ → Type 0) → IsSet a A → ((m : ℕ) → In s m ↔ (SumOf n (In a) m × (m ≤ 8191))) → IsSet s (SumOf n A)
set_times n a s A ha h m = (
  λ x. (let y = (h m).0 x in ((sum_of_in n a A ha m y.1).0 y.0, y.1)),
  λ (x, small). (h m).1 ((sum_of_in n a A ha m small).1 x, small),
)

-- ---- The parts of a row.

pub front-beyond : (row : Layout) → append (front row) (beyond row) ≡ row
front-beyond whole = refl
front-beyond (one v rest) = refl
front-beyond (guarded g group rest) = ap (guarded g group) (front-beyond rest)
front-beyond (counted group rest) = ap (counted group) (front-beyond rest)

pub beyond-open : (row : Layout) → Open (beyond row)
beyond-open whole = tt
beyond-open (one v rest) = tt
beyond-open (guarded g group rest) = beyond-open rest
beyond-open (counted group rest) = beyond-open rest

pub after_begins : (row : Layout) → begins_with_group (beyond row) ≡ false
after_begins whole = refl
after_begins (one v rest) = refl
after_begins (guarded g group rest) = after_begins rest
after_begins (counted group rest) = after_begins rest

pub lengths-parts : (row : Layout) (n : ℕ) → SameSet (LengthsBy row n) (Plus (LengthsBy (front row) n) (LengthsBy (beyond row) 0))
lengths-parts row n m =
    let x = lengths-append (front row) (beyond row) n (beyond-open row) m in
    let e = front-beyond row in (
      λ l. x.0 (rw e l),
      λ p. (let t = x.1 p in rw e at t),
    )

pub set_whole : (s : LengthSet) (row : Layout) (n : ℕ) → ((m : ℕ) → In s m ↔ (m ≡ 0)) → row ≡ whole → IsSet s (LengthsBy row n)
unfolding LengthsBy
set_whole s row n h e = rw e (set_nothing s (λ m. m ≡ 0) h (λ m. (λ x. x, λ x. x)))

pub set_passed : (a b s : LengthSet) (row : Layout) (g : Guard) (group rest : Layout) (n : ℕ) → row ≡ guarded g group rest → passes g.test n ≡ true → IsSet a (LengthsBy group n) → IsSet b (LengthsBy rest n) → ((m : ℕ) → In s m ↔ (Plus (In a) (In b) m × (m ≤ 8191))) → IsSet s (LengthsBy row n)
unfolding LengthsBy
set_passed a b s row g group rest n e pass ha hb h = rw (e, pass) (set_plus a b s (LengthsBy group n) (LengthsBy rest n) ha hb h)

pub set_not_passed : (s : LengthSet) (row : Layout) (g : Guard) (group rest : Layout) (n : ℕ) → row ≡ guarded g group rest → passes g.test n ≡ false → IsSet s (LengthsBy rest n) → IsSet s (LengthsBy row n)
unfolding LengthsBy
set_not_passed s row g group rest n e pass h = rw (e, pass) h

pub set_counted : (a t b s : LengthSet) (row group rest : Layout) (n : ℕ) → row ≡ counted group rest → IsSet a (LengthsBy group n) → ((m : ℕ) → In t m ↔ (SumOf n (In a) m × (m ≤ 8191))) → IsSet b (LengthsBy rest n)
    → ((m : ℕ) → In s m ↔ (Plus (In t) (In b) m × (m ≤ 8191))) → IsSet s (LengthsBy row n)
unfolding LengthsBy
set_counted a t b s row group rest n e ha ht hb h = rw e (set_plus t b s (SumOf n (LengthsBy group n)) (LengthsBy rest n) (set_times n a t (LengthsBy group n) ha ht) hb h)

pub admitted_word : (v : Var) (n : ℕ) → IsTrue (admits v n) → n < 2 ^ 64
admitted_word v n a = let x = (admits_parts v n a).1 in let y = pow_mono (width-le v) in omega (arith, y)

pub set_one : (s : LengthSet) (row rest : Layout) (v : Var) (n : ℕ) → row ≡ one v rest → IsSet s (FirstWithin v rest 0 18446744073709551615) → IsSet s (LengthsBy row n)
unfolding LengthsBy
set_one s row rest v n e h =
    rw e (set_same s (FirstWithin v rest 0 18446744073709551615) (LengthsBy (one v rest) n)
    (λ m. (λ (k, j, l, u, a, x, f). (k, j, a, x, f), λ (k, j, a, x, f). (k, j, (let t : 0 ≤ k = omega arith in t), (let y = admitted_word v k a in let t : k ≤ 18446744073709551615 = omega (arith, y) in t), a, x, f))) h)

-- ---- A row with no group in front.

pub no_front : (rest : Layout) → begins_with_group rest ≡ false → front rest ≡ whole
no_front whole e = refl
no_front (one v rest) e = refl
no_front (guarded g group rest) e = absurd cc
no_front (counted group rest) e = absurd cc

is_open : (rest : Layout) → IsTrue (not (begins_with_group rest)) → Open rest
is_open whole h = tt
is_open (one v rest) h = tt
is_open (guarded g group rest) h = absurd cc
is_open (counted group rest) h = absurd cc

pub is_open_false : (rest : Layout) → begins_with_group rest ≡ false → Open rest
is_open_false whole h = tt
is_open_false (one v rest) h = tt
is_open_false (guarded g group rest) h = absurd cc
is_open_false (counted group rest) h = absurd cc

-- a variable whose number no group looks at
pub set_free_one : (b s : LengthSet) (row rest : Layout) (v : Var) (n : ℕ) → row ≡ one v rest → begins_with_group rest ≡ false → IsSet b (LengthsBy rest 0)
    → ((m : ℕ) → In s m ↔ ((k : ℕ) × In b k × (k + width v ≡ m) × (m ≤ 8191))) → IsSet s (LengthsBy row n)
unfolding LengthsBy
set_free_one b s row rest v n e none hb h =
    let o = is_open_false rest none in
    let some = some_number v in
    let ok = admits_from v some.0 some.1 some.2 in
    rw e (λ m. (
      λ x.
          let y = (h m).0 x in
          let l = ((hb y.0).0 y.1).0 in
          let wide = y.2 in
          ((some.0, y.0, ok, (lengths-free rest 0 some.0 o y.0).0 l, (let t : width v + y.0 ≡ m = omega (arith, wide) in t)), y.3),
      λ ((k, j, a, l, wide), small).
          (h m).1 (j, (hb j).1 ((lengths-free rest k 0 o j).0 l, (let t : j ≤ 8191 = omega (arith, wide, small) in t)), (let t : j + width v ≡ m = omega (arith, wide) in t), small),
    ))

-- the first variable and the rest, by the groups in front of the rest and what follows them
pub set_first : (a w b s : LengthSet) (v : Var) (rest : Layout) (low high : ℕ) → IsSet a (GroupsWithin v rest low high) → ((m : ℕ) → In w m ↔ ((k : ℕ) × In a k × (k + width v ≡ m) × (m ≤ 8191))) → IsSet b (LengthsBy (beyond rest) 0)
    → ((m : ℕ) → In s m ↔ (Plus (In w) (In b) m × (m ≤ 8191))) → IsSet s (FirstWithin v rest low high)
set_first a w b s v rest low high ha hw hb h m = (
  λ x.
      let y = (h m).0 x in let p = y.0 in
      let q = (hw p.0).0 p.2 in
      let g = ((ha q.0).0 q.1).0 in
      let r = ((hb p.1).0 p.3).0 in
      let n = g.0 in
      let wide = q.2 in let total = p.4 in (
        (n, q.0 + p.1, g.1, g.2, g.3, (lengths-parts rest n (q.0 + p.1)).1 (q.0, p.1, g.4, r, refl), (let t : width v + (q.0 + p.1) ≡ m = omega (arith, wide, total) in t)),
        y.1,
      ),
  λ ((n, j, l, u, ok, x, e), small).
      let parts = (lengths-parts rest n j).0 x in
      let f = parts.4 in
      let i = parts.0 in let k = parts.1 in
      (h m).1 (
        (
          width v + i,
          k,
          (hw (width v + i)).1 (i, (ha i).1 ((n, l, u, ok, parts.2), (let t : i ≤ 8191 = omega (arith, e, f, small) in t)), (let t : i + width v ≡ width v + i = omega arith in t), (let t : width v + i ≤ 8191 = omega (arith, e, f, small) in t)),
          (hb k).1 (parts.3, (let t : k ≤ 8191 = omega (arith, e, f, small) in t)),
          (let t : (width v + i) + k ≡ m = omega (arith, e, f) in t),
        ),
        small,
      ),
)

-- ---- The groups after a number that is not known.

abbrev pub GroupsBelow : Var → (ℕ → ℕ → Type 0) → ℕ → ℕ → ℕ → Type 0
GroupsBelow v F low next m = (n : ℕ) × (low ≤ n) × (n < next) × IsTrue (admits v n) × F n m

pub record GroupsTo (v : Var) (F : ℕ → ℕ → Type 0) (low next : ℕ) (s : LengthSet) : Type 0 where
  pub are : IsSet s (GroupsBelow v F low next)

pub groups_none : (v : Var) (F : ℕ → ℕ → Type 0) (low next : ℕ) (s : LengthSet) → next ≤ low → ((m : ℕ) → In s m → ⊥) → GroupsTo v F low next s
groups_none v F low next s le h = record { are = λ m. (λ x. absurd (h m x), λ ((n, l, u, ok, x), small). absurd (omega (arith, l, u, le))) }

pub groups_more : (v : Var) (F : ℕ → ℕ → Type 0) (low n : ℕ) (s more next : LengthSet) → GroupsTo v F low n s → low ≤ n → IsTrue (admits v n) → IsSet more (F n) → ((m : ℕ) → In next m ↔ (In s m ⊎ In more m)) → GroupsTo v F low (n + 1) next
groups_more v F low n s more next h le ok hm all = record {
  are = λ m. (
    λ x. elim ((all m).0 x) [
      | inl y ↦ (let z = (h.are m).0 y in let p = z.0 in ((p.0, p.1, (let q = p.2 in let t : p.0 < n + 1 = omega (arith, q) in t), p.3, p.4), z.1))
      | inr y ↦ (let z = (hm m).0 y in ((n, le, (let t : n < n + 1 = omega arith in t), ok, z.0), z.1))
    ],
    λ ((k, l, u, a, x), small).
        (all m).1 (elim (cases_lt k n) [
          | inl under ↦ inl ((h.are m).1 ((k, l, under, a, x), small))
          | inr over ↦ inr (let same : k ≡ n = omega (arith, u) in let y : F n m = subst (λ i. F i m) same x in (hm m).1 (y, small))
        ]),
  );
}

pub groups_same : (v : Var) (F : ℕ → ℕ → Type 0) (low n : ℕ) (s : LengthSet) → GroupsTo v F low n s → (IsTrue (admits v n) → ⊥) → GroupsTo v F low (n + 1) s
groups_same v F low n s h not = record {
  are = λ m. (
    λ x. (let z = (h.are m).0 x in let p = z.0 in ((p.0, p.1, (let q = p.2 in let t : p.0 < n + 1 = omega (arith, q) in t), p.3, p.4), z.1)),
    λ ((k, l, u, a, x), small).
        elim (cases_lt k n) [
          | inl under ↦ (h.are m).1 ((k, l, under, a, x), small)
          | inr over ↦ (let same : k ≡ n = omega (arith, u) in let y : IsTrue (admits v n) = rw same at a in absurd (not y))
        ],
  );
}

-- every admitted number from low to high was looked at
pub groups_all : (v : Var) (F : ℕ → ℕ → Type 0) (low high next : ℕ) (s : LengthSet) → GroupsTo v F low next s → ((n : ℕ) → low ≤ n → n < next → n ≤ high) → ((n : ℕ) → low ≤ n → n ≤ high → IsTrue (admits v n) → n < next) → IsSet s (SetsWithin v F low high)
groups_all v F low high next s h f g m = (
  λ x. (let z = (h.are m).0 x in let p = z.0 in ((p.0, p.1, f p.0 p.1 p.2, p.3, p.4), z.1)),
  λ ((n, l, u, a, x), small). (h.are m).1 ((n, l, g n l u a, a, x), small),
)

-- no admitted number passes the largest of its width
pub most_admits : (v : Var) (n : ℕ) → IsTrue (admits v n) → n ≤ 18446744073709551615 / 2 ^ (64 - width v)
most_admits v n a =
    let fits = (admits_parts v n a).1 in
    let small : width v ≤ 64 = width-le v in
    let most = ones_shr 64 (64 - width v) (omega arith) in
    let back : 64 - (64 - width v) ≡ width v = omega arith in
    let is : 18446744073709551615 / 2 ^ (64 - width v) ≡ 2 ^ width v - 1 = most ∙ ap (λ k. 2 ^ k - 1) back in
    omega (arith, is, fits)

pub no_items : (xs : List RowItem) → length xs ≡ 0 → layout xs ≡ whole
no_items [] e = refl
no_items (x ∷ xs) e = absurd (omega (arith, e))

-- a row that begins with neither a group nor a variable
pub open_end : (h : Head) (items : List RowItem) → IsHead h items → ((v : Var) → (r : Bor (List RowItem)) → h ≡ head.One v r → ⊥) → begins_with_group (layout items) ≡ false → layout items ≡ whole
open_end head.End items is off none = ap (λ (x : List RowItem). layout x) is
open_end (head.One v r) items is off none = absurd (off v r refl)
open_end (head.When g a b) items (is, x, y) off none = absurd (let t = rw is at none in cc)
open_end (head.Many a b) items (is, x, y) off none = absurd (let t = rw is at none in cc)

-- a row with no group in front
pub set_no_front : (s : LengthSet) (row : Layout) (n : ℕ) → ((m : ℕ) → In s m ↔ (m ≡ 0)) → front row ≡ whole → IsSet s (LengthsBy (front row) n)
set_no_front s row n h e = set_whole s (front row) n h e

-- ---- What waits after the current group.

pub set_none_waiting : (s : LengthSet) → ((m : ℕ) → In s m ↔ (m ≡ 0)) → IsSet s (LengthsBy (waiting []) 0)
set_none_waiting s h = set_whole s whole 0 h refl

pub set_waiting : (s g t i u next : LengthSet) (p : Pending) (ps : List Pending) → IsSet s (LengthsBy (waiting ps) 0) → IsSet g (LengthsBy (layout p.group.now) p.before) → ((m : ℕ) → In t m ↔ (SumOf p.times (In g) m × (m ≤ 8191)))
    → IsSet i (LengthsBy (layout p.items.now) p.before) → ((m : ℕ) → In u m ↔ (Plus (In i) (In s) m × (m ≤ 8191))) → ((m : ℕ) → In next m ↔ (Plus (In t) (In u) m × (m ≤ 8191))) → IsSet next (LengthsBy (waiting (p ∷ ps)) 0)
set_waiting s g t i u next p ps hs hg ht hi hu hn =
    let group = layout p.group.now in let items = layout p.items.now in let n = p.before in
    let X = onto n items (waiting ps) in
    let x : IsSet u (LengthsBy X 0) = set_same u (Plus (LengthsBy items n) (LengthsBy (waiting ps) 0)) (LengthsBy X 0) (set_back (LengthsBy X 0) (Plus (LengthsBy items n) (LengthsBy (waiting ps) 0)) (lengths-onto items (waiting ps) n (Open-waiting ps))) (set_plus i s u (LengthsBy items n) (LengthsBy (waiting ps) 0) hi hs hu) in
    let y : IsSet t (SumOf p.times (LengthsBy group n)) = set_times p.times g t (LengthsBy group n) hg ht in
    set_same next (Plus (SumOf p.times (LengthsBy group n)) (LengthsBy X 0)) (LengthsBy (waiting (p ∷ ps)) 0)
    (set_back (LengthsBy (waiting (p ∷ ps)) 0) (Plus (SumOf p.times (LengthsBy group n)) (LengthsBy X 0)) (lengths-iterate p.times n group X (Open-onto n items (waiting ps) (Open-waiting ps))))
    (set_plus t u next (SumOf p.times (LengthsBy group n)) (LengthsBy X 0) y x hn)

-- what is left of a row
pub set_left : (a w s : LengthSet) (c : Cursor) → IsSet a (LengthsBy (layout c.items.now) c.before) → IsSet w (LengthsBy (waiting (reverse c.pending.items)) 0) → ((m : ℕ) → In s m ↔ (Plus (In a) (In w) m × (m ≤ 8191))) → IsSet s (LengthsBy (left_of c) 0)
set_left a w s c ha hw hs =
    let row = layout c.items.now in let tail = waiting (reverse c.pending.items) in
    set_same s (Plus (LengthsBy row c.before) (LengthsBy tail 0)) (LengthsBy (left_of c) 0)
    (set_back (LengthsBy (left_of c) 0) (Plus (LengthsBy row c.before) (LengthsBy tail 0)) (lengths-onto row tail c.before (Open-waiting (reverse c.pending.items))))
    (set_plus a w s (LengthsBy row c.before) (LengthsBy tail 0) ha hw hs)

-- ---- The first variable of what is left.

pub first_and_tail : (v : Var) (rest tail : Layout) (low high : ℕ) → Open tail → SameSet (FirstWithin v (append rest tail) low high) (Plus (FirstWithin v rest low high) (LengthsBy tail 0))
first_and_tail v rest tail low high o m = (
  λ (n, j, l, h, ok, x, e).
      let p = (lengths-append rest tail n o j).0 x in
      let f = p.4 in
      (width v + p.0, p.1, (n, p.0, l, h, ok, p.2, refl), p.3, (let t : width v + p.0 + p.1 ≡ m = omega (arith, e, f) in t)),
  λ (i, k, (n, j, l, h, ok, x, e), y, f).
      (n, j + k, l, h, ok, (lengths-append rest tail n o (j + k)).1 (j, k, x, y, refl), (let t : width v + (j + k) ≡ m = omega (arith, e, f) in t)),
)

pub fits_left : (c : Cursor) (v : Var) (rest : List RowItem) (low high m : ℕ) (a w s : LengthSet) → c.items.now ≡ One v ∷ rest → IsSet a (FirstWithin v (layout rest) low high) → IsSet w (LengthsBy (waiting (reverse c.pending.items)) 0)
    → ((k : ℕ) → In s k ↔ (Plus (In a) (In w) k × (k ≤ 8191))) → In s m ↔ FitsWithin (left_of c) low high m
fits_left c v rest low high m a w s e ha hw hs =
    let tail = waiting (reverse c.pending.items) in
    let o = Open-waiting (reverse c.pending.items) in
    rw e (set_same s (Plus (FirstWithin v (layout rest) low high) (LengthsBy tail 0)) (FirstWithin v (append (layout rest) tail) low high)
    (set_back (FirstWithin v (append (layout rest) tail) low high) (Plus (FirstWithin v (layout rest) low high) (LengthsBy tail 0)) (first_and_tail v (layout rest) tail low high o))
    (set_plus a w s (FirstWithin v (layout rest) low high) (LengthsBy tail 0) ha hw hs) m)

pub fits_none : (c : Cursor) (low high m : ℕ) → IsSettled c → begins (layout c.items.now) ≡ false → FitsWithin (left_of c) low high m → ⊥
fits_none c low high m settled none h =
    let gone = settled none in
    let h' = rw (gone.0, gone.1) at h in h'

-- ---- A variable that no group looks at.

-- so it may be any number that it admits
pub free_fits : (row : Layout) (v : Var) (from to low high m : ℕ) → first_variable row ≡ Some v → IsTrue (is_free row) → FitsWithin row from to m → ((n : ℕ) × (low ≤ n) × (n ≤ high) × IsTrue (admits v n)) ↔ FitsWithin row low high m
free_fits whole v from to low high m f free fits = elim fits [ ]
free_fits (one w rest) v from to low high m f free ((k, j, l, u, ok, x, e), small) =
    let same : w ≡ v = cc in
    let open-rest = is_open rest free in (
      λ (n, l', u', ok'). ((n, j, l', u', subst (λ y. IsTrue (admits y n)) (sym same) ok', (lengths-free rest k n open-rest j).0 x, e), small),
      λ ((n, i, l', u', ok', x', e'), small'). (n, l', u', subst (λ y. IsTrue (admits y n)) same ok'),
    )
free_fits (guarded g group rest) v from to low high m f free fits = elim fits [ ]
free_fits (counted group rest) v from to low high m f free fits = elim fits [ ]

free_append : (rest tail : Layout) → Open tail → begins_with_group rest ≡ false → IsTrue (not (begins_with_group (append rest tail)))
free_append whole whole o h = refl
free_append whole (one v tail) o h = refl
free_append whole (guarded g group tail) o h = elim o [ ]
free_append whole (counted group tail) o h = elim o [ ]
free_append (one v rest) tail o h = refl
free_append (guarded g group rest) tail o h = absurd cc
free_append (counted group rest) tail o h = absurd cc

pub free_place : (c : Cursor) (v : Var) (rest : List RowItem) → c.items.now ≡ One v ∷ rest → begins_with_group (layout rest) ≡ false → IsTrue (is_free (left_of c))
free_place c v rest e h = rw e (free_append (layout rest) (waiting (reverse c.pending.items)) (Open-waiting (reverse c.pending.items)) h)

-- ---- One counted group after a number that is not known.

pub power_more : (n : ℕ) (A : ℕ → Type 0) (s next : LengthSet) → SumsOf n A s → ((m : ℕ) → In next m ↔ (Plus A (In s) m × (m ≤ 8191))) → SumsOf (n + 1) A next
power_more n A s next h all = rw add-one (times_more n A s next h all)

pub counted_all : (v : Var) (row group rest : Layout) (low high : ℕ) (g s : LengthSet) → row ≡ counted group rest → begins_with_group group ≡ false → begins_with_group rest ≡ false → IsSet g (LengthsBy group 0)
    → IsSet s (SetsWithin v (λ n. SumOf n (In g)) low high) → IsSet s (GroupsWithin v row low high)
unfolding LengthsBy
counted_all v row group rest low high g s e open-group none hg hs =
    let none-front = no_front rest none in
    let o : Open group = is_open_false group open-group in
    let each : (n : ℕ) → IsSet g (LengthsBy group n) = λ n. set_same g (LengthsBy group 0) (LengthsBy group n) (lengths-free group 0 n o) hg in
    λ m. (
      λ x.
          let y = (hs m).0 x in
          let n = y.0.0 in
          let sum = (sum_of_in n g (LengthsBy group n) (each n) m y.1).0 y.0.4 in
          let all : LengthsBy (counted group whole) n m = (m, 0, sum, refl, (let t : m + 0 ≡ m = omega arith in t)) in
          let all' : LengthsBy (front (counted group rest)) n m = subst (λ (r : Layout). LengthsBy (counted group r) n m) (sym none-front) all in
          ((n, y.0.1, y.0.2, y.0.3, subst (λ (r : Layout). LengthsBy (front r) n m) (sym e) all'), y.1),
      λ ((n, l, u, a, x), small).
          let x' : LengthsBy (front (counted group rest)) n m = subst (λ (r : Layout). LengthsBy (front r) n m) e x in
          let y : LengthsBy (counted group whole) n m = subst (λ (r : Layout). LengthsBy (counted group r) n m) none-front x' in
          let zero-tail : y.1 ≡ 0 = y.3 in
          let total = y.4 in
          let same : y.0 ≡ m = omega (arith, zero-tail, total) in
          let sum : SumOf n (LengthsBy group n) m = subst (λ k. SumOf n (LengthsBy group n) k) same y.2 in
          (hs m).1 ((n, l, u, a, (sum_of_in n g (LengthsBy group n) (each n) m small).1 sum), small),
    )
