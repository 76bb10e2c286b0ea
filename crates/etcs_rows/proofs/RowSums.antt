-- The lengths of a row as sums of those of its parts.
use Rattle.std.proofs.Common.{◌≡◌, ℕ, ◌+◌, ◌≤◌, Bool, true, false, refl, ap, subst, arith}
use Rattle.etcs_vars.specs.declared.var.Var.{Var}
use Rattle.etcs_vars.specs.Vars.{width}
use Rattle.etcs_vars.proofs.Prefixes.{admits_from, some_number}
use Rattle.etcs_tables.specs.declared.item.Guard.{Guard}
use Rattle.etcs_tables.specs.Layouts.{Layout, whole, one, guarded, counted, passes}
use Rattle.etcs_rows.specs.Lengths.{LengthsBy, front, beyond, begins_with_group, GroupsWithin, FirstWithin}
use Rattle.etcs_rows.specs.Sums.{Plus, SumOf}
use Rattle.etcs_rows.proofs.LengthLemmas.{SameSet, set_along, set_back, set_self, Plus-same, SumOf-same, lengths-free}
use Rattle.etcs_rows.proofs.SumLemmas.{lengths-parts, admitted_word, no_front, is_open_false}

-- ---- Sums.

pub Plus-assoc : (A B C : ℕ → Type 0) → SameSet (Plus (Plus A B) C) (Plus A (Plus B C))
Plus-assoc A B C m = (
  λ (x, k, (i, j, a, b, e), c, t). (i, j + k, a, (j, k, b, c, refl), (let f : i + (j + k) ≡ m = omega (arith, e, t) in f)),
  λ (i, x, a, (j, k, b, c, e), t). (i + j, k, (i, j, a, b, refl), c, (let f : i + j + k ≡ m = omega (arith, e, t) in f)),
)

pub zero-Plus : (A : ℕ → Type 0) → SameSet A (Plus (λ m. m ≡ 0) A)
zero-Plus A m = (
  λ a. (0, m, refl, a, (let f : 0 + m ≡ m = omega arith in f)),
  λ (i, j, z, a, t). subst A (let f : j ≡ m = omega (arith, z, t) in f) a,
)

pub Plus-zero : (A : ℕ → Type 0) → SameSet A (Plus A (λ m. m ≡ 0))
Plus-zero A m = (
  λ a. (m, 0, a, refl, (let f : m + 0 ≡ m = omega arith in f)),
  λ (i, j, a, z, t). subst A (let f : i ≡ m = omega (arith, z, t) in f) a,
)

-- one more width in front
pub more_width : (L B R : ℕ → Type 0) (a b c : ℕ) → c ≡ a + b → SameSet L (Plus (λ k. k ≡ a) B) → SameSet (Plus (λ k. k ≡ b) R) B → SameSet L (Plus (λ k. k ≡ c) R)
more_width L B R a b c e h same m = (
  λ x.
      let y = (h m).0 x in let z = (same y.1).1 y.3 in
      let first = y.2 in let second = z.2 in let total = z.4 in let sum = y.4 in
      (c, z.1, refl, z.3, (let t : c + z.1 ≡ m = omega (arith, e, first, second, total, sum) in t)),
  λ (i, j, is, r, t). (h m).1 (a, b + j, refl, (same (b + j)).0 (b, j, refl, r, refl), (let f : a + (b + j) ≡ m = omega (arith, e, is, t) in f)),
)

-- ---- Rows.

pub whole_sum : (row : Layout) (n : ℕ) → row ≡ whole → SameSet (λ m. m ≡ 0) (LengthsBy row n)
unfolding LengthsBy
whole_sum row n e = rw e (λ m. (λ x. x, λ x. x))

pub passed_sum : (row : Layout) (g : Guard) (group rest : Layout) (n : ℕ) → row ≡ guarded g group rest → passes g.test n ≡ true → SameSet (Plus (LengthsBy group n) (LengthsBy rest n)) (LengthsBy row n)
unfolding LengthsBy
passed_sum row g group rest n e pass = rw (e, pass) (λ m. (λ x. x, λ x. x))

pub not_passed_sum : (row : Layout) (g : Guard) (group rest : Layout) (n : ℕ) → row ≡ guarded g group rest → passes g.test n ≡ false → SameSet (LengthsBy rest n) (LengthsBy row n)
unfolding LengthsBy
not_passed_sum row g group rest n e pass = rw (e, pass) (λ m. (λ x. x, λ x. x))

pub counted_sum : (row group rest : Layout) (n : ℕ) → row ≡ counted group rest → SameSet (Plus (SumOf n (LengthsBy group n)) (LengthsBy rest n)) (LengthsBy row n)
unfolding LengthsBy
counted_sum row group rest n e = rw e (λ m. (λ x. x, λ x. x))

-- the first variable, the groups on its number, and what follows them
pub first_sum : (v : Var) (rest : Layout) (low high : ℕ) → SameSet (Plus (λ k. k ≡ width v) (Plus (GroupsWithin v rest low high) (LengthsBy (beyond rest) 0))) (FirstWithin v rest low high)
first_sum v rest low high m = (
  λ (w, j, is, (a, b, (n, l, u, ok, x), y, e), t). (n, j, l, u, ok, (lengths-parts rest n j).1 (a, b, x, y, e), (let f : width v + j ≡ m = omega (arith, is, t) in f)),
  λ (n, j, l, u, ok, x, t). (let p = (lengths-parts rest n j).0 x in (width v, j, refl, (p.0, p.1, (n, l, u, ok, p.2), p.3, p.4), t)),
)

-- any number of the first variable
pub one_sum : (row : Layout) (v : Var) (rest : Layout) (n : ℕ) → row ≡ one v rest → SameSet (FirstWithin v rest 0 18446744073709551615) (LengthsBy row n)
unfolding LengthsBy
one_sum row v rest n e = rw e (λ m. (
  λ (k, j, l, u, a, x, f). (k, j, a, x, f),
  λ (k, j, a, x, f). (k, j, (let t : 0 ≤ k = omega arith in t), (let y = admitted_word v k a in let t : k ≤ 18446744073709551615 = omega (arith, y) in t), a, x, f),
))

-- a first variable whose number no group looks at
pub free_sum : (row : Layout) (v : Var) (rest : Layout) (n : ℕ) → row ≡ one v rest → begins_with_group rest ≡ false → SameSet (Plus (λ k. k ≡ width v) (LengthsBy rest 0)) (LengthsBy row n)
unfolding LengthsBy
free_sum row v rest n e none =
    let o = is_open_false rest none in
    let some = some_number v in
    let ok = admits_from v some.0 some.1 some.2 in
    rw e (λ m. (
      λ (w, j, is, x, t). (some.0, j, ok, (lengths-free rest 0 some.0 o j).0 x, (let f : width v + j ≡ m = omega (arith, is, t) in f)),
      λ (k, j, a, x, t). (width v, j, refl, (lengths-free rest k 0 o j).0 x, t),
    ))

-- one counted group, as often as it occurs
pub counted_times : (row group rest : Layout) (A : ℕ → Type 0) → row ≡ counted group rest → begins_with_group group ≡ false → begins_with_group rest ≡ false → SameSet A (LengthsBy group 0) → (n : ℕ) → SameSet (SumOf n A) (LengthsBy (front row) n)
unfolding LengthsBy
counted_times row group rest A e open_group none same n =
    let none_front = no_front rest none in
    let o = is_open_false group open_group in
    let each : SameSet (SumOf n A) (SumOf n (LengthsBy group n)) = SumOf-same n A (LengthsBy group n) (λ m. (λ x. (lengths-free group 0 n o m).0 ((same m).0 x), λ x. (same m).1 ((lengths-free group 0 n o m).1 x))) in
    rw (e, none_front) (set_along (SumOf n A) (SumOf n (LengthsBy group n)) (Plus (SumOf n (LengthsBy group n)) (λ m. m ≡ 0)) each (Plus-zero (SumOf n (LengthsBy group n))))

-- ---- Groups of variables that no group looks at.

-- a row whose variables all are in front
pub led_whole : (row left : Layout) (w : ℕ) → left ≡ whole → SameSet (LengthsBy row 0) (Plus (λ k. k ≡ w) (LengthsBy left 0)) → SameSet (LengthsBy row 0) (Plus (λ k. k ≡ w) (λ m. m ≡ 0))
led_whole row left w none sum =
    let W : ℕ → Type 0 = λ k. k ≡ w in let Z : ℕ → Type 0 = λ k. k ≡ 0 in
    set_along (LengthsBy row 0) (Plus W (LengthsBy left 0)) (Plus W Z) sum (Plus-same W (LengthsBy left 0) W Z (set_self W) (set_back Z (LengthsBy left 0) (whole_sum left 0 none)))

pub led_alone : (row : Layout) (w n : ℕ) → begins_with_group row ≡ false → SameSet (LengthsBy row 0) (Plus (λ k. k ≡ w) (λ m. m ≡ 0)) → SameSet (λ k. k ≡ w) (LengthsBy row n)
led_alone row w n begun sum =
    let W : ℕ → Type 0 = λ k. k ≡ w in let Z : ℕ → Type 0 = λ k. k ≡ 0 in
    set_along W (Plus W Z) (LengthsBy row n) (Plus-zero W)
    (set_along (Plus W Z) (LengthsBy row 0) (LengthsBy row n) (set_back (LengthsBy row 0) (Plus W Z) sum) (lengths-free row 0 n (is_open_false row begun)))

-- one of them in front, which takes v bits
guarded_front : (p : Bool) (left : Layout) (g : Guard) (group rest : Layout) (n v : ℕ) → passes g.test n ≡ p → left ≡ guarded g group rest → (passes g.test n ≡ true → SameSet (λ k. k ≡ v) (LengthsBy group n)) → (passes g.test n ≡ false → v ≡ 0)
    → SameSet (Plus (λ k. k ≡ v) (LengthsBy (front rest) n)) (LengthsBy (front left) n)
guarded_front true left g group rest n v e is passed skipped =
    let V : ℕ → Type 0 = λ k. k ≡ v in let R = LengthsBy (front rest) n in
    set_along (Plus V R) (Plus (LengthsBy group n) R) (LengthsBy (front left) n) (Plus-same V R (LengthsBy group n) R (passed e) (set_self R)) (passed_sum (front left) g group (front rest) n (ap (λ (x : Layout). front x) is) e)
guarded_front false left g group rest n v e is passed skipped =
    let R = LengthsBy (front rest) n in
    let none : SameSet (Plus (λ k. k ≡ v) R) R = rw (skipped e) (set_back R (Plus (λ k. k ≡ 0) R) (zero-Plus R)) in
    set_along (Plus (λ k. k ≡ v) R) R (LengthsBy (front left) n) none (not_passed_sum (front left) g group (front rest) n (ap (λ (x : Layout). front x) is) e)

pub front_more : (items left : Layout) (g : Guard) (group rest : Layout) (n w v u : ℕ) → u ≡ w + v → left ≡ guarded g group rest → (passes g.test n ≡ true → SameSet (λ k. k ≡ v) (LengthsBy group n)) → (passes g.test n ≡ false → v ≡ 0)
    → SameSet (LengthsBy (front items) n) (Plus (λ k. k ≡ w) (LengthsBy (front left) n)) → SameSet (LengthsBy (front items) n) (Plus (λ k. k ≡ u) (LengthsBy (front rest) n))
front_more items left g group rest n w v u added is passed skipped sum =
    more_width (LengthsBy (front items) n) (LengthsBy (front left) n) (LengthsBy (front rest) n) w v u added sum (guarded_front (passes g.test n) left g group rest n v refl is passed skipped)

-- where no group is in front any more
pub front_ends : (items left : Layout) (n w : ℕ) → begins_with_group left ≡ false → SameSet (LengthsBy (front items) n) (Plus (λ k. k ≡ w) (LengthsBy (front left) n)) → SameSet (λ k. k ≡ w) (LengthsBy (front items) n)
front_ends items left n w none sum =
    let W : ℕ → Type 0 = λ k. k ≡ w in let Z : ℕ → Type 0 = λ k. k ≡ 0 in let F = LengthsBy (front left) n in
    set_along W (Plus W Z) (LengthsBy (front items) n) (Plus-zero W)
    (set_along (Plus W Z) (Plus W F) (LengthsBy (front items) n) (Plus-same W Z W F (set_self W) (whole_sum (front left) n (no_front left none))) (set_back (LengthsBy (front items) n) (Plus W F) sum))

pub after_none : (row : Layout) → begins_with_group row ≡ false → beyond row ≡ row
after_none whole e = refl
after_none (one v rest) e = refl
after_none (guarded g group rest) e = absurd cc
after_none (counted group rest) e = absurd cc
