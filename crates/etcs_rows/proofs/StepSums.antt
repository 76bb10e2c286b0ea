-- Lengths in equal steps, put together as the groups of a row are.
use Rattle.std.proofs.Common.{◌≡◌, ℕ, ◌+◌, ◌-◌, ◌*◌, ◌<◌, ◌≤◌, Option, Some, None, Bool, true, false, refl, ap, ◌∙◌, subst, arith, inl, inr}
use Rattle.std.specs.Prelude.{◌↔◌, ◌⊎◌, IsTrue, IfSome, MatchBool}
use Rattle.std.proofs.lemmas.Bool.{cases_lt}
use Rattle.std.proofs.Math.Nat.{mul-add, zero-mul, mul_comm, mul-le-mul_left}
use Rattle.etcs_vars.specs.declared.var.Var.{Var}
use Rattle.etcs_vars.specs.Vars.{admits}
use Rattle.etcs_tables.specs.declared.item.Guard.{Guard}
use Rattle.etcs_rows.specs.declared.progression.Progression.{Progression}
use Rattle.etcs_tables.specs.Layouts.{Layout, guarded, passes}
use Rattle.etcs_rows.specs.Lengths.{LengthsBy, begins_with_group, front, GroupsWithin, SetsWithin}
use Rattle.etcs_rows.specs.Progressions.{InProgression, IsProgression, InAny, InGuarded, TimesWithin}
use Rattle.etcs_rows.specs.Sums.{Plus, SumOf}
use Rattle.etcs_rows.proofs.LengthLemmas.{SameSet, set_along, lengths-free, Plus-same, SumOf-same}
use Rattle.etcs_rows.proofs.SumLemmas.{GroupsBelow, no_front, is_open_false}
use Rattle.etcs_rows.proofs.RowSums.{Plus-zero}
use Rattle.etcs_rows.proofs.StepLemmas.{one_number, times_steps, in_first, first_in}

pub some_are : (r : Option Progression) (A B : ℕ → Type 0) → SameSet A B → IfSome r (λ s. IsProgression s A) → IfSome r (λ s. IsProgression s B)
some_are None A B same h = tt
some_are (Some s) A B same h = set_along (InProgression s) A B h same

-- the sums of two sets
pub plus_are : (r : Option Progression) (a b : Progression) (A B T : ℕ → Type 0) → IsProgression a A → IsProgression b B → SameSet (Plus A B) T → IfSome r (λ s. IsProgression s (Plus (InProgression a) (InProgression b))) → IfSome r (λ s. IsProgression s T)
plus_are r a b A B T ha hb same h = some_are r (Plus (InProgression a) (InProgression b)) T (set_along (Plus (InProgression a) (InProgression b)) (Plus A B) T (Plus-same (InProgression a) (InProgression b) A B ha hb) same) h

pub times_are : (k : ℕ) (a s : Progression) (A : ℕ → Type 0) → IsProgression a A → IsProgression s (SumOf k (InProgression a)) → IsProgression s (SumOf k A)
times_are k a s A ha h = set_along (InProgression s) (SumOf k (InProgression a)) (SumOf k A) h (SumOf-same k (InProgression a) A ha)

-- ---- A group of one length, which occurs as often as a number says.

one_times : (g : Progression) (n : ℕ) → g.count ≡ 0 → SameSet (SumOf n (InProgression g)) (λ m. m ≡ g.first * n)
one_times g n z m =
    let s : Progression = record { first = g.first * n; step = g.step; count = g.count * n } in
    let sums = times_steps n g s refl refl refl m in
    let one = one_number s (ap (λ k. k * n) z ∙ zero-mul n) m in
    (λ x. one.0 (sums.1 x), λ e. sums.0 (one.1 e))

pub counted_steps : (g s : Progression) (a b : ℕ) → g.count ≡ 0 → a ≤ b → s.first ≡ g.first * a → s.step ≡ g.first → s.count ≡ b - a → IsProgression s (TimesWithin g a b)
unfolding InProgression
counted_steps g s a b z order f d c m = (
  λ (i, l, e).
      let e' : s.first + i * g.first ≡ m = rw d at e in
      let parts = mul-add g.first a i in let turned = mul_comm g.first i in
      (a + i, (let t : a ≤ a + i = omega arith in t), (let t : a + i ≤ b = omega (arith, l, c, order) in t), (one_times g (a + i) z m).1 (let t : m ≡ g.first * (a + i) = omega (arith, e', f, parts, turned) in t)),
  λ (n, l, u, x).
      let is : m ≡ g.first * n = (one_times g n z m).0 x in
      let i = n - a in
      let whole : a + i ≡ n = omega (arith, l) in
      let parts : g.first * n ≡ g.first * a + g.first * i = rw whole at (mul-add g.first a i) in let turned = mul_comm g.first i in
      (i, (let t : i ≤ s.count = omega (arith, u, c) in t), rw d (let t : s.first + i * g.first ≡ m = omega (arith, is, f, parts, turned) in t)),
)

-- one number of times
pub same_times : (g : Progression) (r : Option Progression) (a b : ℕ) → a ≡ b → IfSome r (λ s. IsProgression s (SumOf a (InProgression g))) → IfSome r (λ s. IsProgression s (TimesWithin g a b))
same_times g r a b e h = some_are r (SumOf a (InProgression g)) (TimesWithin g a b) (λ m. (
  λ x. (a, (let t : a ≤ a = omega arith in t), (let t : a ≤ b = omega (arith, e) in t), x),
  λ (n, l, u, x). subst (λ k. SumOf k (InProgression g) m) (let t : n ≡ a = omega (arith, e, l, u) in t) x,
)) h

-- the numbers of times are the admitted numbers of a variable
pub times_within : (v : Var) (rest : Layout) (g : Progression) (low high a b : ℕ) → ((n : ℕ) → SameSet (SumOf n (InProgression g)) (LengthsBy (front rest) n)) → ((n : ℕ) → ((a ≤ n) × (n ≤ b)) ↔ ((low ≤ n) × (n ≤ high) × IsTrue (admits v n)))
    → SameSet (TimesWithin g a b) (GroupsWithin v rest low high)
times_within v rest g low high a b same all m = (
  λ (n, l, u, x). (let ok = (all n).0 (l, u) in (n, ok.0, ok.1, ok.2, (same n m).0 x)),
  λ (n, l, u, ok, x). (let ends = (all n).1 (l, u, ok) in (n, ends.0, ends.1, (same n m).1 x)),
)

-- the group takes at least this
times_least : (g : Progression) (n m : ℕ) → SumOf n (InProgression g) m → g.first * n ≤ m
times_least g n m x =
    let s : Progression = record { first = g.first * n; step = g.step; count = g.count * n } in
    in_first s m ((times_steps n g s refl refl refl m).1 x)

times_first : (g all : Progression) (n : ℕ) → IsProgression all (SumOf n (InProgression g)) → all.first ≤ g.first * n
times_first g all n is =
    let s : Progression = record { first = g.first * n; step = g.step; count = g.count * n } in
    let low : SumOf n (InProgression g) (g.first * n) = (times_steps n g s refl refl refl (g.first * n)).0 (first_in s) in
    in_first all (g.first * n) ((is (g.first * n)).1 low)

-- no number of times from first and below next makes the sum
pub record NoTimes (g : Progression) (S X : ℕ → Type 0) (first next m : ℕ) : Type 0 where
  pub fail : (n : ℕ) → first ≤ n → n < next → Plus S (Plus (SumOf n (InProgression g)) X) m → ⊥

pub times_more : (g all : Progression) (S X : ℕ → Type 0) (a n m : ℕ) → NoTimes g S X a n m → IsProgression all (SumOf n (InProgression g)) → (Plus S (Plus (InProgression all) X) m → ⊥) → NoTimes g S X a (n + 1) m
times_more g all S X a n m h is not = record {
  fail = λ k l u x.
      elim (cases_lt k n) [
        | inl under ↦ h.fail k l under x
        | inr over ↦
            let same : k ≡ n = omega (arith, u, over) in
            let (i, y, s, (j, z, f, w, e), t) = subst (λ c. Plus S (Plus (SumOf c (InProgression g)) X) m) same x in
            not (i, y, s, (j, z, (is j).1 f, w, e), t)
      ];
}

pub times_none : (g : Progression) (S X : ℕ → Type 0) (a b next m : ℕ) → NoTimes g S X a next m → b < next → IsTrue false ↔ Plus S (Plus (TimesWithin g a b) X) m
times_none g S X a b next m h all = (
  λ x. absurd cc,
  λ (i, y, s, (j, k, (n, l, u, f), x, e), t). absurd (h.fail n l (omega (arith, u, all)) (i, y, s, (j, k, f, x, e), t)),
)

-- with a number of times that makes the sum
pub times_found : (g all s sum : Progression) (X : ℕ → Type 0) (a b n m : ℕ) → a ≤ n → n ≤ b → IsProgression all (SumOf n (InProgression g)) → IsProgression s (Plus (InProgression sum) (InProgression all)) → Plus (InProgression s) X m → Plus (InProgression sum) (Plus (TimesWithin g a b) X) m
times_found g all s sum X a b n m l u is hs (i, k, ps, pk, e) =
    let (x, y, px, py, f) = (hs i).0 ps in
    (x, y + k, px, (y, k, (n, l, u, (is y).0 py), pk, refl), (let t : x + (y + k) ≡ m = omega (arith, e, f) in t))

-- and with one that doesn't
pub times_not : (all s : Progression) (S X : ℕ → Type 0) (m : ℕ) → IsProgression s (Plus S (InProgression all)) → (Plus (InProgression s) X m → ⊥) → Plus S (Plus (InProgression all) X) m → ⊥
times_not all s S X m hs not (x, z, px, (y, k, py, pk, f), e) =
    not (x + y, k, (hs (x + y)).1 (x, y, px, py, refl), pk, (let t : x + y + k ≡ m = omega (arith, e, f) in t))

-- where a number of times makes too much, so do those above it
pub times_past : (g all sum : Progression) (X : ℕ → Type 0) (a b n m : ℕ) → NoTimes g (InProgression sum) X a n m → IsProgression all (SumOf n (InProgression g)) → m < sum.first + all.first → IsTrue false ↔ Plus (InProgression sum) (Plus (TimesWithin g a b) X) m
times_past g all sum X a b n m h is past = (
  λ x. absurd cc,
  λ (i, y, s, (j, k, (c, l, u, f), x, e), t).
      elim (cases_lt c n) [
        | inl under ↦ absurd (h.fail c l under (i, y, s, (j, k, f, x, e), t))
        | inr over ↦
            let least = times_least g c j f in
            let low = in_first sum i s in
            let own : all.first ≤ g.first * n = times_first g all n is in
            let more : g.first * n ≤ g.first * c = mul-le-mul_left g.first over in
            absurd (omega (arith, least, low, own, more, e, t, past))
      ],
)

-- ---- A group that is there where a number passes a test.

guarded_cases : (b : Bool) (A G : ℕ → Type 0) → SameSet A G → SameSet (λ m. MatchBool b (A m) (m ≡ 0)) (λ m. MatchBool b (Plus G (λ k. k ≡ 0) m) (m ≡ 0))
guarded_cases true A G same = set_along A G (Plus G (λ k. k ≡ 0)) same (Plus-zero G)
guarded_cases false A G same = λ m. (λ x. x, λ x. x)

pub guarded_groups : (row : Layout) (g : Guard) (group rest : Layout) (s : Progression) → row ≡ guarded g group rest → begins_with_group group ≡ false → begins_with_group rest ≡ false → IsProgression s (LengthsBy group 0)
    → (n : ℕ) → SameSet (InGuarded g.test s n) (LengthsBy (front row) n)
unfolding LengthsBy
guarded_groups row g group rest s e open_group none same n =
    let none_front = no_front rest none in
    let o = is_open_false group open_group in
    rw (e, none_front) (guarded_cases (passes g.test n) (InProgression s) (LengthsBy group n) (set_along (InProgression s) (LengthsBy group 0) (LengthsBy group n) same (lengths-free group 0 n o)))

-- ---- Numbers of a variable one after another.

-- the steps so far are the sets of the family F at the admitted numbers from low and below next
pub record StepsTo (v : Var) (F : ℕ → ℕ → Type 0) (low next : ℕ) (all : Option Progression) : Type 0 where
  pub are : (m : ℕ) → InAny all m ↔ GroupsBelow v F low next m

pub steps_none : (v : Var) (F : ℕ → ℕ → Type 0) (low : ℕ) → StepsTo v F low low None
steps_none v F low = record { are = λ m. (λ x. absurd x, λ (n, l, u, ok, x). absurd (omega (arith, l, u))) }

pub steps_more : (v : Var) (F : ℕ → ℕ → Type 0) (low n : ℕ) (all : Option Progression) (more s : Progression) → StepsTo v F low n all → low ≤ n → IsTrue (admits v n) → IsProgression more (F n) → ((m : ℕ) → InProgression s m ↔ (InAny all m ⊎ InProgression more m)) → StepsTo v F low (n + 1) (Some s)
steps_more v F low n all more s h le ok hm both = record {
  are = λ m. (
    λ x. elim ((both m).0 x) [
      | inl y ↦ (let p = (h.are m).0 y in (p.0, p.1, (let q = p.2 in let t : p.0 < n + 1 = omega (arith, q) in t), p.3, p.4))
      | inr y ↦ (n, le, (let t : n < n + 1 = omega arith in t), ok, (hm m).0 y)
    ],
    λ (k, l, u, a, x).
        (both m).1 (elim (cases_lt k n) [
          | inl under ↦ inl ((h.are m).1 (k, l, under, a, x))
          | inr over ↦ inr (let same : k ≡ n = omega (arith, u, over) in (hm m).1 (subst (λ i. F i m) same x))
        ]),
  );
}

pub steps_same : (v : Var) (F : ℕ → ℕ → Type 0) (low n : ℕ) (all : Option Progression) → StepsTo v F low n all → (IsTrue (admits v n) → ⊥) → StepsTo v F low (n + 1) all
steps_same v F low n all h not = record {
  are = λ m. (
    λ x. (let p = (h.are m).0 x in (p.0, p.1, (let q = p.2 in let t : p.0 < n + 1 = omega (arith, q) in t), p.3, p.4)),
    λ (k, l, u, a, x).
        elim (cases_lt k n) [
          | inl under ↦ (h.are m).1 (k, l, under, a, x)
          | inr over ↦ (let same : k ≡ n = omega (arith, u, over) in absurd (not (subst (λ i. IsTrue (admits v i)) same a)))
        ],
  );
}

-- every admitted number from low to high was looked at
pub steps_all : (v : Var) (F : ℕ → ℕ → Type 0) (low high next : ℕ) (all : Option Progression) → StepsTo v F low next all → ((n : ℕ) → low ≤ n → n < next → n ≤ high) → ((n : ℕ) → low ≤ n → n ≤ high → IsTrue (admits v n) → n < next) → IfSome all (λ s. IsProgression s (SetsWithin v F low high))
steps_all v F low high next None h f g = tt
steps_all v F low high next (Some s) h f g = λ m. (
  λ x. (let p = (h.are m).0 x in (p.0, p.1, f p.0 p.1 p.2, p.3, p.4)),
  λ (n, l, u, a, x). (h.are m).1 (n, l, g n l u a, a, x),
)
