-- The numbers of sets next to a number.
use Rattle.std.proofs.Common.{◌≡◌, ℕ, ◌+◌, ◌-◌, ◌*◌, ◌/◌, ◌≤◌, ◌<◌, min, Bool, true, false, Option, Some, None, refl, subst, arith, inl, inr}
use Rattle.std.specs.Prelude.{◌↔◌, ◌⊎◌, IfSome, nat_lt, if◌then◌else◌}
use Rattle.std.proofs.lemmas.Bool.{cases_lt, ltb-true, ltb-false}
use Rattle.std.proofs.Math.Nat.{mul-zero, le-div_iff_mul-le, mul-le-mul_right}
use Rattle.etcs_rows.specs.declared.progression.Progression.{Progression}
use Rattle.etcs_rows.specs.Progressions.{InProgression, IsProgression, TimesWithin}
use Rattle.etcs_rows.specs.Sums.{Plus, SumOf}
use Rattle.etcs_rows.proofs.StepLemmas.{in_first, first_in}
use Rattle.etcs_rows.specs.declared.near.Near.{Near}
use Rattle.etcs_rows.specs.declared.length_set.LengthSet.{LengthSet}
use Rattle.etcs_rows.specs.Sets.{In}
use Rattle.etcs_rows.specs.Nearest.{IsLast, IsFirst, IsNear, greater, less, up_to}
use Rattle.etcs_rows.proofs.LengthLemmas.{SameSet}

-- ---- The same numbers.

pub last_same : (P Q : ℕ → Type 0) (r : Option ℕ) → SameSet P Q → IsLast P r → IsLast Q r
last_same P Q None same h = λ k q. h k ((same k).1 q)
last_same P Q (Some m) same h = ((same m).0 h.0, λ k q. h.1 k ((same k).1 q))

pub first_same : (P Q : ℕ → Type 0) (r : Option ℕ) → SameSet P Q → IsFirst P r → IsFirst Q r
first_same P Q None same h = λ k q. h k ((same k).1 q)
first_same P Q (Some m) same h = ((same m).0 h.0, λ k q. h.1 k ((same k).1 q))

with_bound : (P Q B : ℕ → Type 0) → SameSet P Q → SameSet (λ m. P m × B m) (λ m. Q m × B m)
with_bound P Q B same m = (λ h. ((same m).0 h.0, h.1), λ h. ((same m).1 h.0, h.1))

pub near_same : (P Q : ℕ → Type 0) (number : ℕ) (n : Near) → SameSet P Q → IsNear P number n → IsNear Q number n
near_same P Q number n same h = record {
  below = last_same (λ m. P m × (m ≤ number)) (λ m. Q m × (m ≤ number)) n.below (with_bound P Q (λ m. m ≤ number) same) h.below;
  above = first_same (λ m. P m × (number ≤ m)) (λ m. Q m × (number ≤ m)) n.above (with_bound P Q (λ m. number ≤ m) same) h.above;
}

pub some_near : (P Q : ℕ → Type 0) (number : ℕ) (r : Option Near) → SameSet P Q → IfSome r (λ n. IsNear P number n) → IfSome r (λ n. IsNear Q number n)
some_near P Q number None same h = tt
some_near P Q number (Some n) same h = near_same P Q number n same h

-- ---- No numbers, and those of two sets.

pub near_none : (P : ℕ → Type 0) (number : ℕ) (n : Near) → ((m : ℕ) → P m → ⊥) → n.below ≡ None → n.above ≡ None → IsNear P number n
near_none P number n not e f = record { below = rw e (λ k h. not k h.0); above = rw f (λ k h. not k h.0) }

greatest : (P Q : ℕ → Type 0) (x y : ℕ) (b : Bool) → nat_lt x y ≡ b → IsLast P (Some x) → IsLast Q (Some y) → IsLast (λ m. P m ⊎ Q m) (Some (if b then y else x))
greatest P Q x y true e h k = (inr k.0, λ m z. elim z [ inl p ↦ (let l = h.1 m p in let u = ltb-true x y e in omega (arith, l, u)) | inr q ↦ k.1 m q ])
greatest P Q x y false e h k = (inl h.0, λ m z. elim z [ inl p ↦ h.1 m p | inr q ↦ (let l = k.1 m q in let u = ltb-false x y e in omega (arith, l, u)) ])

last_or : (P Q : ℕ → Type 0) (a b : Option ℕ) → IsLast P a → IsLast Q b → IsLast (λ m. P m ⊎ Q m) (greater a b)
last_or P Q None None h k = λ m x. elim x [ inl p ↦ h m p | inr q ↦ k m q ]
last_or P Q None (Some y) h k = (inr k.0, λ m x. elim x [ inl p ↦ absurd (h m p) | inr q ↦ k.1 m q ])
last_or P Q (Some x) None h k = (inl h.0, λ m z. elim z [ inl p ↦ h.1 m p | inr q ↦ absurd (k m q) ])
last_or P Q (Some x) (Some y) h k = greatest P Q x y (nat_lt x y) refl h k

least : (P Q : ℕ → Type 0) (x y : ℕ) (b : Bool) → nat_lt y x ≡ b → IsFirst P (Some x) → IsFirst Q (Some y) → IsFirst (λ m. P m ⊎ Q m) (Some (if b then y else x))
least P Q x y true e h k = (inr k.0, λ m z. elim z [ inl p ↦ (let l = h.1 m p in let u = ltb-true y x e in omega (arith, l, u)) | inr q ↦ k.1 m q ])
least P Q x y false e h k = (inl h.0, λ m z. elim z [ inl p ↦ h.1 m p | inr q ↦ (let l = k.1 m q in let u = ltb-false y x e in omega (arith, l, u)) ])

first_or : (P Q : ℕ → Type 0) (a b : Option ℕ) → IsFirst P a → IsFirst Q b → IsFirst (λ m. P m ⊎ Q m) (less a b)
first_or P Q None None h k = λ m x. elim x [ inl p ↦ h m p | inr q ↦ k m q ]
first_or P Q None (Some y) h k = (inr k.0, λ m x. elim x [ inl p ↦ absurd (h m p) | inr q ↦ k.1 m q ])
first_or P Q (Some x) None h k = (inl h.0, λ m z. elim z [ inl p ↦ h.1 m p | inr q ↦ absurd (k m q) ])
first_or P Q (Some x) (Some y) h k = least P Q x y (nat_lt y x) refl h k

bounded_or : (P Q B : ℕ → Type 0) → SameSet (λ m. (P m × B m) ⊎ (Q m × B m)) (λ m. (P m ⊎ Q m) × B m)
bounded_or P Q B m = (
  λ x. elim x [ inl p ↦ (inl p.0, p.1) | inr q ↦ (inr q.0, q.1) ],
  λ h. elim h.0 [ inl p ↦ inl (p, h.1) | inr q ↦ inr (q, h.1) ],
)

pub near_or : (P Q : ℕ → Type 0) (number : ℕ) (a b n : Near) → IsNear P number a → IsNear Q number b → n.below ≡ greater a.below b.below → n.above ≡ less a.above b.above → IsNear (λ m. P m ⊎ Q m) number n
near_or P Q number a b n h k e f =
    let B : ℕ → Type 0 = λ m. m ≤ number in let A : ℕ → Type 0 = λ m. number ≤ m in
    record {
      below = rw e (last_same (λ m. (P m × B m) ⊎ (Q m × B m)) (λ m. (P m ⊎ Q m) × B m) (greater a.below b.below) (bounded_or P Q B) (last_or (λ m. P m × B m) (λ m. Q m × B m) a.below b.below h.below k.below));
      above = rw f (first_same (λ m. (P m × A m) ⊎ (Q m × A m)) (λ m. (P m ⊎ Q m) × A m) (less a.above b.above) (bounded_or P Q A) (first_or (λ m. P m × A m) (λ m. Q m × A m) a.above b.above h.above k.above));
    }

-- ---- Numbers that are known up to a bound.

last_to : (P Q : ℕ → Type 0) (number most : ℕ) (r : Option ℕ) → ((m : ℕ) → m ≤ most → P m ↔ Q m) → number ≤ most → IsLast (λ m. P m × (m ≤ number)) r → IsLast (λ m. Q m × (m ≤ number)) r
last_to P Q number most None same le h = λ k q. (let u = q.1 in h k ((same k (omega (arith, u, le))).1 q.0, u))
last_to P Q number most (Some m) same le h = (
  (let u = h.0.1 in ((same m (omega (arith, u, le))).0 h.0.0, u)),
  λ k q. (let u = q.1 in h.1 k ((same k (omega (arith, u, le))).1 q.0, u)),
)

first_up : (P Q : ℕ → Type 0) (number most m : ℕ) (b : Bool) → nat_lt most m ≡ b → ((k : ℕ) → k ≤ most → P k ↔ Q k) → ((k : ℕ) → Q k → k ≤ most) → IsFirst (λ k. P k × (number ≤ k)) (Some m) → IsFirst (λ k. Q k × (number ≤ k)) (if b then None else Some m)
first_up P Q number most m true e same small h = λ k q. (let s = small k q.0 in let l = h.1 k ((same k s).1 q.0, q.1) in let u = ltb-true most m e in omega (arith, s, l, u))
first_up P Q number most m false e same small h = (
  (let u = ltb-false most m e in ((same m u).0 h.0.0, h.0.1)),
  λ k q. h.1 k ((same k (small k q.0)).1 q.0, q.1),
)

first_to : (P Q : ℕ → Type 0) (number most : ℕ) (r : Option ℕ) → ((m : ℕ) → m ≤ most → P m ↔ Q m) → ((m : ℕ) → Q m → m ≤ most) → IsFirst (λ m. P m × (number ≤ m)) r → IsFirst (λ m. Q m × (number ≤ m)) (up_to most r)
first_to P Q number most None same small h = λ k q. h k ((same k (small k q.0)).1 q.0, q.1)
first_to P Q number most (Some m) same small h = first_up P Q number most m (nat_lt most m) refl same small h

pub near_to : (P Q : ℕ → Type 0) (number most : ℕ) (n r : Near) → ((m : ℕ) → m ≤ most → P m ↔ Q m) → ((m : ℕ) → Q m → m ≤ most) → number ≤ most → IsNear P number n → r.below ≡ n.below → r.above ≡ up_to most n.above → IsNear Q number r
near_to P Q number most n r same small le h e f = record {
  below = rw e (last_to P Q number most n.below same le h.below);
  above = rw f (first_to P Q number most n.above same small h.above);
}

-- ---- Numbers in equal steps.

pub last_under : (s : Progression) (n : ℕ) → n < s.first → IsLast (λ m. InProgression s m × (m ≤ n)) None
last_under s n h = λ k q. (let l = in_first s k q.0 in let u = q.1 in omega (arith, h, l, u))

pub last_one : (s : Progression) (n : ℕ) → s.first ≤ n → s.step ≡ 0 → IsLast (λ m. InProgression s m × (m ≤ n)) (Some s.first)
unfolding InProgression
last_one s n h z = (
  (first_in s, h),
  λ k ((i, l, e), u). (let still : i * s.step ≡ 0 = rw z (mul-zero i) in omega (arith, e, still)),
)

pub last_steps : (s : Progression) (n i : ℕ) → s.first ≤ n → (s.step ≡ 0 → ⊥) → i ≡ min ((n - s.first) / s.step) s.count → IsLast (λ m. InProgression s m × (m ≤ n)) (Some (s.first + i * s.step))
unfolding InProgression
last_steps s n i h pos is =
    let over = n - s.first in
    let fits : i * s.step ≤ over = (le-div_iff_mul-le {k = s.step} {x = i} {y = over} (omega (arith, pos))).0 (omega (arith, is)) in
    let few : i ≤ s.count = omega (arith, is) in (
      ((i, few, refl), (let t : s.first + i * s.step ≤ n = omega (arith, h, fits) in t)),
      λ k ((c, l, e), u).
          let under : c * s.step ≤ over = omega (arith, e, u) in
          let below : c ≤ over / s.step = (le-div_iff_mul-le {k = s.step} {x = c} {y = over} (omega (arith, pos))).1 under in
          let more : c * s.step ≤ i * s.step = mul-le-mul_right s.step (omega (arith, below, l, is)) in
          omega (arith, e, more),
    )

pub first_over : (s : Progression) (n : ℕ) → n ≤ s.first → IsFirst (λ m. InProgression s m × (n ≤ m)) (Some s.first)
first_over s n h = ((first_in s, h), λ k q. in_first s k q.0)

pub first_one : (s : Progression) (n : ℕ) → s.first < n → s.step ≡ 0 → IsFirst (λ m. InProgression s m × (n ≤ m)) None
unfolding InProgression
first_one s n h z = λ k ((i, l, e), u). (let still : i * s.step ≡ 0 = rw z (mul-zero i) in omega (arith, h, e, u, still))

pub first_past : (s : Progression) (n i : ℕ) → s.first < n → (s.step ≡ 0 → ⊥) → i ≡ (n - s.first - 1) / s.step + 1 → s.count < i → IsFirst (λ m. InProgression s m × (n ≤ m)) None
unfolding InProgression
first_past s n i h pos is past = λ k ((c, l, e), u).
    let under : c * s.step ≤ n - s.first - 1 = (le-div_iff_mul-le {k = s.step} {x = c} {y = n - s.first - 1} (omega (arith, pos))).0 (omega (arith, is, past, l)) in
    omega (arith, h, e, u, under)

pub first_steps : (s : Progression) (n i m : ℕ) → s.first < n → (s.step ≡ 0 → ⊥) → i ≡ (n - s.first - 1) / s.step + 1 → i ≤ s.count → s.first + i * s.step ≡ m → IsFirst (λ k. InProgression s k × (n ≤ k)) (Some m)
unfolding InProgression
first_steps s n i m h pos is few at =
    let over = n - s.first - 1 in
    let d : 0 < s.step = omega (arith, pos) in
    let reach : over < i * s.step =
    elim (cases_lt over (i * s.step)) [
      | inl less ↦ less
      | inr more ↦ absurd (let t = (le-div_iff_mul-le {k = s.step} {x = i} {y = over} d).1 more in omega (arith, t, is))
    ] in (
      ((i, few, at), (let t : n ≤ m = omega (arith, reach, at, h) in t)),
      λ k ((c, l, e), u).
          let more : i ≤ c =
          elim (cases_lt c i) [
            | inl less ↦ absurd (let t = (le-div_iff_mul-le {k = s.step} {x = c} {y = over} d).0 (omega (arith, less, is)) in omega (arith, t, e, u, h))
            | inr other ↦ other
          ] in
          let t : i * s.step ≤ c * s.step = mul-le-mul_right s.step more in
          omega (arith, t, e, at),
    )

-- a group as often as it may be there, below the next number of times
pub record TimesTo (g : Progression) (first next m : ℕ) : Type 0 where
  pub times : ℕ
  pub above : first ≤ times
  pub below : times < next
  pub is : SumOf times (InProgression g) m

pub times_to_none : (g : Progression) (S : ℕ → Type 0) (first m : ℕ) → Plus S (TimesTo g first first) m → ⊥
times_to_none g S first m (j, k, s, h, e) = omega (arith, h.above, h.below)

pub times_to_more : (g all sum s : Progression) (first n m : ℕ) → first ≤ n → IsProgression all (SumOf n (InProgression g)) → IsProgression s (Plus (InProgression sum) (InProgression all)) → (Plus (InProgression sum) (TimesTo g first n) m ⊎ InProgression s m) ↔ Plus (InProgression sum) (TimesTo g first (n + 1)) m
times_to_more g all sum s first n m l is hs = (
  λ x. elim x [
    | inl (j, k, p, h, e) ↦ (j, k, p, record { times = h.times; above = h.above; below = omega (arith, h.below); is = h.is }, e)
    | inr y ↦ (let (j, k, p, q, e) = (hs m).0 y in (j, k, p, record { times = n; above = l; below = omega arith; is = (is k).0 q }, e))
  ],
  λ (j, k, p, h, e). elim (cases_lt h.times n) [
    | inl under ↦ inl (j, k, p, record { times = h.times; above = h.above; below = under; is = h.is }, e)
    | inr over ↦ inr (let at : h.times ≡ n = omega (arith, h.below, over) in (hs m).1 (j, k, p, (is k).1 (subst (λ i. SumOf i (InProgression g) k) at h.is), e))
  ],
)

pub times_to_all : (g : Progression) (S : ℕ → Type 0) (first last next : ℕ) → ((n : ℕ) → first ≤ n → n < next → n ≤ last) → last < next → SameSet (Plus S (TimesTo g first next)) (Plus S (TimesWithin g first last))
times_to_all g S first last next within all m = (
  λ (j, k, p, h, f). (j, k, p, (h.times, h.above, within h.times h.above h.below, h.is), f),
  λ (j, k, p, (n, l, u, x), f). (j, k, p, record { times = n; above = l; below = omega (arith, u, all); is = x }, f),
)

-- ---- Numbers of a set, one by one.

pub set_above : (s : LengthSet) (number n : ℕ) → ((k : ℕ) → In s k → number ≤ k → n ≤ k) → (In s n → ⊥) → (k : ℕ) → In s k → number ≤ k → n + 1 ≤ k
set_above s number n all not k i le =
    elim (cases_lt n k) [
      | inl less ↦ (let t : n + 1 ≤ k = omega (arith, less) in t)
      | inr more ↦ absurd (let same : k ≡ n = omega (arith, more, all k i le) in not (subst (λ z. In s z) same i))
    ]

pub set_below : (s : LengthSet) (number n end : ℕ) → end ≡ n + 1 → ((k : ℕ) → In s k → k ≤ number → k < end) → (In s n → ⊥) → (k : ℕ) → In s k → k ≤ number → k < n
set_below s number n end e all not k i le =
    elim (cases_lt k n) [
      | inl less ↦ less
      | inr more ↦ absurd (let same : k ≡ n = omega (arith, more, all k i le, e) in not (subst (λ z. In s z) same i))
    ]
