-- Sums of lengths whose parts are added one after another.
use Rattle.std.proofs.Common.{◌≡◌, ℕ, ◌+◌, ◌≤◌, List, [], ◌∷◌, ◌++◌, Option, Some, None, refl, sym, subst, arith, inl, inr}
use Rattle.std.specs.Prelude.{◌↔◌, ◌⊎◌}
use Rattle.etcs_rows.specs.declared.progression.Progression.{Progression}
use Rattle.etcs_rows.specs.declared.total.Times.{Times}
use Rattle.etcs_rows.specs.declared.total.Total.{Total}
use Rattle.etcs_rows.specs.Progressions.{InProgression, IsProgression, TimesWithin, AtMost}
use Rattle.etcs_rows.specs.Sums.{Plus}
use Rattle.etcs_rows.specs.Totals.{InTimes, InTotal, InSums, AreTotal}
use Rattle.etcs_rows.proofs.LengthLemmas.{SameSet, set_along, set_back, set_self, Plus-same}
use Rattle.etcs_rows.proofs.RowSums.{zero-Plus}
use Rattle.etcs_rows.proofs.StepLemmas.{in_first}

pub total_first : (t : Total) (m : ℕ) → InTotal t m → t.steps.first ≤ m
unfolding InTotal
total_first t m (j, k, a, b, e) = let l = in_first t.steps j a in omega (arith, l, e)

-- its parts, by what is known of the group
pub total_parts : (t : Total) (o : Option Times) → t.times ≡ o → SameSet (Plus (InProgression t.steps) (Plus (InTimes o) (AtMost t.slack))) (InTotal t)
unfolding InTotal
total_parts t o e = rw (sym e) (set_self (Plus (InProgression t.steps) (Plus (InTimes t.times) (AtMost t.slack))))

-- the same by other names
named : (t : Total) (s : Progression) (o : Option Times) (slack : ℕ) → t.steps ≡ s → t.times ≡ o → t.slack ≡ slack → SameSet (Plus (InProgression s) (Plus (InTimes o) (AtMost slack))) (InTotal t)
named t s o slack d e f =
    subst (λ (x : ℕ). SameSet (Plus (InProgression s) (Plus (InTimes o) (AtMost x))) (InTotal t)) f
    (subst (λ (x : Progression). SameSet (Plus (InProgression x) (Plus (InTimes o) (AtMost t.slack))) (InTotal t)) d (total_parts t o e))

pub total_free : (t : Total) → t.times ≡ None → SameSet (Plus (InProgression t.steps) (AtMost t.slack)) (InTotal t)
total_free t e =
    let S = InProgression t.steps in let K = AtMost t.slack in let Z : ℕ → Type 0 = λ m. m ≡ 0 in
    set_along (Plus S K) (Plus S (Plus Z K)) (InTotal t) (Plus-same S K S (Plus Z K) (set_self S) (zero-Plus K)) (total_parts t None e)

pub total_new : (t : Total) (s : Progression) (slack : ℕ) → t.steps ≡ s → t.times ≡ None → t.slack ≡ slack → AreTotal t (Plus (InProgression s) (AtMost slack))
total_new t s slack d e f =
    let S = InProgression s in let K = AtMost slack in let Z : ℕ → Type 0 = λ m. m ≡ 0 in
    set_back (Plus S K) (InTotal t) (set_along (Plus S K) (Plus S (Plus Z K)) (InTotal t) (Plus-same S K S (Plus Z K) (set_self S) (zero-Plus K)) (named t s None slack d e f))

-- no slack
pub no_slack : (S : ℕ → Type 0) → SameSet (Plus S (AtMost 0)) S
no_slack S m = (
  λ (j, k, s, l, e). (let none : k ≤ 0 = l in let same : j ≡ m = omega (arith, none, e) in subst S same s),
  λ s. (m, 0, s, (let t : 0 ≤ 0 = omega arith in t), (let t : m + 0 ≡ m = omega arith in t)),
)

-- what there is without slack
pub total_alone : (t : Total) → t.times ≡ None → t.slack ≡ 0 → SameSet (InProgression t.steps) (InTotal t)
total_alone t e f =
    let S = InProgression t.steps in
    let all : SameSet (Plus S (AtMost 0)) (InTotal t) = subst (λ (x : ℕ). SameSet (Plus S (AtMost x)) (InTotal t)) f (total_free t e) in
    set_along S (Plus S (AtMost 0)) (InTotal t) (set_back (Plus S (AtMost 0)) S (no_slack S)) all

pub total_group : (t : Total) (g : Times) → t.times ≡ Some g → t.slack ≡ 0 → SameSet (Plus (InProgression t.steps) (TimesWithin g.group g.first g.last)) (InTotal t)
total_group t g e f =
    let S = InProgression t.steps in let G = TimesWithin g.group g.first g.last in
    let all : SameSet (Plus S (Plus G (AtMost 0))) (InTotal t) = subst (λ (x : ℕ). SameSet (Plus S (Plus G (AtMost x))) (InTotal t)) f (total_parts t (Some g) e) in
    set_along (Plus S G) (Plus S (Plus G (AtMost 0))) (InTotal t) (Plus-same S G S (Plus G (AtMost 0)) (set_self S) (set_back (Plus G (AtMost 0)) G (no_slack G))) all

-- ---- One more part.

last_first : (A B C : ℕ → Type 0) (m : ℕ) → Plus (Plus A B) C m → Plus (Plus A C) B m
last_first A B C m (x, c, (a, b, pa, pb, e), pc, f) = (a + c, b, (a, c, pa, pc, refl), pb, (let t : a + c + b ≡ m = omega (arith, e, f) in t))

turned : (A B C : ℕ → Type 0) (m : ℕ) → Plus (Plus A B) C m → Plus (Plus C B) A m
turned A B C m (x, c, (a, b, pa, pb, e), pc, f) = (c + b, a, (c, b, pc, pb, refl), pa, (let t : c + b + a ≡ m = omega (arith, e, f) in t))

between : (S K T : ℕ → Type 0) → SameSet (Plus S (Plus T K)) (Plus (Plus S K) T)
between S K T m = (
  λ (j, x, s, (k, l, h, b, e), f). (j + l, k, (j, l, s, b, refl), h, (let t : j + l + k ≡ m = omega (arith, e, f) in t)),
  λ (y, k, (j, l, s, b, e), h, f). (j, k + l, s, (k, l, h, b, refl), (let t : j + (k + l) ≡ m = omega (arith, e, f) in t)),
)

pub total_plus : (t u : Total) (more : Progression) → u.times ≡ t.times → u.slack ≡ t.slack → IsProgression u.steps (Plus (InProgression t.steps) (InProgression more)) → AreTotal u (Plus (InTotal t) (InProgression more))
total_plus t u more e f h =
    let S = InProgression t.steps in let U = InProgression u.steps in let M = InProgression more in let R = Plus (InTimes t.times) (AtMost t.slack) in
    let all : SameSet (Plus U R) (InTotal u) = named u u.steps t.times t.slack refl e f in
    let own : SameSet (Plus S R) (InTotal t) = total_parts t t.times refl in
    set_along (InTotal u) (Plus U R) (Plus (InTotal t) M) (set_back (Plus U R) (InTotal u) all)
    (set_along (Plus U R) (Plus (Plus S M) R) (Plus (InTotal t) M) (Plus-same U R (Plus S M) R h (set_self R))
    (set_along (Plus (Plus S M) R) (Plus (Plus S R) M) (Plus (InTotal t) M) (λ m. (last_first S M R m, last_first S R M m)) (Plus-same (Plus S R) M (InTotal t) M own (set_self M))))

pub total_steps : (t u : Total) (s : Progression) → u.steps ≡ s → u.times ≡ t.times → u.slack ≡ t.slack → SameSet (Plus (InTotal u) (InProgression t.steps)) (Plus (InTotal t) (InProgression s))
total_steps t u s d e f =
    let S = InProgression t.steps in let N = InProgression s in let R = Plus (InTimes t.times) (AtMost t.slack) in
    let all : SameSet (Plus N R) (InTotal u) = named u s t.times t.slack d e f in
    let own : SameSet (Plus S R) (InTotal t) = total_parts t t.times refl in
    set_along (Plus (InTotal u) S) (Plus (Plus N R) S) (Plus (InTotal t) N) (Plus-same (InTotal u) S (Plus N R) S (set_back (Plus N R) (InTotal u) all) (set_self S))
    (set_along (Plus (Plus N R) S) (Plus (Plus S R) N) (Plus (InTotal t) N) (λ m. (turned N R S m, turned S R N m)) (Plus-same (Plus S R) N (InTotal t) N own (set_self N)))

pub total_with : (t u : Total) (group : Progression) (first last : ℕ) → t.times ≡ None → u.steps ≡ t.steps → u.times ≡ Some (record { group = group; first = first; last = last }) → u.slack ≡ t.slack → AreTotal u (Plus (InTotal t) (TimesWithin group first last))
total_with t u group first last none d e f =
    let S = InProgression t.steps in let K = AtMost t.slack in let T = TimesWithin group first last in
    let all : SameSet (Plus S (Plus T K)) (InTotal u) = named u t.steps (Some (record { group = group; first = first; last = last })) t.slack d e f in
    set_along (InTotal u) (Plus S (Plus T K)) (Plus (InTotal t) T) (set_back (Plus S (Plus T K)) (InTotal u) all)
    (set_along (Plus S (Plus T K)) (Plus (Plus S K) T) (Plus (InTotal t) T) (between S K T) (Plus-same (Plus S K) T (InTotal t) T (total_free t none) (set_self T)))

-- ---- Several totals.

pub sums_more : (ts us : List Total) (t : Total) (m : ℕ) → us ≡ ts ++ t ∷ [] → InSums us m ↔ (InSums ts m ⊎ InTotal t m)
sums_more [] us t m e = rw e (
  λ x. elim x [ inl a ↦ inr a | inr b ↦ inl b ],
  λ x. elim x [ inl a ↦ inr a | inr b ↦ inl b ],
)
sums_more (s ∷ ts) us t m e =
    let more = sums_more ts (ts ++ t ∷ []) t m refl in
    rw e (
      λ x. elim x [ inl a ↦ inl (inl a) | inr b ↦ elim (more.0 b) [ inl c ↦ inl (inr c) | inr d ↦ inr d ] ],
      λ x. elim x [ inl a ↦ elim a [ inl c ↦ inl c | inr d ↦ inr (more.1 (inl d)) ] | inr b ↦ inr (more.1 (inr b)) ],
    )
