-- Numbers in equal steps: which they hold, and their sums.
use Rattle.std.proofs.Common.{◌≡◌, ℕ, zero, suc, ◌+◌, ◌-◌, ◌*◌, ◌/◌, ◌%◌, ◌<◌, ◌≤◌, Some, None, Option, false, refl, sym, ap, ◌∙◌, arith, inl, inr, min}
use Rattle.std.specs.Prelude.{◌↔◌, ◌⊎◌, ◌==◌, IsTrue, IfSome, nat_le}
use Rattle.std.specs.Int.{abs_diff}
use Rattle.std.proofs.lemmas.Bool.{cases_lt}
use Rattle.std.proofs.lemmas.Bool.Decides.{nat_tests}
use Rattle.std.proofs.Math.Nat.{add-mul, mul-suc, mul-zero, zero-mul, mul-div_left, mul-mod_left, div-add-mod, mul_comm, le-div_iff_mul-le, mul-le-mul_right}
use Rattle.etcs_rows.specs.declared.progression.Progression.{Progression}
use Rattle.etcs_rows.specs.Progressions.{InProgression, IsProgression, AtMost}
use Rattle.etcs_rows.specs.Sums.{Plus, SumOf}
use Rattle.etcs_rows.proofs.LengthLemmas.{set_along, set_self, Plus-same}

no_step : (i d : ℕ) → i ≤ 0 → i * d ≡ 0
no_step i d h = let e : i ≡ 0 = omega arith in rw e (zero-mul d)

one_step : (i d : ℕ) → i ≡ 1 → i * d ≡ d
one_step i d e = rw e (omega arith)

pub in_first : (s : Progression) (m : ℕ) → InProgression s m → s.first ≤ m
unfolding InProgression
in_first s m (i, l, e) = omega (arith, e)

pub first_in : (s : Progression) → InProgression s s.first
unfolding InProgression
first_in s = (0, (let t : 0 ≤ s.count = omega arith in t), (let z = zero-mul s.step in let t : s.first + 0 * s.step ≡ s.first = omega (arith, z) in t))

-- ---- One number.

pub one_number : (s : Progression) → s.count ≡ 0 → IsProgression s (λ m. m ≡ s.first)
unfolding InProgression
one_number s z m = (
  λ (i, l, e). (let t = no_step i s.step (omega (arith, l, z)) in omega (arith, e, t)),
  λ e. (0, (let t : 0 ≤ s.count = omega arith in t), (let t = zero-mul s.step in let u : s.first + 0 * s.step ≡ m = omega (arith, e, t) in u)),
)

-- ---- The sums of a number of each.

pub plus_one : (a b s : Progression) → b.count ≡ 0 → s.first ≡ a.first + b.first → s.step ≡ a.step → s.count ≡ a.count → IsProgression s (Plus (InProgression a) (InProgression b))
unfolding InProgression
plus_one a b s z f d c m = (
  λ (i, l, e).
      let e' : s.first + i * a.step ≡ m = rw d at e in
      (a.first + i * a.step, b.first, (i, (let t : i ≤ a.count = omega (arith, l, c) in t), refl), (one_number b z b.first).1 refl, (let t : a.first + i * a.step + b.first ≡ m = omega (arith, e', f) in t)),
  λ (j, k, (i, l, e), y, t).
      let o : k ≡ b.first = (one_number b z k).0 y in
      (i, (let u : i ≤ s.count = omega (arith, l, c) in u), rw d (let u : s.first + i * a.step ≡ m = omega (arith, e, f, o, t) in u)),
)

pub plus_other : (a b s : Progression) → a.count ≡ 0 → s.first ≡ a.first + b.first → s.step ≡ b.step → s.count ≡ b.count → IsProgression s (Plus (InProgression a) (InProgression b))
plus_other a b s z f d c m =
    let x = plus_one b a s z (omega arith) d c m in (
      λ h. (let (j, k, p, q, e) = x.0 h in (k, j, q, p, omega (arith, e))),
      λ (j, k, p, q, e). x.1 (k, j, q, p, (let t : k + j ≡ m = omega (arith, e) in t)),
    )

pub plus_same : (a b s : Progression) → b.step ≡ a.step → s.first ≡ a.first + b.first → s.step ≡ a.step → s.count ≡ a.count + b.count → IsProgression s (Plus (InProgression a) (InProgression b))
unfolding InProgression
plus_same a b s d' f d c m = (
  λ (i, l, e).
      let e' : s.first + i * a.step ≡ m = rw d at e in
      let x = min i a.count in let y = i - x in
      let whole : x + y ≡ i = omega arith in
      let parts : i * a.step ≡ x * a.step + y * a.step = rw whole at (add-mul x y a.step) in (
        a.first + x * a.step,
        b.first + y * a.step,
        (x, (let t : x ≤ a.count = omega arith in t), refl),
        (y, (let t : y ≤ b.count = omega (arith, l, c) in t), rw d' refl),
        (let t : a.first + x * a.step + (b.first + y * a.step) ≡ m = omega (arith, e', f, parts) in t),
      ),
  λ (j, k, (x, lx, ex), (y, ly, ey), t).
      let ey' : b.first + y * a.step ≡ k = rw d' at ey in
      let parts = add-mul x y a.step in
      (x + y, (let u : x + y ≤ s.count = omega (arith, lx, ly, c) in u), rw d (let u : s.first + (x + y) * a.step ≡ m = omega (arith, ex, ey', f, t, parts) in u)),
)

-- ---- The sums of this many of its numbers.

pub times_steps : (k : ℕ) (a s : Progression) → s.first ≡ a.first * k → s.step ≡ a.step → s.count ≡ a.count * k → IsProgression s (SumOf k (InProgression a))
times_steps zero a s f d c =
    let none : s.count ≡ 0 = c ∙ mul-zero a.count in
    let low : s.first ≡ 0 = f ∙ mul-zero a.first in
    let one = one_number s none in
    λ m. (λ h. (one m).0 h ∙ low, λ e. (one m).1 (e ∙ sym low))
times_steps (suc k) a s f d c =
    let b : Progression = record { first = a.first * k; step = a.step; count = a.count * k } in
    let below = times_steps k a b refl refl refl in
    let ff : s.first ≡ a.first + a.first * k = (let t = mul-suc a.first k in omega (arith, f, t)) in
    let cc' : s.count ≡ a.count + a.count * k = (let t = mul-suc a.count k in omega (arith, c, t)) in
    set_along (InProgression s) (Plus (InProgression a) (InProgression b)) (SumOf (suc k) (InProgression a)) (plus_same a b s refl ff d cc')
    (Plus-same (InProgression a) (InProgression b) (InProgression a) (SumOf k (InProgression a)) (set_self (InProgression a)) below)

-- ---- One more number.

pub with_next : (a s : Progression) (n : ℕ) → a.first + (a.count + 1) * a.step ≡ n → s.first ≡ a.first → s.step ≡ a.step → s.count ≡ a.count + 1 → (m : ℕ) → InProgression s m ↔ (InProgression a m ⊎ (m ≡ n))
unfolding InProgression
with_next a s n next f d c m = rw (f, d, c) (
  λ (i, l, e).
      elim (cases_lt i (a.count + 1)) [
        | inl under ↦ inl (i, (let t : i ≤ a.count = omega (arith, under) in t), e)
        | inr over ↦ inr (let same : i ≡ a.count + 1 = omega (arith, l, over) in let t : a.first + (a.count + 1) * a.step ≡ m = rw same at e in omega (arith, t, next))
      ],
  λ x. elim x [
    | inl (i, l, e) ↦ (i, (let t : i ≤ a.count + 1 = omega (arith, l) in t), e)
    | inr e ↦ (a.count + 1, (let t : a.count + 1 ≤ a.count + 1 = omega arith in t), next ∙ sym e)
  ],
)

pub with_second : (a s : Progression) (n : ℕ) → a.count ≡ 0 → s.first ≡ min a.first n → s.step ≡ abs_diff a.first n → s.count ≡ 1 → (m : ℕ) → InProgression s m ↔ (InProgression a m ⊎ (m ≡ n))
unfolding InProgression
with_second a s n z f d c m =
    let one = one_number a z m in
    let low : 0 * s.step ≡ 0 = zero-mul s.step in
    let top : 1 * s.step ≡ s.step = one_step 1 s.step refl in
    let zeroth : (k : ℕ) → k ≡ s.first → InProgression s k = λ k e. (0, (let t : 0 ≤ s.count = omega arith in t), (let t : s.first + 0 * s.step ≡ k = omega (arith, low, e) in t)) in
    let first : (k : ℕ) → k ≡ s.first + s.step → InProgression s k = λ k e. (1, (let t : 1 ≤ s.count = omega arith in t), (let t : s.first + 1 * s.step ≡ k = omega (arith, top, e) in t)) in (
      λ (i, l, e).
          elim (cases_lt i 1) [
            | inl under ↦
                let t = no_step i s.step (omega (arith, under)) in
                elim (cases_lt n a.first) [
                  | inl lt ↦ inr (omega (arith, e, t, f, lt))
                  | inr ge ↦ inl (one.1 (omega (arith, e, t, f, ge)))
                ]
            | inr over ↦
                let t = one_step i s.step (omega (arith, over, l, c)) in
                elim (cases_lt n a.first) [
                  | inl lt ↦ inl (one.1 (omega (arith, e, t, f, d, lt)))
                  | inr ge ↦ inr (omega (arith, e, t, f, d, ge))
                ]
          ],
      λ x. elim x [
        | inl y ↦
            let e = one.0 y in
            elim (cases_lt n a.first) [
              | inl lt ↦ first m (omega (arith, e, f, d, lt))
              | inr ge ↦ zeroth m (omega (arith, e, f, ge))
            ]
        | inr e ↦
            elim (cases_lt n a.first) [
              | inl lt ↦ zeroth m (omega (arith, e, f, lt))
              | inr ge ↦ first m (omega (arith, e, f, d, ge))
            ]
      ],
    )

-- ---- Which numbers there are.

pub is_zero : (x : ℕ) → IsTrue (x == 0) → x ≡ 0
is_zero x h = grind (arith, nat_tests)

zero_is : (x : ℕ) → x ≡ 0 → IsTrue (x == 0)
zero_is x e = rw e refl

is_le : (x y : ℕ) → IsTrue (nat_le x y) → x ≤ y
is_le x y h = grind (arith, nat_tests)

le_is : (x y : ℕ) → x ≤ y → IsTrue (nat_le x y)
le_is x y h = grind (arith, nat_tests)

pub holds_under : (s : Progression) (n : ℕ) → n < s.first → IsTrue false ↔ InProgression s n
holds_under s n h = (λ x. absurd cc, λ x. absurd (let t = in_first s n x in omega (arith, t)))

pub holds_one : (s : Progression) (n : ℕ) → s.first ≤ n → (s.count ≡ 0) ⊎ (s.step ≡ 0) → IsTrue (n - s.first == 0) ↔ InProgression s n
unfolding InProgression
holds_one s n h k =
    let still : (i : ℕ) → i ≤ s.count → i * s.step ≡ 0 = λ i l. elim k [
      | inl z ↦ no_step i s.step (omega (arith, l, z))
      | inr z ↦ rw z (mul-zero i)
    ] in (
      λ x. (0, (let t : 0 ≤ s.count = omega arith in t), (let e = is_zero (n - s.first) x in let z = zero-mul s.step in let t : s.first + 0 * s.step ≡ n = omega (arith, e, z) in t)),
      λ (i, l, e). zero_is (n - s.first) (let z = still i l in let t : n - s.first ≡ 0 = omega (arith, z, e) in t),
    )

pub holds_steps : (s : Progression) (n : ℕ) → s.first ≤ n → (s.step ≡ 0 → ⊥) → (n - s.first) % s.step ≡ 0 → IsTrue (nat_le ((n - s.first) / s.step) s.count) ↔ InProgression s n
unfolding InProgression
holds_steps s n h pos exact =
    let over = n - s.first in
    let q = over / s.step in
    let whole : q * s.step ≡ over = (let t = div-add-mod over s.step in let u = mul_comm s.step q in omega (arith, t, u, exact)) in (
      λ x. (q, is_le q s.count x, (let t : s.first + q * s.step ≡ n = omega (arith, whole) in t)),
      λ (i, l, e). le_is q s.count (let i_is : i * s.step ≡ over = omega (arith, e) in let t : q ≡ i = ap (λ k. k / s.step) (sym i_is) ∙ mul-div_left i (omega (arith, pos)) in omega (arith, t, l)),
    )

pub holds_between : (s : Progression) (n : ℕ) → s.first ≤ n → ((n - s.first) % s.step ≡ 0 → ⊥) → IsTrue ((n - s.first) % s.step == 0) ↔ InProgression s n
unfolding InProgression
holds_between s n h off = (
  λ x. absurd (off (is_zero ((n - s.first) % s.step) x)),
  λ (i, l, e). absurd (off (let i_is : i * s.step ≡ n - s.first = omega (arith, e) in ap (λ k. k % s.step) (sym i_is) ∙ mul-mod_left i s.step)),
)

-- ---- A number, and at most this many more.

pub near_under : (s : Progression) (slack n : ℕ) → n < s.first → IsTrue false ↔ Plus (InProgression s) (AtMost slack) n
near_under s slack n h = (λ x. absurd cc, λ (j, k, a, b, e). absurd (let t = in_first s j a in omega (arith, t, e)))

pub near_one : (s : Progression) (slack n : ℕ) → s.first ≤ n → s.step ≡ 0 → IsTrue (nat_le (n - s.first) slack) ↔ Plus (InProgression s) (AtMost slack) n
unfolding InProgression
near_one s slack n h z = (
  λ x. (s.first, n - s.first, first_in s, is_le (n - s.first) slack x, (let t : s.first + (n - s.first) ≡ n = omega (arith, h) in t)),
  λ (j, k, (i, l, e), b, t). le_is (n - s.first) slack (let few : k ≤ slack = b in let still : i * s.step ≡ 0 = rw z (mul-zero i) in let u : n - s.first ≤ slack = omega (arith, e, few, t, still) in u),
)

-- the last step that doesn't pass a number
last_step : (d over count i : ℕ) → (d ≡ 0 → ⊥) → i ≡ min (over / d) count → i * d ≤ over
last_step d over count i pos e = (le-div_iff_mul-le {k = d} {x = i} {y = over} (omega (arith, pos))).0 (omega (arith, e))

pub near_steps : (s : Progression) (slack n i : ℕ) → s.first ≤ n → (s.step ≡ 0 → ⊥) → i ≡ min ((n - s.first) / s.step) s.count → IsTrue (nat_le (n - s.first - i * s.step) slack) ↔ Plus (InProgression s) (AtMost slack) n
unfolding InProgression
near_steps s slack n i h pos is =
    let over = n - s.first in
    let fits : i * s.step ≤ over = last_step s.step over s.count i pos is in (
      λ x.
          let most : i ≤ s.count = omega (arith, is) in
          (s.first + i * s.step, over - i * s.step, (i, most, refl), is_le (over - i * s.step) slack x, (let t : s.first + i * s.step + (over - i * s.step) ≡ n = omega (arith, h, fits) in t)),
      λ (j, k, (c, l, e), b, t).
          let few : k ≤ slack = b in
          let under : c * s.step ≤ over = omega (arith, e, t) in
          let below : c ≤ over / s.step = (le-div_iff_mul-le {k = s.step} {x = c} {y = over} (omega (arith, pos))).1 under in
          let more : c * s.step ≤ i * s.step = mul-le-mul_right s.step (omega (arith, below, l, is)) in
          le_is (over - i * s.step) slack (let u : over - i * s.step ≤ slack = omega (arith, e, few, t, more) in u),
    )

-- ---- The numbers of both.

pub join_one : (s more : Progression) (r : Option Progression) → more.count ≡ 0 → IfSome r (λ t. (m : ℕ) → InProgression t m ↔ (InProgression s m ⊎ (m ≡ more.first))) → IfSome r (λ t. (m : ℕ) → InProgression t m ↔ (InProgression s m ⊎ InProgression more m))
join_one s more None z h = tt
join_one s more (Some t) z h = λ m.
    let one = one_number more z m in (
      λ x. elim ((h m).0 x) [ inl y ↦ inl y | inr e ↦ inr (one.1 e) ],
      λ x. (h m).1 (elim x [ inl y ↦ inl y | inr y ↦ inr (one.0 y) ]),
    )
