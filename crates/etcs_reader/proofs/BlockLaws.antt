-- Numbers by their first bits, and which of them continue.
use Rattle.std.proofs.Common.{◌≡◌, ℕ, ◌+◌, ◌-◌, ◌*◌, ◌/◌, ◌%◌, ◌^◌, ◌<◌, ◌≤◌, refl, sym, ap, subst, ◌∙◌, arith, inl, inr}
use Rattle.std.specs.Prelude.{◌⊎◌}
use Rattle.std.proofs.lemmas.Bool.{cases_lt}
use Rattle.std.proofs.lemmas.Nat.{pow_pos, pow-add, shr-shr, shr_split, le-div}
use Rattle.etcs_vars.specs.declared.var.Var.{Var}
use Rattle.etcs_vars.specs.Reading.{Reading}
use Rattle.etcs_vars.proofs.Prefixes.{quotient_below}
use Rattle.etcs_reader.specs.Rests.{Starts}
use Rattle.etcs_reader.specs.Blocks.{Continues}

-- a quotient grows with its number
pub grows : (k a b : ℕ) → a ≤ b → a / 2 ^ k ≤ b / 2 ^ k
grows k a b le = le-div (a / 2 ^ k) b (2 ^ k) (pow_pos k) (let s = shr_split a k in omega (arith, le, s))

pub lesser : (k a b : ℕ) → a / 2 ^ k < b / 2 ^ k → a < b
lesser k a b lt =
    elim (cases_lt a b) [
      | inl less ↦ less
      | inr other ↦ absurd (let m = grows k b a other in omega (arith, m, lt))
    ]

-- with a bit less
pub halved : (n k : ℕ) → n / 2 ^ k / 2 ≡ n / 2 ^ (k + 1)
halved n k = shr-shr n k 1

-- the bit after some is zero or one
pub either_half : (n k b : ℕ) → n / 2 ^ (k + 1) ≡ b → (n / 2 ^ k ≡ b * 2) ⊎ (n / 2 ^ k ≡ b * 2 + 1)
either_half n k b e =
    let h : n / 2 ^ k / 2 ≡ b = halved n k ∙ e in
    elim (cases_lt (n / 2 ^ k) (b * 2 + 1)) [
      | inl less ↦ inl (omega (arith, less, h))
      | inr more ↦ inr (omega (arith, more, h))
    ]

-- one that continues begins with its own first bits
pub begun : (L : Reading → Type 0) (x : Var) (k n : ℕ) → Continues L x n → Starts L x k (n / 2 ^ k)
begun L x k n (r, l) = (n, r, l, refl)

-- where it isn't zero it is one
pub other_half : (L : Reading → Type 0) (x : Var) (k b : ℕ) → Starts L x (k + 1) b → (Starts L x k (b * 2) → ⊥) → Starts L x k (b * 2 + 1)
other_half L x k b (n, r, l, e) none =
    elim (either_half n k b e) [
      | inl zero ↦ absurd (none (n, r, l, zero))
      | inr one ↦ (n, r, l, one)
    ]

-- and where it isn't one it is zero
pub first_half : (L : Reading → Type 0) (x : Var) (k b : ℕ) → Starts L x (k + 1) b → (Starts L x k (b * 2 + 1) → ⊥) → Starts L x k (b * 2)
first_half L x k b (n, r, l, e) none =
    elim (either_half n k b e) [
      | inl zero ↦ (n, r, l, zero)
      | inr one ↦ absurd (none (n, r, l, one))
    ]

-- ---- One bit more.

two_more : (k : ℕ) → 2 ^ (k + 1) ≡ 2 ^ k * 2
two_more k = pow-add 2 k 1

pub fits_more : (w more k n : ℕ) → k + 1 ≡ more → more ≤ w → n < 2 ^ (w - more) → n * 2 + 1 < 2 ^ (w - k)
fits_more w more k n next le h =
    let e : w - k ≡ w - more + 1 = omega (arith, next, le) in
    let p : 2 ^ (w - k) ≡ 2 ^ (w - more) * 2 = ap (λ (j : ℕ). 2 ^ j) e ∙ two_more (w - more) in
    omega (arith, h, p)

pub front_more : (rest more k n b m : ℕ) → k + 1 ≡ more → more ≤ rest → n / 2 ^ (rest - more) ≡ b → m / 2 ≡ n → m / 2 ^ (rest - k) ≡ b
front_more rest more k n b m next le e half =
    let s : rest - k ≡ 1 + (rest - more) = omega (arith, next, le) in
    let t : m / 2 ^ 1 / 2 ^ (rest - more) ≡ m / 2 ^ (1 + (rest - more)) = shr-shr m 1 (rest - more) in
    ap (λ (j : ℕ). m / 2 ^ j) s ∙ sym t ∙ ap (λ (j : ℕ). j / 2 ^ (rest - more)) half ∙ e

pub least_zero : (more k n b : ℕ) → k + 1 ≡ more → b ≤ n / 2 ^ more → b * 2 ≤ n / 2 ^ k
least_zero more k n b next le =
    let h = halved n k in
    let le' : b ≤ n / 2 ^ (k + 1) = subst (λ (j : ℕ). b ≤ n / 2 ^ j) (sym next) le in
    omega (arith, h, le')

pub least_one : (L : Reading → Type 0) (x : Var) (more k n b : ℕ) → k + 1 ≡ more → Continues L x n → (Starts L x k (b * 2) → ⊥) → b ≤ n / 2 ^ more → b * 2 + 1 ≤ n / 2 ^ k
least_one L x more k n b next c none le =
    let z = least_zero more k n b next le in
    elim (cases_lt (b * 2) (n / 2 ^ k)) [
      | inl less ↦ omega (arith, less)
      | inr other ↦ absurd (let e : n / 2 ^ k ≡ b * 2 = omega (arith, z, other) in none (subst (λ (j : ℕ). Starts L x k j) e (begun L x k n c)))
    ]

-- ---- Blocks of numbers that begin alike.

pub even_fits : (k b : ℕ) → 0 < k → b < 2 ^ k → b % 2 ≡ 0 → b + 1 < 2 ^ k
even_fits k b pos h even =
    let e : k ≡ k - 1 + 1 = omega (arith, pos) in
    let p : 2 ^ k ≡ 2 ^ (k - 1) * 2 = ap (λ (j : ℕ). 2 ^ j) e ∙ two_more (k - 1) in
    omega (arith, h, p, even)

pub block_fits : (w rest more bits : ℕ) → rest ≤ more → more ≤ w → bits < 2 ^ (w - rest) → bits / 2 ^ (more - rest) < 2 ^ (w - more)
block_fits w rest more bits from le h =
    let e : w - rest ≡ w - more + (more - rest) = omega (arith, from, le) in
    quotient_below bits (w - more) (more - rest) (subst (λ (j : ℕ). bits < 2 ^ j) e h)

-- of a number with its first bits, the bits before
pub before_is : (rest more r : ℕ) → rest ≤ more → r / 2 ^ rest / 2 ^ (more - rest) ≡ r / 2 ^ more
before_is rest more r from =
    let e : rest + (more - rest) ≡ more = omega (arith, from) in
    shr-shr r rest (more - rest) ∙ ap (λ (j : ℕ). r / 2 ^ j) e

pub beyond_block : (rest more bits r : ℕ) → rest ≤ more → bits / 2 ^ (more - rest) < r / 2 ^ more → bits < r / 2 ^ rest
beyond_block rest more bits r from lt = let e = before_is rest more r from in lesser (more - rest) bits (r / 2 ^ rest) (omega (arith, lt, e))

pub not_before : (rest more bits n : ℕ) → rest ≤ more → bits < n / 2 ^ rest → bits / 2 ^ (more - rest) ≤ n / 2 ^ more
not_before rest more bits n from lt =
    let e = before_is rest more n from in
    let g = grows (more - rest) bits (n / 2 ^ rest) (omega (arith, lt)) in
    omega (arith, g, e)

pub block_more : (rest more bits : ℕ) → rest ≤ more → bits / 2 ^ (more - rest) / 2 ≡ bits / 2 ^ (more + 1 - rest)
block_more rest more bits from =
    let e : more - rest + 1 ≡ more + 1 - rest = omega (arith, from) in
    shr-shr bits (more - rest) 1 ∙ ap (λ (j : ℕ). bits / 2 ^ j) e

pub greatest_one : (more k n b : ℕ) → k + 1 ≡ more → n / 2 ^ more ≤ b → n / 2 ^ k ≤ b * 2 + 1
greatest_one more k n b next le =
    let h = halved n k in
    let le' : n / 2 ^ (k + 1) ≤ b = subst (λ (j : ℕ). n / 2 ^ j ≤ b) (sym next) le in
    omega (arith, h, le')

pub greatest_zero : (L : Reading → Type 0) (x : Var) (more k n b : ℕ) → k + 1 ≡ more → Continues L x n → (Starts L x k (b * 2 + 1) → ⊥) → n / 2 ^ more ≤ b → n / 2 ^ k ≤ b * 2
greatest_zero L x more k n b next c none le =
    let z = greatest_one more k n b next le in
    elim (cases_lt (n / 2 ^ k) (b * 2 + 1)) [
      | inl less ↦ omega (arith, less)
      | inr other ↦ absurd (let e : n / 2 ^ k ≡ b * 2 + 1 = omega (arith, z, other) in none (subst (λ (j : ℕ). Starts L x k j) e (begun L x k n c)))
    ]

pub before_block : (rest more bits r : ℕ) → rest ≤ more → r / 2 ^ more < bits / 2 ^ (more - rest) → r / 2 ^ rest < bits
before_block rest more bits r from lt = let e = before_is rest more r from in lesser (more - rest) (r / 2 ^ rest) bits (omega (arith, lt, e))

pub not_beyond : (rest more bits n : ℕ) → rest ≤ more → n / 2 ^ rest < bits → n / 2 ^ more ≤ bits / 2 ^ (more - rest)
not_beyond rest more bits n from lt =
    let e = before_is rest more n from in
    let g = grows (more - rest) (n / 2 ^ rest) bits (omega (arith, lt)) in
    omega (arith, g, e)
