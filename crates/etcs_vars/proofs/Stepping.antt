-- Numbers with a bit more or several, and tests of their first bits.
use Rattle.std.proofs.Common.{◌≡◌, ℕ, ◌+◌, ◌-◌, ◌*◌, ◌/◌, ◌^◌, ◌<◌, ◌≤◌, Bool, true, false, List, [], ◌∷◌, ◌++◌, refl, sym, ap, ◌∙◌, arith}
use Rattle.std.specs.Prelude.{IsTrue}
use Rattle.std.proofs.lemmas.Nat.{div-mul-add, mod-mul-add}
use Rattle.etcs_bits.specs.Bits.{num, bit}
use Rattle.etcs_bits.proofs.Numbers.{length-num, num-add, value_same, value-num_low, value-num}
use Rattle.etcs_bits.proofs.Positions.{bit-le}
use Rattle.etcs_vars.specs.declared.var.Var.{Var}
use Rattle.etcs_vars.specs.Vars.{width, ranges, admits, inside, begins}
use Rattle.etcs_vars.specs.Reading.{Reading}
use Rattle.etcs_vars.proofs.Prefixes.{ordered, begins_some, begins_from, below_quotient, ranges_ordered, admits_from, admits_parts}
pub use Rattle.etcs_vars.proofs.Prefixes.{quotient_below}

-- R begins with x, and continues after its number as R'
pub record Opens (R : Reading → Type 0) (x : Var) (R' : ℕ → Reading → Type 0) : Type 0 where
  pub opens : (r : Reading) → R r → (n : ℕ) × (r' : Reading) × (r ≡ (x, n) ∷ r') × (n < 2 ^ width x) × R' n r'
  pub closes : (n : ℕ) (r' : Reading) → R' n r' → R ((x, n) ∷ r')

-- the test says whether some number that continues begins with these bits
pub record Tested (x : Var) (R' : ℕ → Reading → Type 0) (begun : ℕ → ℕ → Bool) : Type 0 where
  pub some : (taken bits : ℕ) → taken ≤ width x → bits < 2 ^ taken → begun (width x - taken) bits ≡ true → (n : ℕ) × (r : Reading) × (n / 2 ^ (width x - taken) ≡ bits) × R' n r
  pub each : (rest n : ℕ) (r : Reading) → R' n r → begun rest (n / 2 ^ rest) ≡ true

-- ---- Numbers with bits more.

pub parts_fit : (taken k bits more : ℕ) → bits < 2 ^ taken → more < 2 ^ k → bits * 2 ^ k + more < 2 ^ (taken + k)
parts_fit taken k bits more h m = below_quotient (bits * 2 ^ k + more) taken k (rw (div-mul-add bits (2 ^ k) more m) h)

pub next_number : (taken k bits more : ℕ) → more < 2 ^ k → num (taken + k) (bits * 2 ^ k + more) ≡ num taken bits ++ num k more
next_number taken k bits more m =
    let low : num k (bits * 2 ^ k + more) ≡ num k more =
    value_same (num k (bits * 2 ^ k + more)) (num k more) (length-num k (bits * 2 ^ k + more) ∙ sym (length-num k more)) (value-num_low k (bits * 2 ^ k + more) ∙ mod-mul-add bits (2 ^ k) more m ∙ sym (value-num k more m)) in
    num-add taken k (bits * 2 ^ k + more) ∙ rw (div-mul-add bits (2 ^ k) more m, low) refl

pub one_bit : (b : Bool) → num 1 (bit b) ≡ b ∷ []
unfolding num
one_bit true = refl
one_bit false = refl

pub more_fits : (taken bits : ℕ) (b : Bool) → bits < 2 ^ taken → bits * 2 + bit b < 2 ^ (taken + 1)
more_fits taken bits b h = parts_fit taken 1 bits (bit b) h (omega (arith, bit-le b))

pub next_bits : (taken bits : ℕ) (b : Bool) → num (taken + 1) (bits * 2 + bit b) ≡ num taken bits ++ b ∷ []
next_bits taken bits b = next_number taken 1 bits (bit b) (omega (arith, bit-le b)) ∙ ap (λ (t : List Bool). num taken bits ++ t) (one_bit b)

-- ---- A test by ranges.

-- where every number of the ranges that fits continues, and no other, the ranges are the test
pub ranges_tested : (x : Var) (R' : ℕ → Reading → Type 0) (rs : List (ℕ × ℕ)) → ordered rs ≡ true → ((n : ℕ) → inside rs n ≡ true → n < 2 ^ width x → (r : Reading) × R' n r) → ((n : ℕ) (r : Reading) → R' n r → inside rs n ≡ true) → Tested x R' (begins rs)
ranges_tested x R' rs o goes_further within = record {
  some = λ taken bits short fits test.
      let rest = width x - taken in
      let whole : taken + rest ≡ width x = omega arith in
      let n = begins_some rs rest bits o test in
      let small : n.0 < 2 ^ width x = rw whole at (below_quotient n.0 taken rest (rw n.2 fits)) in
      let r = goes_further n.0 n.1 small in
      (n.0, r.0, n.2, r.1);
  each = λ rest n r l. begins_from rs rest n (within n r l);
}

-- where every admitted number continues, and no other, the variable's ranges are the test
pub admitted_tested : (x : Var) (R' : ℕ → Reading → Type 0) → ((n : ℕ) → IsTrue (admits x n) → (r : Reading) × R' n r) → ((n : ℕ) (r : Reading) → R' n r → IsTrue (admits x n)) → Tested x R' (begins (ranges x))
admitted_tested x R' goes_further within =
    ranges_tested x R' (ranges x) (ranges_ordered x) (λ n i small. goes_further n (admits_from x n i small)) (λ n r l. (admits_parts x n (within n r l)).0)
