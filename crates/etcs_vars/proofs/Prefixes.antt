-- Numbers by their first bits, and which of them a variable's ranges hold.
use Rattle.std.proofs.Common.{◌≡◌, ℕ, ◌+◌, ◌-◌, ◌*◌, ◌/◌, ◌^◌, ◌<◌, ◌≤◌, Bool, true, false, List, [], ◌∷◌, take, refl, sym, ap, ◌∙◌, arith, inl, inr, leb, ltb}
use Rattle.std.specs.Prelude.{IsTrue, ◌&&◌, ◌↔◌, Some, slice_get}
use Rattle.std.specs.List.{list_all}
use Rattle.std.proofs.lemmas.Bool.{and_parts, and_from, or_cases, or_left, or_right, cases_lt, leb-true, le-leb, lt-ltb, ltb-true}
use Rattle.std.proofs.lemmas.List.{take_at}
use Rattle.std.proofs.lemmas.Nat.{le-div, pow-add}
use Rattle.std.proofs.Math.Pow.{pow_pos}
use Rattle.std.proofs.Math.Nat.{le-div_iff_mul-le, mul-div_left, div-mul-le_self, div-lt_iff_lt-mul}
use Rattle.etcs_bits.specs.Bits.{num}
use Rattle.etcs_bits.proofs.Numbers.{length-num, num-add, num_same}
use Rattle.etcs_vars.specs.declared.var.Var.{Var}
use Rattle.etcs_vars.specs.declared.var.Var.TheVariants.{Q_UPDOWN}
use Rattle.etcs_vars.specs.Vars.{width, ranges, admits, inside, begins}

-- the first bits of a number are those of its quotient
pub take-num : (k rest n : ℕ) → take k (num (k + rest) n) ≡ num k (n / 2 ^ rest)
take-num k rest n = ap (take k) (num-add k rest n) ∙ take_at (num k (n / 2 ^ rest)) (num rest n) k (length-num k (n / 2 ^ rest))

pub quotient_below : (n k rest : ℕ) → n < 2 ^ (k + rest) → n / 2 ^ rest < 2 ^ k
quotient_below n k rest h = (div-lt_iff_lt-mul {k = 2 ^ rest} {x = n} {y = 2 ^ k} (pow_pos rest)).1 (omega (arith, pow-add 2 k rest))

pub below_quotient : (n k rest : ℕ) → n / 2 ^ rest < 2 ^ k → n < 2 ^ (k + rest)
below_quotient n k rest h = (let m : n < 2 ^ k * 2 ^ rest = (div-lt_iff_lt-mul {k = 2 ^ rest} {x = n} {y = 2 ^ k} (pow_pos rest)).0 h in omega (arith, pow-add 2 k rest))

-- some number from lo to hi has the quotient b
between : (d lo hi b : ℕ) → 0 < d → lo ≤ hi → lo / d ≤ b → b ≤ hi / d → (n : ℕ) × (lo ≤ n) × (n ≤ hi) × (n / d ≡ b)
between d lo hi b pos le low high =
    elim (cases_lt (b * d) lo) [
      | inl lt ↦ (lo, omega arith, le, (let up : b ≤ lo / d = le-div b lo d pos (omega arith) in omega arith))
      | inr ge ↦ (b * d, ge, (le-div_iff_mul-le {k = d} {x = b} {y = hi} pos).0 high, mul-div_left b pos)
    ]

quotient_le : (d a b : ℕ) → 0 < d → a ≤ b → a / d ≤ b / d
quotient_le d a b pos le = le-div (a / d) b d pos (omega (arith, div-mul-le_self a d))

-- ---- Ranges.

-- each range has its ends in order
abbrev pub ordered : List (ℕ × ℕ) → Bool
ordered rs = list_all (λ r. leb r.0 r.1) rs

-- each range ends below a bound
abbrev pub all_below : ℕ → List (ℕ × ℕ) → Bool
all_below bound rs = list_all (λ r. ltb r.1 bound) rs

-- bits with which a number of the ranges may begin
pub begins_some : (rs : List (ℕ × ℕ)) (rest b : ℕ) → ordered rs ≡ true → begins rs rest b ≡ true → (n : ℕ) × (inside rs n ≡ true) × (n / 2 ^ rest ≡ b)
begins_some [] rest b o h = absurd cc
begins_some ((lo, hi) ∷ rs) rest b o h =
    let os = and_parts (leb lo hi) (ordered rs) o in
    elim (or_cases (leb (lo / 2 ^ rest) b && leb b (hi / 2 ^ rest)) (begins rs rest b) h) [
      | inl here ↦
          let ends = and_parts (leb (lo / 2 ^ rest) b) (leb b (hi / 2 ^ rest)) here in
          let m = between (2 ^ rest) lo hi b (pow_pos rest) (leb-true lo hi os.0) (leb-true (lo / 2 ^ rest) b ends.0) (leb-true b (hi / 2 ^ rest) ends.1) in
          (m.0, or_left (leb lo m.0 && leb m.0 hi) (inside rs m.0) (and_from (leb lo m.0) (leb m.0 hi) (le-leb lo m.0 m.1) (le-leb m.0 hi m.2)), m.3)
      | inr beyond ↦
          let m = begins_some rs rest b os.1 beyond in
          (m.0, or_right (leb lo m.0 && leb m.0 hi) (inside rs m.0) m.1, m.2)
    ]

-- the first bits of a number of the ranges
pub begins_from : (rs : List (ℕ × ℕ)) (rest n : ℕ) → inside rs n ≡ true → begins rs rest (n / 2 ^ rest) ≡ true
begins_from [] rest n h = absurd cc
begins_from ((lo, hi) ∷ rs) rest n h =
    let here = leb (lo / 2 ^ rest) (n / 2 ^ rest) && leb (n / 2 ^ rest) (hi / 2 ^ rest) in
    elim (or_cases (leb lo n && leb n hi) (inside rs n) h) [
      | inl x ↦
          let ends = and_parts (leb lo n) (leb n hi) x in
          or_left here (begins rs rest (n / 2 ^ rest))
          (and_from (leb (lo / 2 ^ rest) (n / 2 ^ rest)) (leb (n / 2 ^ rest) (hi / 2 ^ rest))
          (le-leb (lo / 2 ^ rest) (n / 2 ^ rest) (quotient_le (2 ^ rest) lo n (pow_pos rest) (leb-true lo n ends.0)))
          (le-leb (n / 2 ^ rest) (hi / 2 ^ rest) (quotient_le (2 ^ rest) n hi (pow_pos rest) (leb-true n hi ends.1))))
      | inr x ↦ or_right here (begins rs rest (n / 2 ^ rest)) (begins_from rs rest n x)
    ]

-- a number of ranges that end below a bound
pub inside_below : (rs : List (ℕ × ℕ)) (bound n : ℕ) → all_below bound rs ≡ true → inside rs n ≡ true → n < bound
inside_below [] bound n b h = absurd cc
inside_below ((lo, hi) ∷ rs) bound n b h =
    let bs = and_parts (ltb hi bound) (all_below bound rs) b in
    elim (or_cases (leb lo n && leb n hi) (inside rs n) h) [
      | inl x ↦ omega (arith, ltb-true hi bound bs.0, leb-true n hi (and_parts (leb lo n) (leb n hi) x).1)
      | inr x ↦ inside_below rs bound n bs.1 x
    ]

-- ---- The ranges of a variable. Each fact is found by computation, for every variable at once.

pub ranges_ordered : (v : Var) → ordered (ranges v) ≡ true
ranges_ordered Q_UPDOWN = refl
ranges_ordered v = refl

pub ranges_below : (v : Var) → all_below (2 ^ width v) (ranges v) ≡ true
ranges_below Q_UPDOWN = refl
ranges_below v = refl

-- each variable admits a number
pub some_number : (v : Var) → (n : ℕ) × (inside (ranges v) n ≡ true) × (n < 2 ^ width v)
some_number Q_UPDOWN = (1, refl, omega arith)
some_number v = (elim (ranges v) [ [] ↦ 0 | r ∷ rs ↦ r.0 ], refl, omega arith)

-- no variable takes more bits than a number of the code has
pub width-le : (v : Var) → width v ≤ 64
width-le Q_UPDOWN = omega arith
width-le v = omega arith

pub width_pos : (v : Var) → 0 < width v
width_pos Q_UPDOWN = omega arith
width_pos v = omega arith

pub admits_from : (v : Var) (n : ℕ) → inside (ranges v) n ≡ true → n < 2 ^ width v → IsTrue (admits v n)
admits_from v n h k = and_from (ltb n (2 ^ width v)) (inside (ranges v) n) (lt-ltb n (2 ^ width v) k) h

pub admits_parts : (v : Var) (n : ℕ) → IsTrue (admits v n) → (inside (ranges v) n ≡ true) × (n < 2 ^ width v)
admits_parts v n h = let p = and_parts (ltb n (2 ^ width v)) (inside (ranges v) n) h in (p.1, ltb-true n (2 ^ width v) p.0)

and_second : (a b : Bool) → (b ≡ true → a ≡ true) → (a && b) ≡ b
and_second true b h = refl
and_second false true h = h refl
and_second false false h = refl

-- the ranges alone say which numbers are admitted
pub admits_by_ranges : (v : Var) (n : ℕ) → admits v n ≡ inside (ranges v) n
admits_by_ranges v n = and_second (ltb n (2 ^ width v)) (inside (ranges v) n) (λ h. lt-ltb n (2 ^ width v) (inside_below (ranges v) (2 ^ width v) n (ranges_below v) h))

inside_first : (rs : List (ℕ × ℕ)) (n : ℕ) (r : ℕ × ℕ) → slice_get rs 0 ≡ Some r → IsTrue (leb r.0 n && leb n r.1) → IsTrue (inside rs n)
inside_first [] n r first here = absurd cc
inside_first (q ∷ rs) n r first here = (let same : r ≡ q = cc in or_left (leb q.0 n && leb n q.1) (inside rs n) (rw same at here))

-- a number of the first range is admitted
pub admits_by_first : (v : Var) (n : ℕ) (r : ℕ × ℕ) → slice_get (ranges v) 0 ≡ Some r → IsTrue (leb r.0 n && leb n r.1) → IsTrue (admits v n)
admits_by_first v n r first here = admits_by_ranges v n ∙ inside_first (ranges v) n r first here

-- bits with which a number of the first range begins
pub begins_first : (rs : List (ℕ × ℕ)) (rest b : ℕ) (r : ℕ × ℕ) → slice_get rs 0 ≡ Some r → IsTrue (leb (r.0 / 2 ^ rest) b && leb b (r.1 / 2 ^ rest)) → IsTrue (begins rs rest b)
begins_first [] rest b r first here = absurd cc
begins_first (q ∷ rs) rest b r first here = (let same : r ≡ q = cc in or_left (leb (q.0 / 2 ^ rest) b && leb b (q.1 / 2 ^ rest)) (begins rs rest b) (rw same at here))

-- bits with which some admitted number begins
pub begins_admitted : (v : Var) (taken bits : ℕ) → taken ≤ width v → bits < 2 ^ taken → IsTrue (begins (ranges v) (width v - taken) bits) ↔ ((n : ℕ) × IsTrue (admits v n) × (take taken (num (width v) n) ≡ num taken bits))
begins_admitted v taken bits short fits =
    let rest = width v - taken in
    let whole : taken + rest ≡ width v = omega arith in (
      λ given.
          let n = begins_some (ranges v) rest bits (ranges_ordered v) given in
          let small : n.0 < 2 ^ width v = inside_below (ranges v) (2 ^ width v) n.0 (ranges_below v) n.1 in
          let front : take taken (num (width v) n.0) ≡ num taken bits = rw whole at (take-num taken rest n.0) ∙ ap (num taken) n.2 in
          (n.0, admits_from v n.0 n.1 small, front),
      λ (n, admitted, front).
          let parts = admits_parts v n admitted in
          let below : n / 2 ^ rest < 2 ^ taken = quotient_below n taken rest (rw whole parts.1) in
          let first : take taken (num (width v) n) ≡ num taken (n / 2 ^ rest) = rw whole at (take-num taken rest n) in
          let same : n / 2 ^ rest ≡ bits = num_same taken (n / 2 ^ rest) bits below fits (sym first ∙ front) in
          rw same at (begins_from (ranges v) rest n parts.0),
    )
