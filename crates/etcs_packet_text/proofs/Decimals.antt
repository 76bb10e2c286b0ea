-- The digits of numbers, two and four at a time.
use Rattle.std.proofs.Common.{subst, if◌then◌else◌, nat_lt, inl, inr, ◌≡◌, ℕ, zero, suc, ◌+◌, ◌/◌, ◌%◌, ◌^◌, ◌<◌, ◌≤◌, List, [], ◌∷◌, ◌++◌, length, get_or, set, take, refl, sym, ap, ◌∙◌, arith, append_assoc}
use Rattle.std.specs.Fmt.{decimal}
use Rattle.std.proofs.lemmas.Bool.{cases_lt, cond_above, cond_below}
use Rattle.std.proofs.lemmas.Fmt.{decimal_digit, decimal_step}
use Rattle.std.proofs.lemmas.List.{take_more_set, length-append, length-set}
use Rattle.etcs_packet_text.specs.declared.page.place.TheConstants.{PAIRS, SHORT}

-- ---- The table of the digits of numbers below a hundred.

abbrev pub two : ℕ → List ℕ
two n = (48 + n / 10) ∷ (48 + n % 10) ∷ []

pairs_from : ℕ → ℕ → List (List ℕ)
pairs_from from zero = []
pairs_from from (suc n) = two from ∷ pairs_from (from + 1) n

pairs_at : (none : List ℕ) (from n k : ℕ) → k < n → get_or (pairs_from from n) k none ≡ two (from + k)
unfolding pairs_from
pairs_at none from zero k h = absurd (omega (arith, h))
pairs_at none from (suc n) zero h = ap two (omega arith)
pairs_at none from (suc n) (suc k) h = pairs_at none (from + 1) n k (omega (arith, h)) ∙ ap two (omega arith)

table_is : PAIRS ≡ pairs_from 0 100
unfolding pairs_from
table_is = refl

pub pair_digits : (none : List ℕ) (n : ℕ) → n < 100 → get_or PAIRS n none ≡ two n
pair_digits none n small = ap (λ (t : List (List ℕ)). get_or t n none) table_is ∙ pairs_at none 0 100 n small ∙ ap two (omega arith)

-- ---- The last two digits of a number.

last_two : (a b x y : ℕ) → a ≡ x → b ≡ y → (48 + a) ∷ (48 + b) ∷ [] ≡ (48 + x) ∷ (48 + y) ∷ []
last_two a b x y p q = cc

pub decimal_hundreds : (n : ℕ) → 100 ≤ n → n < 2 ^ 64 → decimal n ≡ decimal (n / 100) ++ two (n % 100)
decimal_hundreds n lo hi =
    decimal_step n (omega arith) hi
    ∙ ap (λ (t : List ℕ). t ++ (48 + n % 10) ∷ []) (decimal_step (n / 10) (omega arith) (omega arith))
    ∙ append_assoc (decimal (n / 10 / 10)) ((48 + n / 10 % 10) ∷ []) ((48 + n % 10) ∷ [])
    ∙ ap (λ (k : ℕ). decimal k ++ (48 + n / 10 % 10) ∷ (48 + n % 10) ∷ []) (omega arith)
    ∙ ap (λ (t : List ℕ). decimal (n / 100) ++ t) (last_two (n / 10 % 10) (n % 10) (n % 100 / 10) (n % 100 % 10) (omega arith) (omega arith))

pub length_hundreds : (n : ℕ) → 100 ≤ n → n < 2 ^ 64 → length (decimal n) ≡ length (decimal (n / 100)) + 2
length_hundreds n lo hi = ap length (decimal_hundreds n lo hi) ∙ length-append (decimal (n / 100)) (two (n % 100))

pub length_one : (n : ℕ) → n < 10 → length (decimal n) ≡ 1
length_one n h = ap length (decimal_digit n h)

-- ---- Digits put over bytes.

pub digit_put : (n at : ℕ) (old : List ℕ) → n < 10 → at < length old → take (at + 1) (set old at (48 + n)) ≡ take at old ++ decimal n
digit_put n at old small inside = take_more_set old at (48 + n) inside ∙ ap (λ (t : List ℕ). take at old ++ t) (sym (decimal_digit n small))

two_bytes_put : (at x y : ℕ) (old : List ℕ) → at + 2 ≤ length old → take (at + 2) (set (set old at x) (at + 1) y) ≡ take at old ++ x ∷ y ∷ []
two_bytes_put at x y old inside =
    ap (λ (k : ℕ). take k (set (set old at x) (at + 1) y)) (omega arith)
    ∙ take_more_set (set old at x) (at + 1) y (omega (arith, length-set old at x, inside))
    ∙ ap (λ (t : List ℕ). t ++ y ∷ []) (take_more_set old at x (omega (arith, inside)))
    ∙ append_assoc (take at old) (x ∷ []) (y ∷ [])

pub two_put : (at n : ℕ) (old none : List ℕ) → n < 100 → at + 2 ≤ length old → take (at + 2) (set (set old at (get_or (get_or PAIRS n none) 0 0)) (at + 1) (get_or (get_or PAIRS n none) 1 0)) ≡ take at old ++ two n
two_put at n old none small inside =
    ap (λ (p : List ℕ). take (at + 2) (set (set old at (get_or p 0 0)) (at + 1) (get_or p 1 0))) (pair_digits none n small)
    ∙ two_bytes_put at (48 + n / 10) (48 + n % 10) old inside

-- ---- The table of the digits of numbers below a thousand.

-- up to three digits, blanks up to three, and how many digits they are
short : ℕ → List ℕ
short n = if nat_lt n 10 then (48 + n) ∷ 32 ∷ 32 ∷ 49 ∷ [] else (if nat_lt n 100 then (48 + n / 10) ∷ (48 + n % 10) ∷ 32 ∷ 50 ∷ [] else (48 + n / 100) ∷ (48 + n / 10 % 10) ∷ (48 + n % 10) ∷ 51 ∷ [])

shorts_from : ℕ → ℕ → List (List ℕ)
shorts_from from zero = []
shorts_from from (suc n) = short from ∷ shorts_from (from + 1) n

shorts_at : (none : List ℕ) (from n k : ℕ) → k < n → get_or (shorts_from from n) k none ≡ short (from + k)
unfolding shorts_from
shorts_at none from zero k h = absurd (omega (arith, h))
shorts_at none from (suc n) zero h = ap short (omega arith)
shorts_at none from (suc n) (suc k) h = shorts_at none (from + 1) n k (omega (arith, h)) ∙ ap short (omega arith)

shorts_are : SHORT ≡ shorts_from 0 1000
unfolding shorts_from short
shorts_are = refl

short_digits : (none : List ℕ) (n : ℕ) → n < 1000 → get_or SHORT n none ≡ short n
short_digits none n small = ap (λ (t : List (List ℕ)). get_or t n none) shorts_are ∙ shorts_at none 0 1000 n small ∙ ap short (omega arith)

decimal_three : (n : ℕ) → 100 ≤ n → n < 1000 → decimal n ≡ (48 + n / 100) ∷ (48 + n / 10 % 10) ∷ (48 + n % 10) ∷ []
decimal_three n lo hi =
    decimal_hundreds n lo (omega arith)
    ∙ ap (λ (t : List ℕ). t ++ two (n % 100)) (decimal_digit (n / 100) (omega arith))
    ∙ ap (λ (t : List ℕ). (48 + n / 100) ∷ t) (last_two (n % 100 / 10) (n % 100 % 10) (n / 10 % 10) (n % 10) (omega arith) (omega arith))

decimal_two : (n : ℕ) → 10 ≤ n → n < 100 → decimal n ≡ two n
decimal_two n lo hi = decimal_step n lo (omega arith) ∙ ap (λ (t : List ℕ). t ++ (48 + n % 10) ∷ []) (decimal_digit (n / 10) (omega arith))

-- what the table has of a number: its digits, and how many they are
abbrev pub IsShort : ℕ → List ℕ → Type 0
IsShort n d = (length d ≡ 4) × (get_or d 3 0 ≡ 48 + length (decimal n)) × (length (decimal n) ≤ 3) × (take (length (decimal n)) d ≡ decimal n) × (0 < length (decimal n))

is_short_as : (n : ℕ) (d digits : List ℕ) → decimal n ≡ digits → length digits ≤ 3 → 0 < length digits → length d ≡ 4 → get_or d 3 0 ≡ 48 + length digits → take (length digits) d ≡ digits → IsShort n d
is_short_as n d digits e few some long count first =
    let size = ap length e in
    (long, omega (arith, count, size), omega (arith, few, size), ap (λ (k : ℕ). take k d) size ∙ first ∙ sym e, omega (arith, some, size))

is_short : (n : ℕ) → n < 1000 → IsShort n (short n)
unfolding short
is_short n small = elim (cases_lt n 10) [
  | inl one ↦ subst (IsShort n) (cond_below n 10 _ _ one) (is_short_as n _ ((48 + n) ∷ []) (decimal_digit n one) (omega arith) (omega arith) refl refl refl)
  | inr more ↦ subst (IsShort n) (cond_above n 10 _ _ _ more refl) (elim (cases_lt n 100) [
    | inl less ↦ subst (IsShort n) (cond_below n 100 _ _ less) (is_short_as n _ (two n) (decimal_two n more less) (omega arith) (omega arith) refl refl refl)
    | inr most ↦ subst (IsShort n) (cond_above n 100 _ _ _ most refl) (is_short_as n _ ((48 + n / 100) ∷ (48 + n / 10 % 10) ∷ (48 + n % 10) ∷ []) (decimal_three n most small) (omega arith) (omega arith) refl refl refl)
  ])
]

pub in_table : (none : List ℕ) (n : ℕ) → n < 1000 → IsShort n (get_or SHORT n none)
in_table none n small = subst (IsShort n) (sym (short_digits none n small)) (is_short n small)

pub some_digits : (n : ℕ) → n < 1000 → 0 < length (decimal n)
some_digits n small = (is_short n small).4

decimal_thousands : (n : ℕ) → 10000 ≤ n → n < 2 ^ 64 → decimal n ≡ decimal (n / 10000) ++ (two (n / 100 % 100) ++ two (n % 100))
decimal_thousands n lo hi =
    decimal_hundreds n (omega arith) hi
    ∙ ap (λ (t : List ℕ). t ++ two (n % 100)) (decimal_hundreds (n / 100) (omega arith) (omega arith))
    ∙ append_assoc (decimal (n / 100 / 100)) (two (n / 100 % 100)) (two (n % 100))
    ∙ ap (λ (k : ℕ). decimal k ++ (two (n / 100 % 100) ++ two (n % 100))) (omega arith)

pub length_thousands : (n : ℕ) → 10000 ≤ n → n < 2 ^ 64 → length (decimal n) ≡ length (decimal (n / 10000)) + 4
length_thousands n lo hi = ap length (decimal_thousands n lo hi) ∙ length-append (decimal (n / 10000)) (two (n / 100 % 100) ++ two (n % 100))

-- two digits more, after digits that were put
pub two_more : (n at : ℕ) (old new : List ℕ) (end next : ℕ) (newest : List ℕ) → 100 ≤ n → n < 2 ^ 64 → take end new ≡ take at old ++ decimal (n / 100) → take next newest ≡ take end new ++ two (n % 100) → take next newest ≡ take at old ++ decimal n
two_more n at old new end next newest lo hi first second =
    second
    ∙ ap (λ (t : List ℕ). t ++ two (n % 100)) first
    ∙ append_assoc (take at old) (decimal (n / 100)) (two (n % 100))
    ∙ ap (λ (t : List ℕ). take at old ++ t) (sym (decimal_hundreds n lo hi))

pub two_more_at : (n at : ℕ) (old new : List ℕ) (end next : ℕ) (newest : List ℕ) → 100 ≤ n → n < 2 ^ 64 → (m : ℕ) → m ≡ n / 100 → take end new ≡ take at old ++ decimal m → take next newest ≡ take end new ++ two (n % 100) → take next newest ≡ take at old ++ decimal n
two_more_at n at old new end next newest lo hi m is first second = two_more n at old new end next newest lo hi (first ∙ ap (λ (k : ℕ). take at old ++ decimal k) is) second
