-- Digits of hexadecimal numbers.
use Rattle.std.proofs.Common.{◌≡◌, ℕ, zero, suc, ◌/◌, ◌%◌, ◌^◌, ◌<◌, Bool, true, false, List, [], ◌∷◌, ◌++◌, length, get_or, map, refl, sym, ap, subst, ◌∙◌, arith, add-one}
use Rattle.std.specs.Prelude.{All, nat_lt}
use Rattle.std.proofs.Math.Nat.{pow-le-pow_right}
use Rattle.std.proofs.lemmas.Bool.{ltb-true}
use Rattle.std.proofs.lemmas.Grind.{pow_more}
use Rattle.std.proofs.lemmas.List.{get_or-map, length-map}
use Rattle.std.proofs.lemmas.List.Elements.{All-nil, All-push}
use Rattle.etcs_packet_text.specs.Show.{hex_digit, hex_digits}
use Rattle.etcs_json_trees.specs.Digits.{lower}

pub hex_room : (i n : ℕ) → i < 16 → n < 16 ^ i → n < 1152921504606846976
hex_room i n small h = let p = pow-le-pow_right {n = 16} (omega arith) {i = i} {j = 15} (omega arith) in omega (arith, p, h)

abbrev IsDigit : ℕ → Type 0
IsDigit c = (d : ℕ) × (d < 16) × (c ≡ hex_digit d)

are_digits : (k n : ℕ) → All IsDigit (hex_digits k n)
are_digits zero n = All-nil IsDigit
are_digits (suc k) n = All-push IsDigit (hex_digits k (n / 16)) (hex_digit (n % 16)) (are_digits k (n / 16)) (n % 16, omega arith, refl)

-- what is no digit is in no number
pub not_digit : (text : List ℕ) (k i n c : ℕ) → i < length text → c ≡ get_or text i 0 → map lower text ≡ hex_digits k n → ((d : ℕ) → d < 16 → lower c ≡ hex_digit d → ⊥) → ⊥
not_digit text k i n c inside at e other =
    let l = length-map text lower in
    let there : i < length (hex_digits k n) = subst (λ (z : List ℕ). i < length z) e (omega (arith, l)) in
    let (d, small, is) = are_digits k n i (lower c) there in
    other d small (ap lower at ∙ sym (get_or-map lower text i 0 (lower c) inside) ∙ ap (λ (z : List ℕ). get_or z i (lower c)) e ∙ is)

push_same : (xs ys : List ℕ) (a b : ℕ) → xs ++ a ∷ [] ≡ ys ++ b ∷ [] → (xs ≡ ys) × (a ≡ b)
push_same [] [] a b e = (refl, cc)
push_same [] (y ∷ []) a b e = absurd cc
push_same [] (y ∷ z ∷ ys) a b e = absurd cc
push_same (x ∷ []) [] a b e = absurd cc
push_same (x ∷ z ∷ xs) [] a b e = absurd cc
push_same (x ∷ xs) (y ∷ ys) a b e =
    let rest : xs ++ a ∷ [] ≡ ys ++ b ∷ [] = cc in
    let first : x ≡ y = cc in
    let r = push_same xs ys a b rest in
    (cc, r.1)

one_digit : (a b : ℕ) → a < 16 → b < 16 → hex_digit a ≡ hex_digit b → a ≡ b
one_digit a b h k e = by_tests (nat_lt a 10) (nat_lt b 10) refl refl
  where
    by_tests : (p q : Bool) → nat_lt a 10 ≡ p → nat_lt b 10 ≡ q → a ≡ b
    by_tests true true x y = let e' = rw (x, y) at e in omega (arith, e')
    by_tests true false x y = let e' = rw (x, y) at e in omega (arith, e', ltb-true a 10 x)
    by_tests false true x y = let e' = rw (x, y) at e in omega (arith, e', ltb-true b 10 y)
    by_tests false false x y = let e' = rw (x, y) at e in omega (arith, e')

-- this many digits are of one number
pub one_hex : (k n m : ℕ) → n < 16 ^ k → m < 16 ^ k → hex_digits k n ≡ hex_digits k m → n ≡ m
one_hex zero n m h g e = omega (arith, h, g)
one_hex (suc k) n m h g e =
    let p = ap (λ (j : ℕ). 16 ^ j) (add-one k) in
    let q = pow_more 16 k in
    let (above, last) = push_same (hex_digits k (n / 16)) (hex_digits k (m / 16)) (hex_digit (n % 16)) (hex_digit (m % 16)) e in
    let rest = one_hex k (n / 16) (m / 16) (omega (arith, h, p, q)) (omega (arith, g, p, q)) above in
    let digit = one_digit (n % 16) (m % 16) (omega arith) (omega arith) last in
    omega (arith, rest, digit)
