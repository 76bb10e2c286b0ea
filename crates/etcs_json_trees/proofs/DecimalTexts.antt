-- Decimal digits in a text and the number that they are.
use Rattle.std.proofs.Common.{◌≡◌, ℕ, ◌+◌, ◌-◌, ◌*◌, ◌^◌, ◌<◌, ◌≤◌, ◌⊎◌, inl, inr, List, [], ◌∷◌, ◌++◌, length, get_or, drop, sym, ap, ◌∙◌, arith, decimal}
use Rattle.std.specs.Str.Parse.{AllDigits}
use Rattle.std.specs.Char.{digit_value}
use Rattle.std.proofs.Math.Nat.{pow-le-pow_right}
use Rattle.std.proofs.lemmas.Bool.{cases_lt}
use Rattle.std.proofs.lemmas.Fmt.{decimal_is_IsNumeral, decimal_digit, first_decimal, length-decimal-le}
use Rattle.std.proofs.lemmas.Grind.{pow_more}
use Rattle.std.proofs.lemmas.List.{length-append, length-drop, drop_more}
use Rattle.std.proofs.lemmas.Str.{digit_value_digit}
use Rattle.std.proofs.lemmas.Str.Parse.{digit_from_value}
use Rattle.etcs_json_trees.specs.PairTexts.{NoDigit}

-- ---- A byte.

-- ---- Digits one after another.

pub one_there : (n : ℕ) (t s : List ℕ) → n < 10 → t ≡ (48 + n) ∷ s → t ≡ decimal n ++ s
one_there n t s small e = e ∙ ap (λ (z : List ℕ). z ++ s) (sym (decimal_digit n small))

pub first_room : (n at : ℕ) → n < 10 → n < 10 ^ (at + 1 - at)
first_room n at small =
    let e : at + 1 - at ≡ 1 = omega arith in
    omega (arith, ap (λ (k : ℕ). 10 ^ k) e, small)

pub room_more : (n d at place : ℕ) → at < place → d < 10 → n < 10 ^ (place - at) → 10 * n + d < 10 ^ (place + 1 - at)
room_more n d at place before digit small =
    let e : place + 1 - at ≡ place - at + 1 = omega (arith, before) in
    omega (arith, ap (λ (k : ℕ). 10 ^ k) e, pow_more 10 (place - at), digit, small)

pub room_for_one : (n at place most : ℕ) → place < at + most → most ≤ 10 → n < 10 ^ (place - at) → n < 10 ^ 9
room_for_one n at place most inside few small =
    let p = pow-le-pow_right {n = 10} (omega arith) {i = place - at} {j = 9} (omega (arith, inside, few)) in
    omega (arith, p, small)

pub in_word : (n width : ℕ) → width ≤ 33 → n < 2 ^ width → n < 2 ^ 64
in_word n width few small =
    let p = pow-le-pow_right {n = 2} (omega arith) {i = width} {j = 33} few in
    omega (arith, p, small)

-- ---- Digits that are a number and end.

same_digits : (ds es xs ys : List ℕ) → AllDigits 10 ds → AllDigits 10 es → NoDigit xs → NoDigit ys → ds ++ xs ≡ es ++ ys → xs ≡ ys
same_digits [] [] xs ys a b x y e = e
same_digits [] (c ∷ es) xs ys a b x y e = let k = digit_from_value c b.0 in absurd (x (digit_value c) (es ++ ys) b.0 (e ∙ ap (λ (z : ℕ). z ∷ (es ++ ys)) (omega (arith, digit_value_digit c k))))
same_digits (c ∷ ds) [] xs ys a b x y e = let k = digit_from_value c a.0 in absurd (y (digit_value c) (ds ++ xs) a.0 (sym e ∙ ap (λ (z : ℕ). z ∷ (ds ++ xs)) (omega (arith, digit_value_digit c k))))
same_digits (c ∷ ds) (d ∷ es) xs ys a b x y e = let rest : ds ++ xs ≡ es ++ ys = cc in same_digits ds es xs ys a.1 b.1 x y rest

-- as many digits are all of them
enough_digits : (ds es xs ys : List ℕ) → AllDigits 10 ds → NoDigit ys → length es ≤ length ds → ds ++ xs ≡ es ++ ys → xs ≡ ys
enough_digits [] [] xs ys a y h e = e
enough_digits [] (c ∷ es) xs ys a y h e = absurd (omega (arith, h))
enough_digits (c ∷ ds) [] xs ys a y h e = let k = digit_from_value c a.0 in absurd (y (digit_value c) (ds ++ xs) a.0 (sym e ∙ ap (λ (z : ℕ). z ∷ (ds ++ xs)) (omega (arith, digit_value_digit c k))))
enough_digits (c ∷ ds) (d ∷ es) xs ys a y h e = let rest : ds ++ xs ≡ es ++ ys = cc in enough_digits ds es xs ys a.1 y (omega (arith, h)) rest

no_digit : (end : ℕ) (s : List ℕ) → 57 < end → NoDigit (end ∷ s)
no_digit end s large d t h e = let z : end ≡ 48 + d = cc in omega (arith, z, h, large)

-- a number begins with a digit
pub begins_digit : (n : ℕ) (t s : List ℕ) → n < 2 ^ 64 → NoDigit t → t ≡ decimal n ++ s → ⊥
begins_digit n t s small other e = let own = decimal_is_IsNumeral n small in begins (decimal n) own.0.0 own.0.1 e
  where
    begins : (ds : List ℕ) → 0 < length ds → AllDigits 10 ds → t ≡ ds ++ s → ⊥
    begins [] some a f = omega (arith, some)
    begins (c ∷ ds) some a f = let k = digit_from_value c a.0 in other (digit_value c) (ds ++ s) a.0 (f ∙ ap (λ (z : ℕ). z ∷ (ds ++ s)) (omega (arith, digit_value_digit c k)))

-- after a zero there are no more digits
after_zero : (n : ℕ) (x y : List ℕ) → n < 2 ^ 64 → decimal 0 ++ x ≡ decimal n ++ y → x ≡ y
after_zero n x y small e = by_cases (cases_lt 0 n)
  where
    by_cases : (0 < n) ⊎ (n ≤ 0) → x ≡ y
    by_cases (inr none) =
        let zero_is : n ≡ 0 = omega (arith, none) in
        let same : decimal 0 ++ x ≡ decimal 0 ++ y = e ∙ ap (λ (k : ℕ). decimal k ++ y) zero_is in
        let both : 48 ∷ x ≡ 48 ∷ y = ap (λ (z : List ℕ). z ++ x) (sym (decimal_digit 0 (omega arith))) ∙ same ∙ ap (λ (z : List ℕ). z ++ y) (decimal_digit 0 (omega arith)) in
        cc
    by_cases (inl some) =
        let top = first_decimal n some small in
        let own = decimal_is_IsNumeral n small in
        let both : 48 ∷ x ≡ decimal n ++ y = ap (λ (z : List ℕ). z ++ x) (sym (decimal_digit 0 (omega arith))) ∙ e in
        absurd (begins (decimal n) own.0.0 top both)
      where
        begins : (ds : List ℕ) → 0 < length ds → 48 < get_or ds 0 0 → 48 ∷ x ≡ ds ++ y → ⊥
        begins [] some first f = omega (arith, some)
        begins (c ∷ ds) some first f = let z : 48 ≡ c = cc in omega (arith, z, first)

-- where a number that is found can't go on, a number that is there ends too
ends_alike : (m n most end : ℕ) (x s : List ℕ) → m < 2 ^ 64 → n < 2 ^ 64 → 57 < end → (m ≡ 0) ⊎ (NoDigit x ⊎ (length (decimal n) ≤ length (decimal m))) → decimal m ++ x ≡ decimal n ++ end ∷ s → x ≡ end ∷ s
ends_alike m n most end x s small less large (inl zero_is) e = after_zero n x (end ∷ s) less (ap (λ (k : ℕ). decimal k ++ x) (sym zero_is) ∙ e)
ends_alike m n most end x s small less large (inr (inl stop)) e = same_digits (decimal m) (decimal n) x (end ∷ s) (decimal_is_IsNumeral m small).0.1 (decimal_is_IsNumeral n less).0.1 stop (no_digit end s large) e
ends_alike m n most end x s small less large (inr (inr enough)) e = enough_digits (decimal m) (decimal n) x (end ∷ s) (decimal_is_IsNumeral m small).0.1 (no_digit end s large) enough e

-- what is found of a number that is there has its end after it
pub end_there : (m n at place most width end : ℕ) (text s : List ℕ) → length text ≡ 64 → at ≤ 32 → place ≤ at + most → most ≤ 10 → 0 < most → m < 10 ^ 10 → 2 ^ width ≤ 10 ^ most → n < 2 ^ width → 57 < end
    → drop at text ≡ decimal m ++ drop place text → (m ≡ 0) ⊎ (NoDigit (drop place text) ⊎ (place ≡ at + most)) → drop at text ≡ decimal n ++ end ∷ s → get_or text place 0 ≡ end
end_there m n at place most width end text s long first inside few some small fits below large found stops there =
    let less : n < 10 ^ most = omega (arith, below, fits) in
    let p = pow-le-pow_right {n = 10} (omega arith) {i = most} {j = 10} few in
    let m' : m < 2 ^ 64 = omega (arith, small) in
    let n' : n < 2 ^ 64 = omega (arith, less, p) in
    let counted : length (decimal m) + length (drop place text) ≡ length (drop at text) = sym (ap length found ∙ length-append (decimal m) (drop place text)) in
    let digits : length (decimal n) ≤ most = length-decimal-le most n some less n' in
    let after : drop place text ≡ end ∷ s = ends_alike m n most end (drop place text) s m' n' large (by_stop counted digits stops) (sym found ∙ there) in
    let same : get_or text place 0 ∷ drop (place + 1) text ≡ end ∷ s = sym (drop_more text place 0 (omega (arith, long, first, inside, few))) ∙ after in
    cc
  where
    by_stop : length (decimal m) + length (drop place text) ≡ length (drop at text) → length (decimal n) ≤ most → (m ≡ 0) ⊎ (NoDigit (drop place text) ⊎ (place ≡ at + most)) → (m ≡ 0) ⊎ (NoDigit (drop place text) ⊎ (length (decimal n) ≤ length (decimal m)))
    by_stop counted digits (inl h) = inl h
    by_stop counted digits (inr (inl h)) = inr (inl h)
    by_stop counted digits (inr (inr h)) = inr (inr (omega (arith, counted, digits, h, long, first, few, length-drop at text, length-drop place text)))
