-- Digits that are read one by one.
use Rattle.std.proofs.Common.{◌≡◌, ℕ, ◌+◌, ◌*◌, ◌/◌, ◌%◌, ◌^◌, ◌<◌, List, [], ◌∷◌, ◌++◌, map, refl, sym, ap, ◌∙◌, arith, append_assoc}
use Rattle.std.specs.Fmt.{decimal}
use Rattle.std.proofs.lemmas.Fmt.{decimal_step}
use Rattle.std.proofs.lemmas.Nat.{pow-add}
use Rattle.std.proofs.lemmas.List.{map-append}
use Rattle.etcs_bits.specs.Bits.{num, bit}
use Rattle.etcs_bits.proofs.Numbers.{bit-eqb, num-add}
use Rattle.etcs_packet_text.specs.Show.{bit_digit}

-- ---- A number in decimal.

digit_after : (n m d : ℕ) → 0 < n → d < 10 → m ≡ n * 10 + d → m < 2 ^ 64 → decimal m ≡ decimal n ++ (48 + d) ∷ []
digit_after n m d some small e fits =
    let front : m / 10 ≡ n = omega arith in
    let last : m % 10 ≡ d = omega arith in
    decimal_step m (omega arith) fits ∙ ap (λ (k : ℕ). decimal k ++ (48 + m % 10) ∷ []) front ∙ ap (λ (k : ℕ). decimal n ++ (48 + k) ∷ []) last

pub more_digit : (text left more : List ℕ) (n m byte d : ℕ) → text ≡ decimal n ++ left → left ≡ byte ∷ more → 0 < n → d < 10 → byte ≡ 48 + d → m ≡ n * 10 + d → m < 2 ^ 64 → text ≡ decimal m ++ more
more_digit text left more n m byte d h e some small digit is fits =
    h
    ∙ ap (λ (z : List ℕ). decimal n ++ z) (e ∙ ap (λ (x : ℕ). x ∷ more) digit)
    ∙ sym (append_assoc (decimal n) ((48 + d) ∷ []) more)
    ∙ ap (λ (z : List ℕ). z ++ more) (sym (digit_after n m d some small is fits))

-- ---- A few bits.

pub no_bits : (text : List ℕ) → text ≡ map bit_digit (num 0 0) ++ text
unfolding num
no_bits text = refl

last_bit : (m : ℕ) → map bit_digit (num 1 m) ≡ (48 + m % 2) ∷ []
unfolding num
last_bit m = ap (λ (k : ℕ). (48 + k) ∷ []) (bit-eqb (m / 2 ^ 0 % 2) (omega arith) ∙ omega arith)

bit_after : (count n m b : ℕ) → b < 2 → m ≡ n * 2 + b → map bit_digit (num (count + 1) m) ≡ map bit_digit (num count n) ++ (48 + b) ∷ []
bit_after count n m b small e =
    let front : m / 2 ^ 1 ≡ n = omega arith in
    let last : m % 2 ≡ b = omega arith in
    ap (map bit_digit) (num-add count 1 m)
    ∙ map-append bit_digit (num count (m / 2 ^ 1)) (num 1 m)
    ∙ ap (λ (k : ℕ). map bit_digit (num count k) ++ map bit_digit (num 1 m)) front
    ∙ ap (λ (z : List ℕ). map bit_digit (num count n) ++ z) (last_bit m ∙ ap (λ (k : ℕ). (48 + k) ∷ []) last)

pub more_bit : (text left more : List ℕ) (count n m byte b : ℕ) → text ≡ map bit_digit (num count n) ++ left → left ≡ byte ∷ more → b < 2 → byte ≡ 48 + b → m ≡ n * 2 + b → text ≡ map bit_digit (num (count + 1) m) ++ more
more_bit text left more count n m byte b h e small digit is =
    h
    ∙ ap (λ (z : List ℕ). map bit_digit (num count n) ++ z) (e ∙ ap (λ (x : ℕ). x ∷ more) digit)
    ∙ sym (append_assoc (map bit_digit (num count n)) ((48 + b) ∷ []) more)
    ∙ ap (λ (z : List ℕ). z ++ more) (sym (bit_after count n m b small is))

pub small_after : (count n m b : ℕ) → n < 2 ^ count → b < 2 → m ≡ n * 2 + b → m < 2 ^ (count + 1)
small_after count n m b small bit e = omega (arith, pow-add 2 count 1)
