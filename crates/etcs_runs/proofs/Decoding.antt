-- Digits one after another say bytes one after another.
use Rattle.std.proofs.Common.{◌≡◌, ℕ, ◌+◌, List, [], ◌∷◌, ◌++◌, Option, Some, None, Result, Ok, Err, refl, sym, ap, ◌∙◌, arith}
use Rattle.std.proofs.lemmas.List.{length-append}
use Rattle.std.specs.Result.{result_unwrap_or}
use Rattle.hex.specs.Hex.{◌>>=◌, digit_or_error, hex_digit_value, value_at, pair_value, decode_pairs, decode_of}
use Rattle.hex.specs.declared.error.FromHexError.{FromHexError}
use Rattle.hex.proofs.Pairs.{cons_byte, decode_pairs-ok_pair}
use Rattle.hex.proofs.HexLemmas.{decode_of-even, decode_of-ok}

bind_ok : {A B : Type 0} (r : Result A FromHexError) (f : A → Result B FromHexError) (y : B) → (r >>= f) ≡ Ok y → (x : A) × (r ≡ Ok x) × (f x ≡ Ok y)
bind_ok (Ok x) f y h = (x, refl, h)
bind_ok (Err e) f y h = cc h

digit_shift : (c i k : ℕ) (o : Option ℕ) (v : ℕ) → digit_or_error c i o ≡ Ok v → digit_or_error c k o ≡ Ok v
digit_shift c i k (Some w) v h = h
digit_shift c i k None v h = cc h

pair_shift : (a b i k v : ℕ) → pair_value a b i ≡ Ok v → pair_value a b k ≡ Ok v
pair_shift a b i k v h =
    let high = bind_ok (value_at a i) _ v h in
    let low = bind_ok (value_at b (i + 1)) _ v high.2 in
    let first = digit_shift a i k (hex_digit_value a) high.0 high.1 in
    let second = digit_shift b (i + 1) (k + 1) (hex_digit_value b) low.0 low.1 in
    rw (first, second) low.2

-- two digits and more
step : (a b : ℕ) (rest x : List ℕ) (i k : ℕ) → decode_pairs i (a ∷ b ∷ rest) ≡ Ok x → (v : ℕ) × (xs : List ℕ) × (v ∷ xs ≡ x) × (decode_pairs (i + 2) rest ≡ Ok xs) × (pair_value a b k ≡ Ok v)
unfolding decode_pairs
step a b rest x i k h =
    let pair = bind_ok (pair_value a b i) _ x h in
    let more = bind_ok (decode_pairs (i + 2) rest) _ x pair.2 in
    (pair.0, more.0, ap (λ (r : Result (List ℕ) FromHexError). result_unwrap_or r []) more.2, more.1, pair_shift a b i k pair.0 pair.1)

-- bytes don't depend on where the digits are
shift : (s x : List ℕ) (i k : ℕ) → decode_pairs i s ≡ Ok x → decode_pairs k s ≡ Ok x
unfolding decode_pairs
shift [] x i k h = h
shift (a ∷ []) x i k h = cc h
shift (a ∷ b ∷ rest) x i k h =
    let s = step a b rest x i k h in
    decode_pairs-ok_pair k a b s.0 rest s.4 ∙ ap (cons_byte s.0) (shift rest s.1 (i + 2) (k + 2) s.3) ∙ ap Ok s.2

joined : (s t x y : List ℕ) (i j k : ℕ) → decode_pairs i s ≡ Ok x → decode_pairs j t ≡ Ok y → decode_pairs k (s ++ t) ≡ Ok (x ++ y)
unfolding decode_pairs
joined [] t x y i j k h g =
    let none : [] ≡ x = ap (λ (r : Result (List ℕ) FromHexError). result_unwrap_or r []) h in
    shift t y j k g ∙ ap (λ (z : List ℕ). Ok (z ++ y)) none
joined (a ∷ []) t x y i j k h g = cc h
joined (a ∷ b ∷ rest) t x y i j k h g =
    let s = step a b rest x i k h in
    decode_pairs-ok_pair k a b s.0 (rest ++ t) s.4 ∙ ap (cons_byte s.0) (joined rest t s.1 y (i + 2) j (k + 2) s.3 g) ∙ ap (λ (z : List ℕ). Ok (z ++ y)) s.2

pub decode_of-append : (s t x y : List ℕ) → decode_of s ≡ Ok x → decode_of t ≡ Ok y → decode_of (s ++ t) ≡ Ok (x ++ y)
decode_of-append s t x y h g =
    let one = (decode_of-ok s x h).0 in
    let two = (decode_of-ok t y g).0 in
    decode_of-even (s ++ t) (omega (arith, one, two, length-append s t))
    ∙ joined s t x y 0 0 0 (sym (decode_of-even s one) ∙ h) (sym (decode_of-even t two) ∙ g)
