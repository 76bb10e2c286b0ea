-- Pairs of hexadecimal digits, and the bytes that they say.
use Rattle.std.proofs.Common.{◌≡◌, ℕ, ◌+◌, ◌-◌, ◌*◌, ◌<◌, ◌≤◌, Bool, true, false, ltb, List, [], length, take, drop, get_or, unwrap_or, Option, Some, None, is_some, Result, Ok, Err, refl, ap, sym, ◌∙◌, arith, inl, inr}
use Rattle.std.specs.Prelude.{◌⊎◌, bit_or}
use Rattle.std.proofs.Math.Seq.{take-length}
use Rattle.std.proofs.lemmas.Bool.{cases_lt}
use Rattle.std.proofs.lemmas.Bool.Decides.{nat_tests}
use Rattle.std.proofs.lemmas.Nat.{or_of_8}
use Rattle.std.proofs.lemmas.List.{append-nil, drop_all}
use Rattle.std.proofs.lemmas.List.Sums.{AllPass-from_list_all, list_all-from_AllPass}
use Rattle.std.specs.List.{list_all}
use Rattle.hex.specs.declared.error.FromHexError.{FromHexError}
use Rattle.hex.specs.Hex.{decode_of, decode_pairs, digit_or_error, hex_digit_value, is_hex_digit, pair_value, value_at}
use Rattle.hex.proofs.HexLemmas.{decode_of-even, decode_of-ok}
use Rattle.hex.proofs.Pairs.{prepend}

-- ---- The value of a character: 256 for one that is no digit.

small : (c : ℕ) → is_hex_digit c ≡ true → unwrap_or (hex_digit_value c) 256 ≤ 15
small c h = grind (arith, nat_tests)

some_value : (o : Option ℕ) (n : ℕ) → n ≡ unwrap_or o 256 → n < 256 → o ≡ Some n
some_value (Some v) n e h = ap Some (sym e)
some_value None n e h = absurd (omega arith)

below_by : (o : Option ℕ) → (is_some o ≡ true → unwrap_or o 256 ≤ 15) → ltb (unwrap_or o 256) 256 ≡ is_some o
below_by (Some v) h = let s : v ≤ 15 = h refl in grind (arith, nat_tests)
below_by None h = refl

pub digit_below : (c : ℕ) → ltb (unwrap_or (hex_digit_value c) 256) 256 ≡ is_hex_digit c
digit_below c = below_by (hex_digit_value c) (small c)

-- ---- Two characters.

pair_reads : (a b i x y : ℕ) → hex_digit_value a ≡ Some x → hex_digit_value b ≡ Some y → pair_value a b i ≡ Ok (x * 16 + y)
pair_reads a b i x y ex ey =
    let ha : value_at a i ≡ Ok x = ap (digit_or_error a i) ex in
    let hb : value_at b (i + 1) ≡ Ok y = ap (digit_or_error b (i + 1)) ey in
    rw (ha, hb) refl

-- whose values make a byte
pub good_pair : (a b i x y : ℕ) → x ≡ unwrap_or (hex_digit_value a) 256 → y ≡ unwrap_or (hex_digit_value b) 256 → x * 16 + y ≤ 255 → pair_value a b i ≡ Ok (x * 16 + y)
good_pair a b i x y ex ey h =
    pair_reads a b i x y (some_value (hex_digit_value a) x ex (omega arith)) (some_value (hex_digit_value b) y ey (omega arith))

either_false : (a b : Bool) → (a ≡ true → b ≡ true → ⊥) → (a ≡ false) ⊎ (b ≡ false)
either_false true true f = absurd (f refl refl)
either_false true false f = inr refl
either_false false b f = inl refl

not_all : (word : List ℕ) (k : ℕ) (b : Bool) → list_all is_hex_digit word ≡ b → k < length word → is_hex_digit (get_or word k 0) ≡ false → false ≡ b
not_all word k true e lt h = sym h ∙ AllPass-from_list_all is_hex_digit word e k 0 lt
not_all word k false e lt h = refl

-- whose values don't
pub no_pair : (word : List ℕ) (i x y : ℕ) → 2 * i + 1 < length word → x ≡ unwrap_or (hex_digit_value (get_or word (2 * i) 0)) 256 → y ≡ unwrap_or (hex_digit_value (get_or word (2 * i + 1) 0)) 256 → 255 < x * 16 + y → false ≡ list_all is_hex_digit word
no_pair word i x y lt ex ey h =
    let a = get_or word (2 * i) 0 in
    let b = get_or word (2 * i + 1) 0 in
    elim (either_false (is_hex_digit a) (is_hex_digit b) (λ p q. omega (arith, small a p, small b q, ex, ey, h))) [
      | inl other ↦ not_all word (2 * i) (list_all is_hex_digit word) refl (omega arith) other
      | inr other ↦ not_all word (2 * i + 1) (list_all is_hex_digit word) refl lt other
    ]

-- ---- All pairs.

take_whole : (xs : List ℕ) (i : ℕ) → i ≡ length xs → take i xs ≡ xs
take_whole xs i e = ap (λ (n : ℕ). take n xs) e ∙ take-length xs

-- they were read
pub all_decoded : (word bytes : List ℕ) (i : ℕ) → length word ≡ 2 * length bytes → i ≡ length bytes
    → decode_pairs 0 word ≡ prepend (take i bytes) (decode_pairs (2 * i) (drop (2 * i) word))
    → decode_of word ≡ Ok bytes
unfolding decode_pairs
all_decoded word bytes i len end inv =
    decode_of-even word (omega arith) ∙ inv ∙ ap (prepend (take i bytes)) (ap (decode_pairs (2 * i)) (drop_all (2 * i) word (omega arith)))
    ∙ ap Ok (append-nil (take i bytes) ∙ take_whole bytes i end)

pub pairs_good : (word bytes : List ℕ) → decode_of word ≡ Ok bytes → list_all is_hex_digit word ≡ true
pairs_good word bytes h = list_all-from_AllPass is_hex_digit word (decode_of-ok word bytes h).1

-- none was read
pub none_read : (r : Result (List ℕ) FromHexError) → r ≡ prepend [] r
none_read (Ok rest) = refl
none_read (Err e) = refl

-- ---- The values of all pairs so far, joined by `|`.

high_by : (a b : ℕ) → 255 < bit_or a b → (a < 256) ⊎ (256 ≤ a) → (b < 256) ⊎ (256 ≤ b) → (255 < a) ⊎ (255 < b)
high_by a b h (inr high) other = inl (omega (arith, high))
high_by a b h (inl low) (inr high) = inr (omega (arith, high))
high_by a b h (inl low) (inl lower) = absurd (omega (arith, h, or_of_8 a b low lower))

pub or_high : (a b : ℕ) → 255 < bit_or a b → (255 < a) ⊎ (255 < b)
or_high a b h = high_by a b h (cases_lt a 256) (cases_lt b 256)

low_by : (a : ℕ) (all : Bool) → (a < 256 → true ≡ all) → (255 < a → false ≡ all) → (a < 256) ⊎ (256 ≤ a) → ltb a 256 ≡ all
low_by a all good bad (inl low) = let yes : ltb a 256 ≡ true = grind (arith, nat_tests) in yes ∙ good low
low_by a all good bad (inr high) = let no : ltb a 256 ≡ false = grind (arith, nat_tests) in no ∙ bad (omega (arith, high))

pub is_low : (a : ℕ) (all : Bool) → (a < 256 → true ≡ all) → (255 < a → false ≡ all) → ltb a 256 ≡ all
is_low a all good bad = low_by a all good bad (cases_lt a 256)

pub below_256 : (a : ℕ) → ltb a 256 ≡ true → a < 256
below_256 a h = grind (arith, nat_tests)
