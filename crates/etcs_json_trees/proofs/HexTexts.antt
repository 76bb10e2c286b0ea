-- Hexadecimal digits in lower case and the number that they are.
use Rattle.std.proofs.Common.{◌≡◌, ℕ, zero, suc, ◌+◌, ◌*◌, ◌/◌, ◌%◌, ◌^◌, ◌<◌, ◌≤◌, true, false, List, [], ◌∷◌, ◌++◌, length, get_or, take, drop, refl, sym, ap, subst, ◌∙◌, arith, add-one, append_assoc}
use Rattle.std.specs.Prelude.{All, ◌==◌}
use Rattle.std.specs.Str.Parse.{digits_value}
use Rattle.std.specs.Char.{digit_value}
use Rattle.std.proofs.Math.Nat.{pow-le-pow_right}
use Rattle.std.proofs.Math.Seq.{drop-append_seam}
use Rattle.std.proofs.lemmas.Bool.{agree_below_at, eqb-true, eqb-false}
use Rattle.std.proofs.lemmas.Grind.{pow_more}
use Rattle.std.proofs.lemmas.Int.Digits.{digits_value_push}
use Rattle.std.proofs.lemmas.List.{drop-drop, drop_more, get_or-drop, length_push, take_more, take_all, take_at, take-append-drop}
use Rattle.std.proofs.lemmas.List.Elements.{All-nil, All-push}
use Rattle.etcs_packet_text.specs.Show.{hex_digit, hex_digits}
use Rattle.etcs_json_trees.specs.PairTexts.{hex_text}

pub hex_room : (i n : ℕ) → i < 16 → n < 16 ^ i → n < 1152921504606846976
hex_room i n small h = let p = pow-le-pow_right {n = 16} (omega arith) {i = i} {j = 15} (omega arith) in omega (arith, p, h)

pub length_hex : (k n : ℕ) → length (hex_digits k n) ≡ k
length_hex zero n = refl
length_hex (suc k) n = omega (arith, length_push (hex_digits k (n / 16)) (hex_digit (n % 16)), length_hex k (n / 16))

abbrev IsDigit : ℕ → Type 0
IsDigit c = (d : ℕ) × (d < 16) × (c ≡ hex_digit d)

are_digits : (k n : ℕ) → All IsDigit (hex_digits k n)
are_digits zero n = All-nil IsDigit
are_digits (suc k) n = All-push IsDigit (hex_digits k (n / 16)) (hex_digit (n % 16)) (are_digits k (n / 16)) (n % 16, omega arith, refl)

-- what is no digit is in no number
pub not_digit : (text : List ℕ) (i n : ℕ) → i < length text → text ≡ hex_text n → ((d : ℕ) → d < 16 → get_or text i 0 ≡ hex_digit d → ⊥) → ⊥
unfolding hex_text
not_digit text i n inside e other =
    let there : i < length (hex_digits 16 n) = subst (λ (z : List ℕ). i < length z) e inside in
    let (d, small, is) = are_digits 16 n i 0 there in
    other d small (ap (λ (z : List ℕ). get_or z i 0) e ∙ is)

pub length_text : (n : ℕ) → length (hex_text n) ≡ 16
unfolding hex_text
length_text n = length_hex 16 n

-- ---- One more digit.

pub hex_more : (i n d : ℕ) (text : List ℕ) → d < 16 → i < length text → take i text ≡ hex_digits i n → get_or text i 0 ≡ hex_digit d → take (i + 1) text ≡ hex_digits (i + 1) (n * 16 + d)
hex_more i n d text small inside e f =
    let above : (n * 16 + d) / 16 ≡ n = omega (arith, small) in
    let last : (n * 16 + d) % 16 ≡ d = omega (arith, small) in
    take_more text i 0 inside
    ∙ ap (λ (t : List ℕ). t ++ get_or text i 0 ∷ []) e
    ∙ ap (λ (x : ℕ). hex_digits i n ++ x ∷ []) f
    ∙ ap (λ (x : ℕ). hex_digits i x ++ hex_digit d ∷ []) (sym above)
    ∙ ap (λ (x : ℕ). hex_digits i ((n * 16 + d) / 16) ++ hex_digit x ∷ []) (sym last)
    ∙ ap (λ (k : ℕ). hex_digits k (n * 16 + d)) (sym (add-one i))

pub room_more : (i n d : ℕ) → d < 16 → n < 16 ^ i → n * 16 + d < 16 ^ (i + 1)
room_more i n d small h = omega (arith, small, h, pow_more 16 i)

pub all_digits : (i n : ℕ) (text : List ℕ) → length text ≡ 16 → length text ≤ i → i ≤ length text → take i text ≡ hex_digits i n → text ≡ hex_text n
unfolding hex_text
all_digits i n text long past inside e =
    let sixteen : i ≡ 16 = omega (arith, long, past, inside) in
    sym (take_all i text past) ∙ e ∙ ap (λ (k : ℕ). hex_digits k n) sixteen

-- ---- The value.

pub digit_of : (d : ℕ) → d < 16 → digit_value (hex_digit d) ≡ d
digit_of d h = eqb-true (digit_value (hex_digit d)) d (agree_below_at (λ x. digit_value (hex_digit x) == x) (λ x. true) 16 d refl h)

pub not_bracket : (d : ℕ) → d < 16 → hex_digit d ≡ 93 → ⊥
not_bracket d h = eqb-false (hex_digit d) 93 (agree_below_at (λ x. hex_digit x == 93) (λ x. false) 16 d refl h)

whole : (a d n : ℕ) → a ≡ n / 16 → d ≡ n % 16 → a * 16 + d ≡ n
whole a d n e f = omega (arith, e, f)

pub hex_value : (k n : ℕ) → n < 16 ^ k → digits_value 16 (hex_digits k n) ≡ n
hex_value zero n h = omega (arith, h)
hex_value (suc k) n h =
    let p = ap (λ (j : ℕ). 16 ^ j) (add-one k) in
    let q = pow_more 16 k in
    let above = hex_value k (n / 16) (omega (arith, h, p, q)) in
    digits_value_push 16 (hex_digits k (n / 16)) (hex_digit (n % 16))
    ∙ whole (digits_value 16 (hex_digits k (n / 16))) (digit_value (hex_digit (n % 16))) n above (digit_of (n % 16) (omega arith))

pub text_value : (n : ℕ) → n < 2 ^ 64 → digits_value 16 (hex_text n) ≡ n
unfolding hex_text
text_value n h = hex_value 16 n (omega (arith, h))

-- ---- Digits in quotes from a place on, and a bracket.

byte_at : (text s : List ℕ) (k b : ℕ) → drop k text ≡ b ∷ s → get_or text k 0 ≡ b
byte_at text s k b e =
    ap (λ (i : ℕ). get_or text i 0) (omega arith)
    ∙ sym (get_or-drop k text 0 0)
    ∙ ap (λ (z : List ℕ). get_or z 0 0) e

after_quote : (text : List ℕ) (at k : ℕ) → drop k (drop (at + 1) text) ≡ drop (at + 1 + k) text
after_quote text at k = drop-drop k (at + 1) text

pub quoted_parts : (text s : List ℕ) (at n : ℕ) → drop at text ≡ 34 ∷ ((hex_text n ++ 34 ∷ []) ++ 93 ∷ s) → (get_or text at 0 ≡ 34) × (get_or text (at + 17) 0 ≡ 34) × (get_or text (at + 18) 0 ≡ 93) × (take 16 (drop (at + 1) text) ≡ hex_text n)
quoted_parts text s at n e =
    let digits = hex_text n in
    let long = length_text n in
    let after : drop (at + 1) text ≡ digits ++ 34 ∷ 93 ∷ s = sym (drop-drop 1 at text) ∙ ap (drop 1) e ∙ append_assoc digits (34 ∷ []) (93 ∷ s) in
    let end : drop (at + 1 + 16) text ≡ 34 ∷ 93 ∷ s =
    sym (after_quote text at 16)
    ∙ ap (drop 16) after
    ∙ ap (λ (k : ℕ). drop k (digits ++ 34 ∷ 93 ∷ s)) (sym long)
    ∙ drop-append_seam digits (34 ∷ 93 ∷ s) in
    let last : drop (at + 1 + 16 + 1) text ≡ 93 ∷ s = sym (drop-drop 1 (at + 1 + 16) text) ∙ ap (drop 1) end in (
      byte_at text _ at 34 e,
      ap (λ (k : ℕ). get_or text k 0) (omega arith) ∙ byte_at text _ (at + 1 + 16) 34 end,
      ap (λ (k : ℕ). get_or text k 0) (omega arith) ∙ byte_at text _ (at + 1 + 16 + 1) 93 last,
      ap (take 16) after ∙ take_at digits (34 ∷ 93 ∷ s) 16 long,
    )

byte_there : (text : List ℕ) (k b : ℕ) → k < length text → get_or text k 0 ≡ b → drop k text ≡ b ∷ drop (k + 1) text
byte_there text k b inside e = drop_more text k 0 inside ∙ ap (λ (x : ℕ). x ∷ drop (k + 1) text) e

pub quoted_whole : (text : List ℕ) (at n : ℕ) → at + 19 ≤ length text → get_or text at 0 ≡ 34 → get_or text (at + 17) 0 ≡ 34 → get_or text (at + 18) 0 ≡ 93 → take 16 (drop (at + 1) text) ≡ hex_text n → drop at text ≡ 34 ∷ ((hex_text n ++ 34 ∷ []) ++ 93 ∷ drop (at + 19) text)
quoted_whole text at n inside first second last digits =
    let rest = drop (at + 19) text in
    let end : drop (at + 17) text ≡ 34 ∷ 93 ∷ rest =
    byte_there text (at + 17) 34 (omega (arith, inside)) second
    ∙ ap (λ (k : ℕ). 34 ∷ drop k text) (omega arith)
    ∙ ap (λ (z : List ℕ). 34 ∷ z) (byte_there text (at + 18) 93 (omega (arith, inside)) last)
    ∙ ap (λ (k : ℕ). 34 ∷ 93 ∷ drop k text) (omega arith) in
    let after : drop (at + 1) text ≡ hex_text n ++ 34 ∷ 93 ∷ rest =
    sym (take-append-drop 16 (drop (at + 1) text))
    ∙ ap (λ (z : List ℕ). z ++ drop 16 (drop (at + 1) text)) digits
    ∙ ap (λ (z : List ℕ). hex_text n ++ z) (after_quote text at 16 ∙ ap (λ (k : ℕ). drop k text) (omega arith) ∙ end) in
    byte_there text at 34 (omega (arith, inside)) first
    ∙ ap (λ (z : List ℕ). 34 ∷ z) (after ∙ sym (append_assoc (hex_text n) (34 ∷ []) (93 ∷ rest)))
