-- Which lines are good, and where the others aren't.
use Rattle.std.proofs.Common.{◌≡◌, ℕ, ◌%◌, ◌<◌, ◌≤◌, Bool, true, false, cond, eqb, ltb, not, List, [], length, get_or, Option, Some, None, Result, Ok, refl, ap, sym, ◌∙◌, arith, le_refl}
use Rattle.std.proofs.Math.Bool.{not-not}
use Rattle.std.proofs.lemmas.Bool.Decides.{nat_tests}
use Rattle.std.proofs.lemmas.List.Sums.{list_all-from_AllPass, position_or_len_is, prefix_len_passes}
use Rattle.std.specs.List.{AllPass, list_all, position, position_or_len}
use Rattle.std.specs.Result.{result_unwrap_or}
use Rattle.hex.specs.Hex.{decode_of, is_hex_digit}
use Rattle.hex.specs.declared.error.FromHexError.{FromHexError}
use Rattle.hex.proofs.HexLemmas.{decode_of-ok}
use Rattle.etcs_stream.specs.Lines.{bad_place, line_bytes}

cond_none : (b : Bool) (n : ℕ) (o : Option ℕ) → cond b (Some n) o ≡ None → (b ≡ false) × (o ≡ None)
cond_none true n o h = absurd cc
cond_none false n o h = (refl, h)

not_below : (m n : ℕ) → ltb m n ≡ false → n ≤ m
not_below m n h = grind (arith, nat_tests)

-- where the first other character is
abbrev other : List ℕ → ℕ
other line = position_or_len (λ c. not (is_hex_digit c)) line

all_before : (line : List ℕ) → ltb (other line) (length line) ≡ false → AllPass is_hex_digit line
all_before line none k d lt =
    let far : length line ≤ other line = not_below _ _ none in
    sym (not-not (is_hex_digit (get_or line k d))) ∙ prefix_len_passes (λ c. not (not (is_hex_digit c))) line k d (omega arith)

-- ---- A good line.

pub good_digits : (line : List ℕ) → bad_place line ≡ None → AllPass is_hex_digit line
good_digits line h =
    let short = cond_none (ltb 4096 (length line)) 4096 _ h in
    let even = cond_none (eqb (length line % 2) 1) (length line) _ short.1 in
    all_before line (cond_none (ltb (other line) (length line)) (other line) None even.1).0

no_other : (line : List ℕ) → AllPass is_hex_digit line → position (λ c. not (is_hex_digit c)) line ≡ None
no_other line h =
    let end : other line ≡ length line =
    position_or_len_is (λ c. not (is_hex_digit c)) line (length line) 0 (le_refl (length line)) (λ k lt. ap not (h k 0 lt)) (λ lt. absurd (omega arith))
    in
    let far : ltb (length line) (length line) ≡ false = grind (arith, nat_tests) in
    rw (end, far) refl

good_line : (line : List ℕ) → length line ≤ 4096 → length line % 2 ≡ 0 → AllPass is_hex_digit line → bad_place line ≡ None
good_line line short even digits =
    let fits : ltb 4096 (length line) ≡ false = grind (arith, nat_tests) in
    let whole : eqb (length line % 2) 1 ≡ false = grind (arith, nat_tests) in
    rw (fits, whole) (no_other line digits)

pub decoded_good : (line bytes : List ℕ) → length line ≤ 4096 → decode_of line ≡ Ok bytes → bad_place line ≡ None
decoded_good line bytes short h = let ok = decode_of-ok line bytes h in good_line line short ok.0 ok.1

pub decoded_bytes : (line bytes : List ℕ) → decode_of line ≡ Ok bytes → bytes ≡ line_bytes line
decoded_bytes line bytes h = sym (ap (λ (r : Result (List ℕ) FromHexError). result_unwrap_or r []) h)

-- ---- One that isn't.

not_false : (b : Bool) → (b ≡ false → ⊥) → b ≡ true
not_false true h = refl
not_false false h = absurd (h refl)

bad_within : (line : List ℕ) → list_all is_hex_digit line ≡ false → ltb (other line) (length line) ≡ true
bad_within line bad = not_false (ltb (other line) (length line)) (λ end.
    let all : list_all is_hex_digit line ≡ true = list_all-from_AllPass is_hex_digit line (all_before line end) in
    absurd cc)

pub bad_first : (line : List ℕ) (place : ℕ) → length line ≤ 4096 → (length line % 2 ≡ 1 → ⊥) → list_all is_hex_digit line ≡ false → place ≡ other line → bad_place line ≡ Some place
bad_first line place short even bad is =
    let fits : ltb 4096 (length line) ≡ false = grind (arith, nat_tests) in
    let whole : eqb (length line % 2) 1 ≡ false = grind (arith, nat_tests) in
    let within : ltb (other line) (length line) ≡ true = bad_within line bad in
    rw (fits, whole, within) (ap Some (sym is))
