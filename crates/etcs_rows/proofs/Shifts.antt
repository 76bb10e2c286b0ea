-- A set of words shifted up holds what the set held.
use Rattle.std.proofs.Common.{◌≡◌, ℕ, ◌+◌, ◌-◌, ◌*◌, ◌/◌, ◌%◌, ◌^◌, ◌<◌, ◌≤◌, List, length, get_or, Bool, true, false, refl, sym, ap, ◌∙◌, arith, ltb, max}
use Rattle.std.specs.Prelude.{◌==◌, if◌then◌else◌}
use Rattle.std.specs.Int.{bit_at}
use Rattle.std.proofs.lemmas.Bool.{lt-ltb, le-ltb, ltb-true, ltb-false}
use Rattle.std.proofs.lemmas.List.{get_or_past}
use Rattle.std.proofs.lemmas.Nat.{shr_split, mod_below, pow_pos}
use Rattle.std.proofs.lemmas.Nat.Bits.{bit_at_or, bit_at_cat_low, bit_at_cat_high, bit_at-zero, bit_at_above}
use Rattle.etcs_rows.specs.Sets.{member, moved_word, shifted_word, raised_word}

-- bits below the width stay when the number is cut
pub bit_cut : (n w i : ℕ) → i < w → bit_at (n % 2 ^ w) i ≡ bit_at n i
bit_cut n w i h = sym (bit_at_cat_low (n / 2 ^ w) w (n % 2 ^ w) i h) ∙ ap (λ x. bit_at x i) (shr_split n w)

pub bit_shr : (n k i j : ℕ) → k + i ≡ j → bit_at (n / 2 ^ k) i ≡ bit_at n j
bit_shr n k i j e =
    let at : j - k ≡ i = omega arith in
    sym (ap (λ x. bit_at n x) refl ∙ ap (λ x. bit_at x j) (sym (shr_split n k)) ∙ bit_at_cat_high (n / 2 ^ k) k (n % 2 ^ k) j (mod_below n (2 ^ k) (pow_pos k)) (omega arith) ∙ ap (λ x. bit_at (n / 2 ^ k) x) at)

pub bit_shl_low : (n k i : ℕ) → i < k → bit_at (n * 2 ^ k) i ≡ 0
bit_shl_low n k i h = let e : n * 2 ^ k ≡ n * 2 ^ k + 0 = omega arith in ap (λ x. bit_at x i) e ∙ bit_at_cat_low n k 0 i h ∙ bit_at-zero i

pub bit_shl_high : (n k i : ℕ) → k ≤ i → bit_at (n * 2 ^ k) i ≡ bit_at n (i - k)
bit_shl_high n k i h = let e : n * 2 ^ k ≡ n * 2 ^ k + 0 = omega arith in ap (λ x. bit_at x i) e ∙ bit_at_cat_high n k 0 i (pow_pos k) h

-- the bits of a shifted word: those of the word from by on, and under them the top ones of the word before
shifted_high : (by x y j : ℕ) → by < 64 → y < 2 ^ 64 → by ≤ j → j < 64 → bit_at (shifted_word by x y) j ≡ bit_at x (j - by)
shifted_high by x y j hb hy h hj =
    let first : bit_at (x * 2 ^ by % 2 ^ 64) j ≡ bit_at x (j - by) = bit_cut (x * 2 ^ by) 64 j hj ∙ bit_shl_high x by j h in
    let at : 1 + ((63 - by) + j) ≡ 64 - by + j = omega arith in
    let second : bit_at (y / 2 ^ 1 / 2 ^ (63 - by)) j ≡ 0 = bit_shr (y / 2 ^ 1) (63 - by) j ((63 - by) + j) refl ∙ bit_shr y 1 ((63 - by) + j) (64 - by + j) at ∙ bit_at_above y 64 (64 - by + j) hy (omega arith) in
    bit_at_or (x * 2 ^ by % 2 ^ 64) (y / 2 ^ 1 / 2 ^ (63 - by)) j ∙ rw (first, second) (let t : max (bit_at x (j - by)) 0 ≡ bit_at x (j - by) = omega arith in t)

shifted_low : (by x y j : ℕ) → by < 64 → j < by → bit_at (shifted_word by x y) j ≡ bit_at y (64 + j - by)
shifted_low by x y j hb h =
    let first : bit_at (x * 2 ^ by % 2 ^ 64) j ≡ 0 = bit_cut (x * 2 ^ by) 64 j (omega arith) ∙ bit_shl_low x by j h in
    let at : 1 + ((63 - by) + j) ≡ 64 + j - by = omega arith in
    let second : bit_at (y / 2 ^ 1 / 2 ^ (63 - by)) j ≡ bit_at y (64 + j - by) = bit_shr (y / 2 ^ 1) (63 - by) j ((63 - by) + j) refl ∙ bit_shr y 1 ((63 - by) + j) (64 + j - by) at in
    bit_at_or (x * 2 ^ by % 2 ^ 64) (y / 2 ^ 1 / 2 ^ (63 - by)) j ∙ rw (first, second) (let t : max 0 (bit_at y (64 + j - by)) ≡ bit_at y (64 + j - by) = omega arith in t)

-- a number of words by its place
pub member_at : (ws : List ℕ) (m i j : ℕ) → m ≡ i * 64 + j → j < 64 → member ws m ≡ (bit_at (get_or ws i 0) j == 1)
member_at ws m i j e h =
    let a : m / 64 ≡ i = omega arith in
    let b : m % 64 ≡ j = omega arith in
    rw (a, b) refl

pub moved_in : (by : ℕ) (ws : List ℕ) (i : ℕ) → by ≤ i → moved_word by ws i ≡ get_or ws (i - by) 0
moved_in by ws i h = let t : ltb i by ≡ false = le-ltb _ _ h in rw t refl

pub moved_under : (by : ℕ) (ws : List ℕ) (i : ℕ) → i < by → moved_word by ws i ≡ 0
moved_under by ws i h = let t : ltb i by ≡ true = lt-ltb _ _ h in rw t refl

by_case : (b : Bool) {x : ℕ} → x < 2 ^ 64 → (if b then 0 else x) < 2 ^ 64
by_case true h = omega arith
by_case false h = h

moved_below : (by : ℕ) (ws : List ℕ) (i : ℕ) → ((k : ℕ) → get_or ws k 0 < 2 ^ 64) → moved_word by ws i < 2 ^ 64
moved_below by ws i h = by_case (ltb i by) (h (i - by))

not_one : (x : ℕ) → x ≡ 0 → (x == 1) ≡ false
not_one x e = rw e refl

over_word : (ws : List ℕ) (q r i j k : ℕ) → ((k : ℕ) → get_or ws k 0 < 2 ^ 64) → r < 64 → j < 64 → k + (q * 64 + r) ≡ i * 64 + j → r ≤ j → (bit_at (shifted_word r (moved_word q ws i) (moved_word (q + 1) ws i)) j == 1) ≡ member ws k
over_word ws q r i j k fit hr hj e h =
    let inside : q ≤ i = omega arith in
    let word = shifted_high r (moved_word q ws i) (moved_word (q + 1) ws i) j hr (moved_below (q + 1) ws i fit) h hj ∙ ap (λ x. bit_at x (j - r)) (moved_in q ws i inside) in
    ap (λ x. x == 1) word ∙ sym (member_at ws k (i - q) (j - r) (omega arith) (omega arith))

across_words : (ws : List ℕ) (q r i j k : ℕ) → r < 64 → j < 64 → k + (q * 64 + r) ≡ i * 64 + j → j < r → (bit_at (shifted_word r (moved_word q ws i) (moved_word (q + 1) ws i)) j == 1) ≡ member ws k
across_words ws q r i j k hr hj e h =
    let inside : q + 1 ≤ i = omega arith in
    let word = shifted_low r (moved_word q ws i) (moved_word (q + 1) ws i) j hr h ∙ ap (λ x. bit_at x (64 + j - r)) (moved_in (q + 1) ws i inside) in
    ap (λ x. x == 1) word ∙ sym (member_at ws k (i - (q + 1)) (64 + j - r) (omega arith) (omega arith))

under_word : (ws : List ℕ) (q r i j : ℕ) → ((k : ℕ) → get_or ws k 0 < 2 ^ 64) → r < 64 → j < 64 → i * 64 + j < q * 64 + r → r ≤ j → (bit_at (shifted_word r (moved_word q ws i) (moved_word (q + 1) ws i)) j == 1) ≡ false
under_word ws q r i j fit hr hj e h =
    let outside : i < q = omega arith in
    let word = shifted_high r (moved_word q ws i) (moved_word (q + 1) ws i) j hr (moved_below (q + 1) ws i fit) h hj ∙ ap (λ x. bit_at x (j - r)) (moved_under q ws i outside) ∙ bit_at-zero (j - r) in
    not_one _ word

under_words : (ws : List ℕ) (q r i j : ℕ) → r < 64 → j < 64 → i * 64 + j < q * 64 + r → j < r → (bit_at (shifted_word r (moved_word q ws i) (moved_word (q + 1) ws i)) j == 1) ≡ false
under_words ws q r i j hr hj e h =
    let outside : i < q + 1 = omega arith in
    let word = shifted_low r (moved_word q ws i) (moved_word (q + 1) ws i) j hr h ∙ ap (λ x. bit_at x (64 + j - r)) (moved_under (q + 1) ws i outside) ∙ bit_at-zero (64 + j - r) in
    not_one _ word

below_or_not : {A : Type 0} (j r : ℕ) (b : Bool) → ltb j r ≡ b → (j < r → A) → (r ≤ j → A) → A
below_or_not j r true e f g = f (ltb-true j r e)
below_or_not j r false e f g = g (ltb-false j r e)

-- a number that the shift moves up
pub raised_member : (ws : List ℕ) (by m k : ℕ) → ((k : ℕ) → get_or ws k 0 < 2 ^ 64) → k + by ≡ m → (bit_at (raised_word by ws (m / 64)) (m % 64) == 1) ≡ member ws k
raised_member ws by m k fit e =
    let q = by / 64 in let r = by % 64 in let i = m / 64 in let j = m % 64 in
    let hr : r < 64 = omega arith in let hj : j < 64 = omega arith in
    let f : k + (q * 64 + r) ≡ i * 64 + j = omega arith in
    below_or_not j r (ltb j r) refl (across_words ws q r i j k hr hj f) (over_word ws q r i j k fit hr hj f)

-- and no others
pub raised_under : (ws : List ℕ) (by m : ℕ) → ((k : ℕ) → get_or ws k 0 < 2 ^ 64) → m < by → (bit_at (raised_word by ws (m / 64)) (m % 64) == 1) ≡ false
raised_under ws by m fit h =
    let q = by / 64 in let r = by % 64 in let i = m / 64 in let j = m % 64 in
    let hr : r < 64 = omega arith in let hj : j < 64 = omega arith in
    let f : i * 64 + j < q * 64 + r = omega arith in
    below_or_not j r (ltb j r) refl (under_words ws q r i j hr hj f) (under_word ws q r i j fit hr hj f)

-- no number past the last word
pub member_small : (ws : List ℕ) (m : ℕ) → length ws ≡ 128 → member ws m ≡ true → m ≤ 8191
member_small ws m len h =
    below_or_not (m / 64) 128 (ltb (m / 64) 128) refl (λ s. omega arith)
    (λ s. let past : member ws m ≡ false = ap (λ x. bit_at x (m % 64) == 1) (get_or_past ws (m / 64) 0 (omega arith)) ∙ not_one _ (bit_at-zero (m % 64)) in absurd (let t : true ≡ false = sym h ∙ past in cc))
