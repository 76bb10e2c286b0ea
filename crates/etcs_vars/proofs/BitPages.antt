-- Numbers put after bits, over bytes.
use Rattle.std.proofs.Common.{◌≡◌, ℕ, zero, suc, ◌+◌, ◌-◌, ◌*◌, ◌/◌, ◌%◌, ◌^◌, ◌<◌, ◌≤◌, Bool, List, ◌++◌, length, take, drop, get_or, refl, sym, ap, subst, ◌∙◌, arith, append_assoc}
use Rattle.std.proofs.lemmas.List.{length-append, length-take, length-take-le, take-take, drop-take}
use Rattle.std.proofs.Math.Seq.{take-add, take-append-add}
use Rattle.std.proofs.Math.Pow.{pow_mono}
use Rattle.etcs_bits.specs.Bits.{num, bits, replaced}
use Rattle.etcs_bits.proofs.ByteBits.{bits-part}
use Rattle.etcs_bits.proofs.Numbers.{num-add}
use Rattle.etcs_vars.specs.Words.{with_front}
use Rattle.etcs_vars.proofs.Prefixes.{take-num, quotient_below}
use Rattle.etcs_vars.proofs.Stepping.{parts_fit, next_number}
use Rattle.etcs_vars.proofs.LowestBits.{num-low}
use Rattle.etcs_vars.proofs.WordSinks.{front_first}
use Rattle.etcs_vars.proofs.Words.{top, top_bits}

-- a number on top of a word, as the code finds it
on_top : (n x : ℕ) → n ≤ 64 → x < 2 ^ n → x * 2 ^ ((64 - n) % 64) % 2 ^ 64 ≡ top n x
on_top zero x most fits = let none : x ≡ 0 = omega (arith, fits) in rw none refl
on_top (suc n) x most fits = let same : (64 - suc n) % 64 ≡ 64 - suc n = omega (arith, most) in ap (λ (k : ℕ). x * 2 ^ k % 2 ^ 64) same

-- the first bits of a byte, and a number after them
pub record After (byte o w number : ℕ) : Type 0 where
  pub before : byte / 2 ^ (8 - o) * 2 ^ w % 2 ^ 64 ≡ byte / 2 ^ (8 - o) * 2 ^ w
  pub fits : byte / 2 ^ (8 - o) * 2 ^ w + number < 2 ^ (o + w)
  pub word : byte / 2 ^ (8 - o) * 2 ^ w + number < 2 ^ 64
  pub bits_are : num (o + w) (byte / 2 ^ (8 - o) * 2 ^ w + number) ≡ take o (num 8 byte) ++ num w number

pub after : (byte o w number : ℕ) → byte < 2 ^ 8 → o ≤ 7 → w ≤ 57 → number < 2 ^ w → After byte o w number
after byte o w number small few most below =
    let s = 8 - o in
    let first = byte / 2 ^ s in
    let eight : 8 ≡ o + s = omega (arith, few) in
    let high : first < 2 ^ o = quotient_below byte o s (subst (λ (k : ℕ). byte < 2 ^ k) eight small) in
    let fits : first * 2 ^ w + number < 2 ^ (o + w) = parts_fit o w first number high below in
    let wide : 2 ^ (o + w) ≤ 2 ^ 64 = (let le : o + w ≤ 64 = omega (arith, few, most) in pow_mono le) in
    let word : first * 2 ^ w + number < 2 ^ 64 = omega (arith, fits, wide) in
    record {
      before = (let k = first * 2 ^ w in let lt : k < 2 ^ 64 = omega (arith, word) in omega (arith, lt));
      fits = fits;
      word = word;
      bits_are =
          next_number o w first number below
          ∙ ap (λ (l : List Bool). l ++ num w number) (sym (ap (λ (k : ℕ). take o (num k byte)) eight ∙ take-num o s byte));
    }

-- a number put after the first len bits
pub put_after : (bytes new : List ℕ) (len w number byte word : ℕ) → byte ≡ get_or bytes (len / 8) 0 → byte < 2 ^ 8 → w ≤ 57 → number < 2 ^ w → len / 8 + 8 ≤ length bytes → word ≡ (byte / 2 ^ (8 - len % 8) * 2 ^ w % 2 ^ 64 + number) * 2 ^ ((64 - w - len % 8) % 64) % 2 ^ 64 → new ≡ with_front bytes (len / 8) word 8 → take (len + w) (bits new) ≡ take len (bits bytes) ++ num w number
put_after bytes new len w number byte word here small most below room found wrote =
    let at = len / 8 in
    let o = len % 8 in
    let x = byte / 2 ^ (8 - o) * 2 ^ w + number in
    let few : o ≤ 7 = omega arith in
    let place : len ≡ 8 * at + o = omega arith in
    let all : len + w ≡ 8 * at + (o + w) = omega arith in
    let n = o + w in
    let wide : n ≤ 64 = omega (arith, few, most) in
    let a = after byte o w number small few most below in
    let shift : 64 - w - o ≡ 64 - n = omega (arith, wide) in
    let is : word ≡ top n x =
    found
    ∙ ap (λ (k : ℕ). (k + number) * 2 ^ ((64 - w - o) % 64) % 2 ^ 64) a.before
    ∙ ap (λ (k : ℕ). x * 2 ^ (k % 64) % 2 ^ 64) shift
    ∙ on_top n x wide a.fits in
    let fits : word < 2 ^ 64 = omega (arith, is) in
    let front = take (8 * at) (bits bytes) in
    let first = take o (num 8 byte) in
    let byte_bits : take o (drop (8 * at) (bits bytes)) ≡ first =
    bits-part bytes at (8 * at) 0 o (omega (arith, room)) (omega arith) (omega (arith, few)) ∙ ap (λ (k : ℕ). take o (num 8 k)) (sym here) in
    let before : take len (bits bytes) ≡ front ++ first =
    ap (λ (k : ℕ). take k (bits bytes)) place ∙ take-add (8 * at) o (bits bytes) ∙ ap (λ (l : List Bool). front ++ l) byte_bits in
    ap (λ (k : ℕ). take k (bits new)) all
    ∙ ap (λ (l : List ℕ). take (8 * at + n) (bits l)) wrote
    ∙ front_first bytes at word 8 n fits (omega (arith, room)) (omega arith) (omega (arith, wide))
    ∙ ap (λ (l : List Bool). front ++ l) (ap (λ (k : ℕ). take n (num 64 k)) is ∙ top_bits n x wide ∙ a.bits_are)
    ∙ sym (append_assoc front first (num w number))
    ∙ ap (λ (l : List Bool). l ++ num w number) (sym before)

-- the same, as a page finds it
pub put_over : (bs new seen x : List Bool) (len at w : ℕ) → take len bs ≡ seen → at + w ≤ length seen → length x ≡ w → new ≡ replaced at x bs → take len new ≡ take at seen ++ (x ++ drop (at + w) seen)
put_over bs new seen x len at w is inside wide wrote =
    let size : length seen ≤ len = omega (arith, ap length is, length-take len bs) in
    let all : length seen ≤ length bs = omega (arith, ap length is, length-take len bs) in
    let front = take at bs ++ x in
    let n = len - (at + w) in
    let place : len ≡ length front + n = omega (arith, length-append (take at bs) x, length-take-le at bs (omega (arith, all, inside)), wide, inside, size) in
    let order : len ≡ at + w + n = omega (arith, inside, size) in
    let rest : take n (drop (at + length x) bs) ≡ drop (at + w) seen =
    ap (λ (k : ℕ). take n (drop (at + k) bs)) wide ∙ sym (drop-take (at + w) n bs) ∙ ap (λ (k : ℕ). drop (at + w) (take k bs)) (sym order) ∙ ap (drop (at + w)) is in
    let first : take at bs ≡ take at seen = sym (take-take at len bs (omega (arith, inside, size))) ∙ ap (take at) is in
    ap (take len) wrote
    ∙ ap (λ (k : ℕ). take k (front ++ drop (at + length x) bs)) place
    ∙ take-append-add front (drop (at + length x) bs) n
    ∙ ap (λ (l : List Bool). front ++ l) rest
    ∙ append_assoc (take at bs) x (drop (at + w) seen)
    ∙ ap (λ (l : List Bool). l ++ (x ++ drop (at + w) seen)) first

-- a number put in two parts
pub put_both : (s one two : List Bool) (wide number : ℕ) → 32 ≤ wide → one ≡ s ++ num (wide - 32) (number / 2 ^ 32) → two ≡ one ++ num 32 (number % 2 ^ 32) → two ≡ s ++ num wide number
put_both s one two wide number least e f =
    let all : wide ≡ wide - 32 + 32 = omega (arith, least) in
    let first = num (wide - 32) (number / 2 ^ 32) in
    let whole : num wide number ≡ first ++ num 32 number = ap (λ (k : ℕ). num k number) all ∙ num-add (wide - 32) 32 number in
    f
    ∙ ap (λ (l : List Bool). one ++ l) (num-low 32 number)
    ∙ ap (λ (l : List Bool). l ++ num 32 number) e
    ∙ append_assoc s first (num 32 number)
    ∙ ap (λ (l : List Bool). s ++ l) (sym whole)
