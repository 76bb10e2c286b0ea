-- An owned list of bits: as few bytes as hold it.
use Rattle.std.proofs.Common.{◌≡◌, ℕ, suc, ◌+◌, ◌-◌, ◌*◌, ◌^◌, ◌<◌, ◌≤◌, Bool, true, false, List, [], ◌∷◌, ◌++◌, length, take, drop, get_or, replicate, refl, sym, ap, ◌∙◌, arith}
use Rattle.std.proofs.lemmas.List.{length-append, length-take, length-replicate, take-append-le, take-take, take_all, take_at, drop_at, take-append-drop}
use Rattle.etcs_bits.specs.Bits.{num, bits, replaced}
use Rattle.etcs_bits.proofs.Numbers.{length-num, num_same}
use Rattle.etcs_bits.proofs.Positions.{length-bits}
use Rattle.etcs_bits.proofs.Lists.{length-replaced}
use Rattle.etcs_bits.proofs.ByteBits.{bits-append}
use mir.Val.{bool_byte}

-- what is written after the end
pub pushed_bits : (bytes new : List ℕ) (len m : ℕ) (x : List Bool) → len ≤ 8 * length bytes → bits new ≡ replaced len x (bits (bytes ++ replicate m 0)) → take (len + length x) (bits new) ≡ take len (bits bytes) ++ x
pushed_bits bytes new len m x h e =
    let zeros = bits (replicate m 0) in
    let whole : bits (bytes ++ replicate m 0) ≡ bits bytes ++ zeros = bits-append bytes (replicate m 0) in
    let inside : len ≤ length (bits bytes) = omega (arith, length-bits bytes) in
    let front : take len (bits (bytes ++ replicate m 0)) ≡ take len (bits bytes) = ap (take len) whole ∙ take-append-le len (bits bytes) zeros inside in
    let rest = drop (len + length x) (bits (bytes ++ replicate m 0)) in
    let made : bits new ≡ take len (bits bytes) ++ x ++ rest = e ∙ ap (λ l. l ++ x ++ rest) front in
    let size : length (take len (bits bytes) ++ x) ≡ len + length x = omega (arith, length-append (take len (bits bytes)) x, length-take len (bits bytes)) in
    ap (take (len + length x)) made ∙ take_at (take len (bits bytes) ++ x) rest (len + length x) size

-- bytes left out at the end
pub bits-take : (bytes : List ℕ) (i : ℕ) → i ≤ length bytes → bits (take i bytes) ≡ take (8 * i) (bits bytes)
bits-take bytes i h =
    let size : length (bits (take i bytes)) ≡ 8 * i = omega (arith, length-bits (take i bytes), length-take i bytes) in
    let whole : bits bytes ≡ bits (take i bytes) ++ bits (drop i bytes) = ap bits (sym (take-append-drop i bytes)) ∙ bits-append (take i bytes) (drop i bytes) in
    sym (ap (take (8 * i)) whole ∙ take_at (bits (take i bytes)) (bits (drop i bytes)) (8 * i) size)

pub length-owned : (bytes : List ℕ) (seen : List Bool) (len : ℕ) → take len (bits bytes) ≡ seen → len ≤ 8 * length bytes → length seen ≡ len
length-owned bytes seen len e h = sym (ap length e) ∙ omega (arith, length-take len (bits bytes), length-bits bytes)

-- a write leaves as many bytes as there were
pub length-written : (slice new : List ℕ) (at : ℕ) (x : List Bool) → at + length x ≤ 8 * length slice → bits new ≡ replaced at x (bits slice) → length new ≡ length slice
length-written slice new at x h e =
    omega (arith, length-bits new, length-bits slice, ap length e, length-replaced at x (bits slice) (omega (arith, length-bits slice)))

-- what a `Bits` keeps true of its fields
pub record Packed (bytes : List ℕ) (len : ℕ) : Type 0 where
  pub inside : len ≤ 8 * length bytes
  pub short : 8 * length bytes < len + 8

-- bytes grown by zeros, and a number written after the old end
pub grown : (bytes slice : List ℕ) (count size : ℕ) → length bytes ≡ count → count ≤ size → slice ≡ take size bytes ++ replicate (size - count) 0 → (slice ≡ bytes ++ replicate (size - count) 0) × (length slice ≡ size)
grown bytes slice count size n h e =
    let zeros = replicate {A = ℕ} (size - count) 0 in
    let whole : slice ≡ bytes ++ zeros = e ∙ ap (λ l. l ++ zeros) (take_all size bytes (omega arith)) in
    let many : length zeros ≡ size - count = length-replicate {A = ℕ} (size - count) 0 in
    (whole, omega (arith, ap length whole, length-append bytes zeros, many))

pub Packed-pushed : (bytes slice new : List ℕ) (count len size : ℕ) (x : List Bool) → Packed bytes len → length bytes ≡ count → count ≤ size → len + length x ≤ 8 * size → 8 * size < len + length x + 8 → slice ≡ take size bytes ++ replicate (size - count) 0 → bits new ≡ replaced len x (bits slice) → Packed new (len + length x) × (take (len + length x) (bits new) ≡ take len (bits bytes) ++ x)
Packed-pushed bytes slice new count len size x p n h inside short e w =
    let g = grown bytes slice count size n h e in
    let written : bits new ≡ replaced len x (bits (bytes ++ replicate (size - count) 0)) = w ∙ ap (λ l. replaced len x (bits l)) g.0 in
    let same : length new ≡ length slice = length-written slice new len x (omega (arith, g.1)) w in (
      record {
        inside = omega (arith, same, g.1);
        short = omega (arith, same, g.1);
      },
      pushed_bits bytes new len (size - count) x p.inside written,
    )

-- the same of the bytes that are then held
pub pushed : (bytes slice new held : List ℕ) (count len size n : ℕ) (x : List Bool) → length bytes ≡ count → (len ≤ 8 * length bytes) × (8 * length bytes < len + 8) → len + n ≤ 8 * size → 8 * size < len + n + 8 → length x ≡ n → slice ≡ take size bytes ++ replicate (size - count) 0 → bits new ≡ replaced len x (bits slice) → (length new ≡ length slice → held ≡ new) → ((len + n ≤ 8 * length held) × (8 * length held < len + n + 8)) × (take (len + n) (bits held) ≡ take len (bits bytes) ++ x)
pushed bytes slice new held count len size n x is p inside short many e w keeps =
    let old : Packed bytes len = record { inside = p.0; short = p.1 } in
    let fits : count ≤ size = omega (arith, is, p, inside, short) in
    let now = Packed-pushed bytes slice new count len size x old is fits (omega (arith, many, inside)) (omega (arith, many, short)) e w in
    let g = grown bytes slice count size is fits e in
    let kept : held ≡ new = keeps (length-written slice new len x (omega (arith, g.1, many, inside)) w) in
    let at : len + length x ≡ len + n = ap (λ k. len + k) many in
    let long : length held ≡ length new = ap length kept in
    ((omega (arith, now.0.inside, long, many), omega (arith, now.0.short, long, many)), ap (λ l. take (len + n) (bits l)) kept ∙ ap (λ k. take k (bits new)) (sym at) ∙ now.1)

-- bytes cut
pub cut : (bytes held : List ℕ) (old len size : ℕ) → (old ≤ 8 * length bytes) × (8 * length bytes < old + 8) → len ≤ old → len ≤ 8 * size → 8 * size < len + 8 → held ≡ take size bytes → ((len ≤ 8 * length held) × (8 * length held < len + 8)) × (take len (bits held) ≡ take len (take old (bits bytes)))
cut bytes held old len size p h whole short e =
    let fits : size ≤ length bytes = omega (arith, p, h, short) in
    let many : length held ≡ size = ap length e ∙ omega (arith, length-take size bytes, fits) in
    ((omega (arith, many, whole), omega (arith, many, short)), ap (λ l. take len (bits l)) e ∙ ap (take len) (bits-take bytes size fits) ∙ take-take len (8 * size) (bits bytes) whole ∙ sym (take-take len old (bits bytes) h))

-- equal bits, equal bytes
pub bits_same : (xs ys : List ℕ) → ((i : ℕ) → get_or xs i 0 < 2 ^ 8) → ((i : ℕ) → get_or ys i 0 < 2 ^ 8) → bits xs ≡ bits ys → xs ≡ ys
unfolding bits
bits_same [] [] hx hy e = refl
bits_same [] (y ∷ ys) hx hy e = absurd (omega (arith, ap length e, length-append (num 8 y) (bits ys), length-num 8 y))
bits_same (x ∷ xs) [] hx hy e = absurd (omega (arith, ap length e, length-append (num 8 x) (bits xs), length-num 8 x))
bits_same (x ∷ xs) (y ∷ ys) hx hy e =
    let first : num 8 x ≡ num 8 y = sym (take_at (num 8 x) (bits xs) 8 (length-num 8 x)) ∙ ap (take 8) e ∙ take_at (num 8 y) (bits ys) 8 (length-num 8 y) in
    let rest : bits xs ≡ bits ys = sym (drop_at (num 8 x) (bits xs) 8 (length-num 8 x)) ∙ ap (drop 8) e ∙ drop_at (num 8 y) (bits ys) 8 (length-num 8 y) in
    let head : x ≡ y = num_same 8 x y (hx 0) (hy 0) first in
    let tail : xs ≡ ys = bits_same xs ys (λ i. hx (suc i)) (λ i. hy (suc i)) rest in
    cc

one_bit : (b : Bool) → num 1 (bool_byte b) ≡ b ∷ []
unfolding num
one_bit true = refl
one_bit false = refl

pub pushed_bit : (b : Bool) (n : ℕ) → n ≡ bool_byte b → num 1 n ≡ b ∷ []
pushed_bit b n e = ap (num 1) e ∙ one_bit b
