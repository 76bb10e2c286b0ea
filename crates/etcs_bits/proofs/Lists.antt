-- Parts of lists of bits, and lists with a part replaced.
use Rattle.std.proofs.Common.{◌≡◌, ℕ, ◌+◌, ◌-◌, ◌*◌, ◌^◌, ◌≤◌, Bool, List, [], ◌++◌, length, take, drop, sym, ap, ◌∙◌, append_assoc, arith}
use Rattle.std.proofs.lemmas.List.{length-append, length-take, length-take-le, length-drop, take-append-le, drop-append-le, take_at, drop-drop, drop-take, take-take, append-nil, take-append-drop}
use Rattle.std.proofs.Math.Seq.{take-add, take-append-add, drop-append-add}
use Rattle.etcs_bits.specs.Bits.{value, part, replaced}
use Rattle.etcs_bits.proofs.Numbers.{value-append}

pub length-part : (s c : ℕ) (bs : List Bool) → s + c ≤ length bs → length (part s c bs) ≡ c
length-part s c bs h = length-take-le c (drop s bs) (omega (arith, length-drop s bs))

-- a part of a part that was left
pub part-drop : (a s c : ℕ) (bs : List Bool) → part s c (drop a bs) ≡ part (a + s) c bs
part-drop a s c bs = ap (take c) (drop-drop s a bs)

-- a part of a part
pub part-part : (a n s c : ℕ) (bs : List Bool) → s + c ≤ n → part s c (part a n bs) ≡ part (a + s) c bs
part-part a n s c bs h =
    let size : n ≡ s + (n - s) = omega arith in
    let beyond : drop s (take n (drop a bs)) ≡ take (n - s) (drop s (drop a bs)) = ap (λ k. drop s (take k (drop a bs))) size ∙ drop-take s (n - s) (drop a bs) in
    ap (take c) beyond ∙ take-take c (n - s) (drop s (drop a bs)) (omega arith) ∙ part-drop a s c bs

-- a part, cut in two
pub part-add : (s k c : ℕ) (bs : List Bool) → part s (k + c) bs ≡ part s k bs ++ part (s + k) c bs
part-add s k c bs = take-add k c (drop s bs) ∙ ap (λ l. part s k bs ++ take c l) (drop-drop k s bs)

-- a number, cut in two
pub value-part_add : (s k c : ℕ) (bs : List Bool) → s + (k + c) ≤ length bs → value (part s (k + c) bs) ≡ value (part s k bs) * 2 ^ c + value (part (s + k) c bs)
value-part_add s k c bs h =
    let l : length (part (s + k) c bs) ≡ c = length-part (s + k) c bs (omega arith) in
    ap value (part-add s k c bs) ∙ value-append (part s k bs) (part (s + k) c bs) ∙ ap (λ n. value (part s k bs) * 2 ^ n + value (part (s + k) c bs)) l

-- a part after a first list
pub part-append_right : (p q : List Bool) (n o c : ℕ) → n ≡ length p + o → part n c (p ++ q) ≡ part o c q
part-append_right p q n o c e = ap (λ k. part k c (p ++ q)) e ∙ ap (take c) (drop-append-add p q o)

-- a part inside the first list
pub part-append_left : (p q : List Bool) (o c : ℕ) → o + c ≤ length p → part o c (p ++ q) ≡ part o c p
part-append_left p q o c h =
    ap (take c) (drop-append-le o p q (omega arith)) ∙ take-append-le c (drop o p) q (omega (arith, length-drop o p))

pub length-replaced : (s : ℕ) (new bs : List Bool) → s + length new ≤ length bs → length (replaced s new bs) ≡ length bs
length-replaced s new bs h = omega (arith, length-append (take s bs ++ new) (drop (s + length new) bs), length-append (take s bs) new, length-take s bs, length-drop (s + length new) bs)

-- a part replaced after a first list
pub replaced-append_right : (p q new : List Bool) (n o : ℕ) → n ≡ length p + o → replaced n new (p ++ q) ≡ p ++ replaced o new q
replaced-append_right p q new n o e =
    let t : take n (p ++ q) ≡ p ++ take o q = ap (λ k. take k (p ++ q)) e ∙ take-append-add p q o in
    let m : n + length new ≡ length p + (o + length new) = omega arith in
    let d : drop (n + length new) (p ++ q) ≡ drop (o + length new) q = ap (λ k. drop k (p ++ q)) m ∙ drop-append-add p q (o + length new) in
    rw (t, d) (simp append_assoc)

-- a part replaced inside the first list
pub replaced-append_left : (p q new : List Bool) (o : ℕ) → o + length new ≤ length p → replaced o new (p ++ q) ≡ replaced o new p ++ q
replaced-append_left p q new o h =
    let t : take o (p ++ q) ≡ take o p = take-append-le o p q (omega arith) in
    let d : drop (o + length new) (p ++ q) ≡ drop (o + length new) p ++ q = drop-append-le (o + length new) p q h in
    rw (t, d) (sym (append_assoc (take o p ++ new) (drop (o + length new) p) q))

-- one part replaced, then the one after it
pub replaced_more : (s n : ℕ) (xs ys bs : List Bool) → n ≡ s + length xs → n + length ys ≤ length bs → replaced n ys (replaced s xs bs) ≡ replaced s (xs ++ ys) bs
replaced_more s n xs ys bs e h =
    let front = take s bs ++ xs in
    let l : length front ≡ n = omega (arith, length-append (take s bs) xs, length-take s bs) in
    let rest = drop (s + length xs) bs in
    let t : take n (front ++ rest) ≡ front = take_at front rest n l in
    let m : n + length ys ≡ length front + length ys = omega arith in
    let d : drop (n + length ys) (front ++ rest) ≡ drop (length ys) rest = ap (λ k. drop k (front ++ rest)) m ∙ drop-append-add front rest (length ys) in
    let a : drop (length ys) rest ≡ drop (s + length xs + length ys) bs = drop-drop (length ys) (s + length xs) bs in
    let k : s + length xs + length ys ≡ s + length (xs ++ ys) = omega (arith, length-append xs ys) in
    let b : drop (s + length xs + length ys) bs ≡ drop (s + length (xs ++ ys)) bs = ap (λ k. drop k bs) k in
    rw (t, d, a, b) (simp append_assoc)

-- nothing replaced
pub replaced_none : (s : ℕ) (bs : List Bool) → replaced s [] bs ≡ bs
replaced_none s bs =
    let e : s + 0 ≡ s = omega arith in
    rw (append-nil, e) (take-append-drop s bs)
