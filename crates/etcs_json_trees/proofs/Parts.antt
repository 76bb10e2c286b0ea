-- Texts that begin with others.
use Rattle.std.proofs.Common.{◌≡◌, ℕ, ◌+◌, ◌-◌, ◌<◌, ◌≤◌, ◌⊎◌, inl, inr, List, [], ◌∷◌, ◌++◌, length, get_or, take, drop, refl, sym, ap, ◌∙◌, arith, append_assoc, decimal}
use Rattle.std.proofs.Math.Seq.{drop-append_seam, take-append-add}
use Rattle.std.proofs.lemmas.Bool.{cases_lt}
use Rattle.std.proofs.lemmas.List.{drop_more, drop-take, get_or-take, length-append, length-drop, length-take-le, take_all, take_at, take-append-drop, take-take}
use Rattle.etcs_vars.specs.declared.var.Var.{Var}
use Rattle.etcs_vars.specs.declared.var.Var.TheVariants.{Q_UPDOWN}
use Rattle.etcs_vars.specs.Vars.{name}
use Rattle.etcs_json_trees.specs.PairTexts.{name_front}

-- ---- First bytes.

pub fewer_alike : (m k : ℕ) (xs ys : List ℕ) → m ≤ k → take k xs ≡ take k ys → take m xs ≡ take m ys
fewer_alike m k xs ys h e = sym (take-take m k xs h) ∙ ap (take m) e ∙ take-take m k ys h

pub part_alike : (w at len : ℕ) (xs ys : List ℕ) → at + w ≤ len → take len xs ≡ take len ys → take w (drop at xs) ≡ take w (drop at ys)
part_alike w at len xs ys h e =
    sym (drop-take at w xs) ∙ ap (drop at) (fewer_alike (at + w) len xs ys h e) ∙ drop-take at w ys

two_parts : (a b : ℕ) (xs : List ℕ) → take (a + b) xs ≡ take a xs ++ take b (drop a xs)
two_parts a b xs =
    sym (take-append-drop a (take (a + b) xs))
    ∙ ap (λ (t : List ℕ). t ++ drop a (take (a + b) xs)) (take-take a (a + b) xs (omega arith))
    ∙ ap (λ (t : List ℕ). take a xs ++ t) (drop-take a b xs)

-- some more bytes are the same
pub more_alike : (w at len : ℕ) (xs ys : List ℕ) → at + w ≡ len → take at xs ≡ take at ys → take w (drop at xs) ≡ take w (drop at ys) → take len xs ≡ take len ys
more_alike w at len xs ys place e f =
    ap (λ (k : ℕ). take k xs) (sym place)
    ∙ two_parts at w xs
    ∙ ap (λ (t : List ℕ). t ++ take w (drop at xs)) e
    ∙ ap (λ (t : List ℕ). take at ys ++ t) f
    ∙ sym (two_parts at w ys)
    ∙ ap (λ (k : ℕ). take k ys) place

-- the last bytes are the same, of which some may be among those that are known to be
pub last_alike : (w m len : ℕ) (xs ys : List ℕ) → w ≤ len → len ≤ m + w → take m xs ≡ take m ys → take w (drop (len - w) xs) ≡ take w (drop (len - w) ys) → take len xs ≡ take len ys
last_alike w m len xs ys least most first last = more_alike w (len - w) len xs ys (omega (arith, least)) (fewer_alike (len - w) m xs ys (omega (arith, most)) first) last

pub alike_by_eight : (len : ℕ) (xs ys : List ℕ) → 8 ≤ len → len ≤ 32 → take 8 (drop 0 xs) ≡ take 8 (drop 0 ys) → (16 < len → take 8 (drop 8 xs) ≡ take 8 (drop 8 ys)) → (24 < len → take 8 (drop 16 xs) ≡ take 8 (drop 16 ys)) → take 8 (drop (len - 8) xs) ≡ take 8 (drop (len - 8) ys) → take len xs ≡ take len ys
alike_by_eight len xs ys least most first second third last = by_len (cases_lt 16 len) (cases_lt 24 len)
  where
    by_len : (16 < len) ⊎ (len ≤ 16) → (24 < len) ⊎ (len ≤ 24) → take len xs ≡ take len ys
    by_len (inr h) k = last_alike 8 8 len xs ys least h first last
    by_len (inl h) (inr k) = last_alike 8 16 len xs ys least k (more_alike 8 8 16 xs ys refl first (second h)) last
    by_len (inl h) (inl k) = last_alike 8 24 len xs ys least most (more_alike 8 16 24 xs ys refl (more_alike 8 8 16 xs ys refl first (second h)) (third k)) last

pub all_alike : (n : ℕ) (xs ys : List ℕ) → length xs ≤ n → length ys ≤ n → take n xs ≡ take n ys → xs ≡ ys
all_alike n xs ys h g e = sym (take_all n xs h) ∙ e ∙ take_all n ys g

-- ---- The front of a pair, which blanks follow.

pub name_few : (v : Var) → length (name v) ≤ 28
name_few Q_UPDOWN = omega arith
name_few v = omega arith

pub front_few : (v : Var) (len : ℕ) → len ≡ length (name v) + 4 → len ≤ 32
front_few v len e = omega (arith, e, name_few v)

front_len : (n : List ℕ) → length (name_front n) ≡ length n + 4
front_len n = omega (arith, length-append n (34 ∷ 44 ∷ []))

padded_is : (n text padded blanks a b : List ℕ) (len : ℕ) → padded ≡ name_front n ++ blanks → len ≡ length n + 4 → len ≤ 32 → b ≡ take 32 padded → take len b ≡ name_front n
padded_is n text padded blanks a b len is count few second =
    ap (take len) (second ∙ ap (take 32) is)
    ∙ take-take len 32 (name_front n ++ blanks) few
    ∙ take_at (name_front n) blanks len (omega (arith, front_len n, count))

pub front_there : (n text padded blanks a b : List ℕ) (len : ℕ) → padded ≡ name_front n ++ blanks → len ≡ length n + 4 → len ≤ 32 → a ≡ take 32 text → b ≡ take 32 padded → take len a ≡ take len b → text ≡ name_front n ++ drop len text
front_there n text padded blanks a b len is count few first second same =
    let front : take len text ≡ name_front n =
    sym (take-take len 32 text few) ∙ ap (take len) (sym first) ∙ same ∙ padded_is n text padded blanks a b len is count few second in
    sym (take-append-drop len text) ∙ ap (λ (t : List ℕ). t ++ drop len text) front

pub front_seen : (n text padded blanks a b s : List ℕ) (len : ℕ) → padded ≡ name_front n ++ blanks → len ≡ length n + 4 → len ≤ 32 → a ≡ take 32 text → b ≡ take 32 padded → text ≡ name_front n ++ s → take len a ≡ take len b
front_seen n text padded blanks a b s len is count few first second e =
    ap (take len) (first ∙ ap (take 32) e)
    ∙ take-take len 32 (name_front n ++ s) few
    ∙ take_at (name_front n) s len (omega (arith, front_len n, count))
    ∙ sym (padded_is n text padded blanks a b len is count few second)

-- ---- What the first 64 bytes of a text begin with.

whole_front : (front next text : List ℕ) (count : ℕ) → next ≡ take 64 text → count ≤ 64 → 64 ≤ length text → next ≡ front ++ drop count next → text ≡ front ++ drop count text
whole_front front next text count first few long e =
    let rest = drop count next ++ drop 64 text in
    let split : text ≡ front ++ rest =
    sym (take-append-drop 64 text) ∙ ap (λ (z : List ℕ). z ++ drop 64 text) (sym first ∙ e) ∙ append_assoc front (drop count next) (drop 64 text) in
    let all : length next ≡ 64 = ap length first ∙ length-take-le 64 text long in
    let counted : count ≡ length front = omega (arith, ap length e, length-append front (drop count next), length-drop count next, all, few) in
    let left : drop count text ≡ rest = ap (drop count) split ∙ ap (λ (k : ℕ). drop k (front ++ rest)) counted ∙ drop-append_seam front rest in
    split ∙ ap (λ (z : List ℕ). front ++ z) (sym left)

all_left : (count : ℕ) (text : List ℕ) → drop count text ≡ take (length text - count) (drop count text)
all_left count text = sym (take_all (length text - count) (drop count text) (omega (arith, length-drop count text)))

-- a number, and the byte after it
pub byte_taken : (n end count : ℕ) (next text : List ℕ) → next ≡ take 64 text → count ≤ 64 → 64 ≤ length text → next ≡ decimal n ++ end ∷ drop count next → text ≡ decimal n ++ end ∷ take (length text - count) (drop count text)
byte_taken n end count next text first few long e =
    let one : decimal n ++ end ∷ drop count next ≡ (decimal n ++ end ∷ []) ++ drop count next = sym (append_assoc (decimal n) (end ∷ []) (drop count next)) in
    whole_front (decimal n ++ end ∷ []) next text count first few long (e ∙ one)
    ∙ append_assoc (decimal n) (end ∷ []) (drop count text)
    ∙ ap (λ (z : List ℕ). decimal n ++ end ∷ z) (all_left count text)

-- a pair, and then the byte after it
pub pair_taken : (pair next left : List ℕ) (len : ℕ) → next ≡ take 64 left → len < 64 → 64 ≤ length left → next ≡ pair ++ drop len next → left ≡ pair ++ get_or next len 0 ∷ take (length left - (len + 1)) (drop (len + 1) left)
pair_taken pair next left len first few long e =
    let byte : get_or left len 0 ≡ get_or next len 0 = sym (get_or-take 64 left len 0 few) ∙ ap (λ (z : List ℕ). get_or z len 0) (sym first) in
    whole_front pair next left len first (omega (arith, few)) long e
    ∙ ap (λ (z : List ℕ). pair ++ z)
    (drop_more left len 0 (omega (arith, few, long))
    ∙ ap (λ (x : ℕ). x ∷ drop (len + 1) left) byte
    ∙ ap (λ (z : List ℕ). get_or next len 0 ∷ z) (all_left (len + 1) left))

-- what a text begins with, its first 64 bytes begin with too
pub first_front : (front next left s : List ℕ) → next ≡ take 64 left → length front ≤ 64 → left ≡ front ++ s → next ≡ front ++ take (64 - length front) s
first_front front next left s first few e =
    let all : 64 ≡ length front + (64 - length front) = omega (arith, few) in
    first ∙ ap (take 64) e ∙ ap (λ (k : ℕ). take k (front ++ s)) all ∙ take-append-add front s (64 - length front)

pub after_part : (text left front next : List ℕ) (count : ℕ) → left ≡ drop count text → left ≡ front ++ next → (t : List ℕ) × (text ≡ t ++ (front ++ next))
after_part text left front next count others e = (take count text, sym (take-append-drop count text) ∙ ap (λ (z : List ℕ). take count text ++ z) (sym others ∙ e))
