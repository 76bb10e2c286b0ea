-- Lines one after another, of a text that comes in pieces.
use Rattle.std.proofs.Common.{◌≡◌, ℕ, ◌+◌, ◌-◌, ◌<◌, ◌≤◌, List, [], ◌∷◌, ◌++◌, length, take, drop, refl, sym, ap, subst, ◌∙◌, arith, append_assoc, length-append, drop_at, take_at, take_all}
use Rattle.std.proofs.lemmas.Grind.{flat_map-append}
use Rattle.std.proofs.lemmas.List.{append-nil, drop-drop}
use Rattle.std.proofs.lemmas.List.Elements.{All-drop, All-tail}
use Rattle.etcs_runs.specs.Lines.{IsAfterLf, IsLine, lines_text}

pub lines_text-append : (xs ys : List (List ℕ)) → lines_text (xs ++ ys) ≡ lines_text xs ++ lines_text ys
lines_text-append xs ys = flat_map-append (λ line. line ++ 10 ∷ []) xs ys

-- one line, and a text after it
pub one_line : (line beyond : List ℕ) → lines_text (line ∷ []) ++ beyond ≡ line ++ 10 ∷ beyond
one_line line beyond = ap (λ (z : List ℕ). z ++ beyond) (append-nil (line ++ 10 ∷ [])) ∙ append_assoc line (10 ∷ []) beyond

-- each line has a character
pub lines_few : (lines : List (List ℕ)) → length lines ≤ length (lines_text lines)
lines_few [] = omega arith
lines_few (line ∷ lines) =
    omega (arith, lines_few lines, length-append (line ++ 10 ∷ []) (lines_text lines), length-append line (10 ∷ []))

-- one more line is taken off
pub cut_line : (piece front rest line beyond : List ℕ) → piece ≡ front ++ rest → rest ≡ line ++ 10 ∷ beyond → piece ≡ (front ++ (line ++ 10 ∷ [])) ++ beyond
cut_line piece front rest line beyond h e =
    h
    ∙ ap (λ (z : List ℕ). front ++ z) (e ∙ sym (append_assoc line (10 ∷ []) beyond))
    ∙ sym (append_assoc front (line ++ 10 ∷ []) beyond)

-- and lines after it
pub cut_lines : (piece front rest line beyond taken after : List ℕ) → piece ≡ front ++ rest → rest ≡ line ++ 10 ∷ beyond → beyond ≡ taken ++ after → piece ≡ ((front ++ (line ++ 10 ∷ [])) ++ taken) ++ after
cut_lines piece front rest line beyond taken after h e is =
    let ends = front ++ (line ++ 10 ∷ []) in
    cut_line piece front rest line beyond h e ∙ ap (λ (z : List ℕ). ends ++ z) is ∙ sym (append_assoc ends taken after)

-- all of the input so far, in parts
pub more_given : (given front ends more : List ℕ) → ((given ++ front) ++ ends) ++ more ≡ given ++ ((front ++ ends) ++ more)
more_given given front ends more = ap (λ (z : List ℕ). z ++ more) (append_assoc given front ends) ∙ append_assoc given (front ++ ends) more

-- all of the input so far
pub cut_given : (given piece front rest : List ℕ) → piece ≡ front ++ rest → (given ++ front) ++ rest ≡ given ++ piece
cut_given given piece front rest e = append_assoc given front rest ∙ ap (λ (z : List ℕ). given ++ z) (sym e)

-- ---- Cut at the first LF.

pub tail_line : (c : ℕ) (x : List ℕ) → IsLine (c ∷ x) → IsLine x
tail_line c x h = All-tail (λ c. c ≡ 10 → ⊥) c x h

pub head_line : (c : ℕ) (x : List ℕ) → IsLine (c ∷ x) → c ≡ 10 → ⊥
head_line c x h e = h 0 0 (omega arith) e

pub cut_lf : (x y t u : List ℕ) → IsLine x → IsLine y → x ++ 10 ∷ t ≡ y ++ 10 ∷ u → (x ≡ y) × (t ≡ u)
cut_lf [] [] t u hx hy e = (refl, cc)
cut_lf [] (d ∷ y) t u hx hy e = let f : d ≡ 10 = cc in absurd (head_line d y hy f)
cut_lf (c ∷ x) [] t u hx hy e = let f : c ≡ 10 = cc in absurd (head_line c x hx f)
cut_lf (c ∷ x) (d ∷ y) t u hx hy e =
    let tails : x ++ 10 ∷ t ≡ y ++ 10 ∷ u = cc in
    let rest = cut_lf x y t u (tail_line c x hx) (tail_line d y hy) tails in
    (cc, rest.1)

pub first_of : (line : List ℕ) (lines : List (List ℕ)) (t : List ℕ) → lines_text (line ∷ lines) ++ t ≡ line ++ 10 ∷ (lines_text lines ++ t)
first_of line lines t = append_assoc (line ++ 10 ∷ []) (lines_text lines) t ∙ append_assoc line (10 ∷ []) (lines_text lines ++ t)

-- ---- A place after a LF.

pub after_front : (front rest : List ℕ) (n : ℕ) → 0 < n → IsAfterLf (front ++ rest) (length front + n) → IsAfterLf rest n
after_front [] rest n some (f, beyond, is, at) = (f, beyond, is, omega (arith, at))
after_front (x ∷ xs) rest n some ([], beyond, is, at) = absurd (omega (arith, at, some))
after_front (x ∷ xs) rest n some (y ∷ ys, beyond, is, at) =
    let tails : xs ++ rest ≡ ys ++ 10 ∷ beyond = cc in
    after_front xs rest n some (ys, beyond, tails, omega (arith, at))

-- that of a piece is one of what is after some of its lines
pub after_piece : (piece front rest : List ℕ) (after : ℕ) → piece ≡ front ++ rest → (after < length piece → IsAfterLf piece (length piece - after)) → after < length rest → IsAfterLf rest (length rest - after)
after_piece piece front rest after is h below =
    let long = ap length is ∙ length-append front rest in
    let place : length piece - after ≡ length front + (length rest - after) = omega (arith, long, below) in
    after_front front rest (length rest - after) (omega (arith, below))
    (subst (λ (k : ℕ). IsAfterLf (front ++ rest) k) place (subst (λ (z : List ℕ). IsAfterLf z (length piece - after)) is (h (omega (arith, long, below)))))

-- a piece has no LF in its last bytes, so nor has what is left of them
pub last_line : (piece front rest : List ℕ) (after : ℕ) → piece ≡ front ++ rest → IsLine (drop (length piece - after) piece) → length rest ≤ after → IsLine rest
last_line piece front rest after is last few =
    let start = length piece - after in
    let more = length front - start in
    let place : start + more ≡ length front = omega (arith, few, ap length is, length-append front rest) in
    let left : drop more (drop start piece) ≡ rest = drop-drop more start piece ∙ ap (λ (k : ℕ). drop k piece) place ∙ ap (drop (length front)) is ∙ drop_at front rest (length front) refl in
    subst IsLine left (All-drop (λ c. c ≡ 10 → ⊥) more (drop start piece) last)

-- a line with its LF, and what is after them
pub kept_front : (raw after kept : List ℕ) (count : ℕ) → kept ≡ raw ++ 10 ∷ after → count ≡ length raw → take (count + 1) kept ≡ raw ++ 10 ∷ []
kept_front raw after kept count is long =
    ap (take (count + 1)) (is ∙ sym (append_assoc raw (10 ∷ []) after))
    ∙ take_at (raw ++ 10 ∷ []) after (count + 1) (omega (arith, long, length-append raw (10 ∷ [])))

-- what is after a front of a piece
pub after_taken : (piece front beyond : List ℕ) (count : ℕ) → piece ≡ front ++ beyond → count ≡ length front → piece ≡ front ++ take (length piece - count) (drop count piece)
after_taken piece front beyond count is long =
    let rest : drop count piece ≡ beyond = ap (drop count) is ∙ drop_at front beyond count (sym long) in
    let all : take (length piece - count) (drop count piece) ≡ beyond =
    ap (take (length piece - count)) rest ∙ take_all (length piece - count) beyond (omega (arith, long, ap length is, length-append front beyond))
    in
    is ∙ ap (λ (z : List ℕ). front ++ z) (sym all)
