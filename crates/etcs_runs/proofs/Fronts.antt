-- What is before the digits of a line.
use Rattle.std.proofs.Common.{◌≡◌, ℕ, zero, suc, ◌+◌, ◌-◌, ◌<◌, ◌≤◌, Bool, true, false, cond, not, ◌&&◌, List, [], ◌∷◌, ◌++◌, length, take, drop, drop-cons, slice_index, refl, sym, ap, ◌∙◌, arith}
use Rattle.std.specs.List.{list_all}
use Rattle.std.proofs.lemmas.List.{append-nil, append_assoc, length-append, take-append-drop, take_more, take-take, length-take}
use Rattle.etcs_runs.specs.Digits.{are_enough, before_digits, before_end, before_last, before_words, begins_comment, end_front, group_words, is_blank, is_gap, is_group, is_joint, kept, last_first, line_front, passed_words, read_text, text_digits, without_comment, without_end, without_mark, word_parts}
use Rattle.etcs_runs.proofs.LastWords.{both, not_true}

-- ---- The end of a text.

pub all_with : (b c : Bool) → b ≡ true → c ≡ true → (b && c) ≡ true
all_with true c h g = g
all_with false c h g = cc h

pub all_longer : (at : ℕ → Bool) (t : List ℕ) (n : ℕ) → n < length t → at (slice_index t n) ≡ true → list_all at (drop (n + 1) t) ≡ true → list_all at (drop n t) ≡ true
all_longer at t n lt here all =
    let more : suc n ≡ n + 1 = omega arith in
    ap (list_all at) (drop-cons t n 0 lt) ∙ all_with (at (slice_index t n)) (list_all at (drop (suc n) t)) here (ap (λ (k : ℕ). list_all at (drop k t)) more ∙ all)

pub without_end-all : (at : ℕ → Bool) (t : List ℕ) → list_all at t ≡ true → without_end at t ≡ []
without_end-all at [] h = refl
without_end-all at (c ∷ cs) h =
    let p = both (at c) (list_all at cs) h in
    ap (kept (at c) c) (without_end-all at cs p.1) ∙ ap (λ (b : Bool). kept b c []) p.0

pub without_end-none : (at : ℕ → Bool) (t : List ℕ) → list_all (λ c. not (at c)) t ≡ true → without_end at t ≡ t
without_end-none at [] h = refl
without_end-none at (c ∷ cs) h =
    let p = both (not (at c)) (list_all (λ x. not (at x)) cs) h in
    ap (kept (at c) c) (without_end-none at cs p.1) ∙ ap (λ (b : Bool). kept b c cs) (not_true (at c) p.0)

-- characters that may go
pub without_end-append : (at : ℕ → Bool) (xs ys : List ℕ) → list_all at ys ≡ true → without_end at (xs ++ ys) ≡ without_end at xs
without_end-append at [] ys h = without_end-all at ys h
without_end-append at (c ∷ cs) ys h = ap (kept (at c) c) (without_end-append at cs ys h)

kept_some : (b : Bool) (x : ℕ) (xs : List ℕ) (c : ℕ) → kept b x (xs ++ c ∷ []) ≡ x ∷ (xs ++ c ∷ [])
kept_some true x [] c = refl
kept_some true x (y ∷ ys) c = refl
kept_some false x xs c = refl

-- one that may not
without_end-kept : (at : ℕ → Bool) (xs : List ℕ) (c : ℕ) → at c ≡ false → without_end at (xs ++ c ∷ []) ≡ xs ++ c ∷ []
without_end-kept at [] c h = ap (λ (b : Bool). kept b c []) h
without_end-kept at (x ∷ xs) c h = ap (kept (at x) x) (without_end-kept at xs c h) ∙ kept_some (at x) x xs c

pub without_end-first : (at : ℕ → Bool) (t : List ℕ) (n : ℕ) → n ≤ length t → (0 < n → at (slice_index t (n - 1)) ≡ false) → without_end at (take n t) ≡ take n t
without_end-first at t zero le last = refl
without_end-first at t (suc n) le last =
    let less : n ≡ suc n - 1 = omega arith in
    let more : suc n ≡ n + 1 = omega arith in
    let stays : at (slice_index t n) ≡ false = ap (λ (k : ℕ). at (slice_index t k)) less ∙ last (omega arith) in
    let is : take (suc n) t ≡ take n t ++ slice_index t n ∷ [] = ap (λ (k : ℕ). take k t) more ∙ take_more t n 0 (omega (arith, le)) in
    ap (without_end at) is ∙ without_end-kept at (take n t) (slice_index t n) stays ∙ sym is

pub without_end-take : (at : ℕ → Bool) (t : List ℕ) (n : ℕ) → list_all at (drop n t) ≡ true → n ≤ length t → (0 < n → at (slice_index t (n - 1)) ≡ false) → without_end at t ≡ take n t
without_end-take at t n all le last =
    ap (without_end at) (sym (take-append-drop n t)) ∙ without_end-append at (take n t) (drop n t) all ∙ without_end-first at t n le last

not_false : (b : Bool) → b ≡ true → not b ≡ false
not_false true h = refl
not_false false h = cc h

-- by where the last word begins and ends
pub before_last-take : (at : ℕ → Bool) (t : List ℕ) (end start : ℕ) → take end t ≡ without_end at t → list_all (λ c. not (at c)) (drop start (take end t)) ≡ true → start ≤ length (take end t) → (0 < start → at (slice_index (take end t) (start - 1)) ≡ true) → before_last at t ≡ take start t
before_last-take at t end start is all le before =
    ap (without_end (λ c. not (at c))) (sym is)
    ∙ without_end-take (λ c. not (at c)) (take end t) start all le (λ some. not_false _ (before some))
    ∙ take-take start end t (omega (arith, le, length-take end t))

-- ---- A text before its digits.

pub before_end-groups : (text w : List ℕ) (ws : List (List ℕ)) → last_first is_gap text ≡ w ∷ ws → is_group w ≡ true → before_words is_gap (group_words (last_first is_gap text)) text ≡ before_end text
before_end-groups text w ws is h =
    let groups = before_words is_gap (group_words (w ∷ ws)) text in
    ap (λ (z : List (List ℕ)). before_words is_gap (group_words z) text) is
    ∙ sym (ap (λ (z : List (List ℕ)). end_front z text) is ∙ ap (λ (b : Bool). cond b groups (before_words is_joint (word_parts w) text)) h)

-- ---- It is the front of the text.

abbrev pub Begins : List ℕ → List ℕ → Type 0
Begins t s = (rest : List ℕ) × (t ≡ s ++ rest)

whole : (t : List ℕ) → Begins t t
whole t = ([], sym (append-nil t))

further : (t s r : List ℕ) → Begins t s → Begins s r → Begins t r
further t s r (xs, a) (ys, b) = (ys ++ xs, a ∙ ap (λ (z : List ℕ). z ++ xs) b ∙ append_assoc r ys xs)

kept_begins : (b : Bool) (c : ℕ) (cs xs : List ℕ) → Begins cs xs → Begins (c ∷ cs) (kept b c xs)
kept_begins true c cs [] h = (c ∷ cs, refl)
kept_begins true c cs (x ∷ xs) (rest, is) = (rest, ap (λ (z : List ℕ). c ∷ z) is)
kept_begins false c cs xs (rest, is) = (rest, ap (λ (z : List ℕ). c ∷ z) is)

without_end-begins : (at : ℕ → Bool) (t : List ℕ) → Begins t (without_end at t)
without_end-begins at [] = ([], refl)
without_end-begins at (c ∷ cs) = kept_begins (at c) c cs (without_end at cs) (without_end-begins at cs)

before_last-begins : (at : ℕ → Bool) (t : List ℕ) → Begins t (before_last at t)
before_last-begins at t = further t (without_end at t) (before_last at t) (without_end-begins at t) (without_end-begins (λ c. not (at c)) (without_end at t))

pub before_words-begins : (at : ℕ → Bool) (n : ℕ) (t : List ℕ) → Begins t (before_words at n t)
before_words-begins at zero t = whole t
before_words-begins at (suc n) t = further t (before_last at t) (before_words at n (before_last at t)) (before_last-begins at t) (before_words-begins at n (before_last at t))

either_begins : (b : Bool) (t s r : List ℕ) → Begins t s → Begins t r → Begins t (cond b s r)
either_begins true t s r h g = h
either_begins false t s r h g = g

end_front-begins : (ws : List (List ℕ)) (t : List ℕ) → Begins t (end_front ws t)
end_front-begins [] t = whole t
end_front-begins (w ∷ ws) t = either_begins (is_group w) t _ _ (before_words-begins is_gap (group_words (w ∷ ws)) t) (before_words-begins is_joint (word_parts w) t)

pub before_digits-begins : (text : List ℕ) → Begins text (before_digits text)
before_digits-begins text =
    let rest = before_words is_gap (passed_words text) text in
    further text rest (before_digits text) (before_words-begins is_gap (passed_words text) text) (end_front-begins (last_first is_gap rest) rest)

pub before_digits-shorter : (text front : List ℕ) → front ≡ before_digits text → length front ≤ length text
before_digits-shorter text front is =
    let begins = before_digits-begins text in
    omega (arith, ap length begins.1, length-append (before_digits text) begins.0, ap length is)

comment_begins : (b : Bool) (c : ℕ) (cs xs : List ℕ) → Begins cs xs → Begins (c ∷ cs) (cond b [] (c ∷ xs))
comment_begins true c cs xs h = (c ∷ cs, refl)
comment_begins false c cs xs (rest, is) = (rest, ap (λ (z : List ℕ). c ∷ z) is)

without_comment-begins : (line : List ℕ) → Begins line (without_comment line)
without_comment-begins [] = ([], refl)
without_comment-begins (c ∷ cs) = comment_begins (begins_comment (c ∷ cs)) c cs (without_comment cs) (without_comment-begins cs)

read_text-begins : (line : List ℕ) → Begins line (read_text line)
read_text-begins line = either_begins (are_enough (text_digits (without_comment line))) line _ _ (without_comment-begins line) (whole line)

pub line_front-begins : (line : List ℕ) → Begins (without_mark line) (line_front line)
line_front-begins line =
    let text = without_mark line in
    let read = read_text text in
    let front = further text read (before_digits read) (read_text-begins text) (before_digits-begins read) in
    further text (before_digits read) (line_front line) front (without_end-begins is_blank (before_digits read))
