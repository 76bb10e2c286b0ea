-- The words of a text, one after another.
use Rattle.std.proofs.Common.{◌≡◌, ℕ, zero, suc, ◌+◌, ◌-◌, ◌<◌, ◌≤◌, Bool, true, false, cond, not, ◌&&◌, List, [], ◌∷◌, ◌++◌, length, take, drop, filter, find, slice_index, Option, Some, None, ◌==◌, inl, inr, refl, sym, ap, ◌∙◌, arith}
use Rattle.std.specs.List.{list_all}
use Rattle.std.proofs.lemmas.Bool.{cases_eq}
use Rattle.std.proofs.lemmas.List.{append-nil, append_assoc, take-append-drop, length-drop, take_more, length-take-le, get_or-take, take-take, drop-take}
use Rattle.std.proofs.lemmas.List.Elements.{filter-append}
use Rattle.etcs_runs.specs.Digits.{grown, cut, has_some, words, says_nothing}

some_with : (b : Bool) (c : ℕ) (qs : List (List ℕ)) (p : List ℕ) (ps : List (List ℕ)) → qs ≡ p ∷ ps → (q : List ℕ) × (rest : List (List ℕ)) × (cond b ([] ∷ qs) (grown c qs) ≡ q ∷ rest)
some_with true c qs p ps h = ([], qs, refl)
some_with false c qs p ps h = (c ∷ p, ps, ap (grown c) h)

-- there is a piece
cut_some : (at : ℕ → Bool) (xs : List ℕ) → (p : List ℕ) × (ps : List (List ℕ)) × (cut at xs ≡ p ∷ ps)
cut_some at [] = ([], [], refl)
cut_some at (c ∷ cs) =
    let r = cut_some at cs in
    some_with (at c) c (cut at cs) r.0 r.1 r.2

append_with : (b : Bool) (c : ℕ) (qs zs : List (List ℕ)) (p : List ℕ) (ps : List (List ℕ)) → qs ≡ p ∷ ps → cond b ([] ∷ (qs ++ zs)) (grown c (qs ++ zs)) ≡ cond b ([] ∷ qs) (grown c qs) ++ zs
append_with true c qs zs p ps h = refl
append_with false c qs zs p ps h = ap (λ (z : List (List ℕ)). grown c (z ++ zs)) h ∙ sym (ap (λ (z : List (List ℕ)). grown c z ++ zs) h)

cut-append : (at : ℕ → Bool) (s : ℕ) → at s ≡ true → (xs ys : List ℕ) → cut at (xs ++ s ∷ ys) ≡ cut at xs ++ cut at ys
cut-append at s h [] ys = ap (λ (b : Bool). cond b ([] ∷ cut at ys) (grown s (cut at ys))) h
cut-append at s h (c ∷ cs) ys =
    let r = cut_some at cs in
    ap (λ (z : List (List ℕ)). cond (at c) ([] ∷ z) (grown c z)) (cut-append at s h cs ys)
    ∙ append_with (at c) c (cut at cs) (cut at ys) r.0 r.1 r.2

pub words-append : (at : ℕ → Bool) (s : ℕ) → at s ≡ true → (xs ys : List ℕ) → words at (xs ++ s ∷ ys) ≡ words at xs ++ words at ys
words-append at s h xs ys = ap (filter has_some) (cut-append at s h xs ys) ∙ filter-append has_some (cut at xs) (cut at ys)

-- a character at which a text is cut adds no word at its end
pub words-end : (at : ℕ → Bool) (s : ℕ) → at s ≡ true → (xs : List ℕ) → words at (xs ++ s ∷ []) ≡ words at xs
words-end at s h xs = words-append at s h xs [] ∙ append-nil (words at xs)

pub both : (a b : Bool) → (a && b) ≡ true → (a ≡ true) × (b ≡ true)
both true b h = (refl, h)
both false b h = cc h

pub not_true : (b : Bool) → not b ≡ true → b ≡ false
not_true true h = cc h
not_true false h = refl

cut-word : (at : ℕ → Bool) (w : List ℕ) → list_all (λ c. not (at c)) w ≡ true → cut at w ≡ w ∷ []
cut-word at [] h = refl
cut-word at (c ∷ cs) h =
    let all = both (not (at c)) (list_all (λ x. not (at x)) cs) h in
    ap (λ (b : Bool). cond b ([] ∷ cut at cs) (grown c (cut at cs))) (not_true (at c) all.0) ∙ ap (grown c) (cut-word at cs all.1)

-- a text without such characters is one word
pub words-word : (at : ℕ → Bool) (w : List ℕ) → list_all (λ c. not (at c)) w ≡ true → 0 < length w → words at w ≡ w ∷ []
words-word at [] h some = absurd (omega (arith, some))
words-word at (c ∷ cs) h some = ap (filter has_some) (cut-word at (c ∷ cs) h)

-- the end of a text is cut one character shorter
pub words-shorter : (at : ℕ → Bool) (t : List ℕ) (n : ℕ) → n < length t → at (slice_index t n) ≡ true → words at (take (n + 1) t) ≡ words at (take n t)
words-shorter at t n lt h = ap (words at) (take_more t n 0 lt) ∙ words-end at (slice_index t n) h (take n t)

cut_before : (at : ℕ → Bool) (t : List ℕ) (n : ℕ) → n < length t → at (slice_index t n) ≡ true → words at t ≡ words at (take (n + 1) t) ++ words at (drop (n + 1) t)
cut_before at t n lt h =
    ap (words at) (sym (take-append-drop (n + 1) t) ∙ ap (λ (z : List ℕ). z ++ drop (n + 1) t) (take_more t n 0 lt) ∙ append_assoc (take n t) (slice_index t n ∷ []) (drop (n + 1) t))
    ∙ words-append at (slice_index t n) h (take n t) (drop (n + 1) t)
    ∙ ap (λ (z : List (List ℕ)). z ++ words at (drop (n + 1) t)) (sym (words-shorter at t n lt h))

-- the last word of a text, and those before it
pub last_word : (at : ℕ → Bool) (t : List ℕ) (start : ℕ) → start < length t → list_all (λ c. not (at c)) (drop start t) ≡ true → (0 < start → at (slice_index t (start - 1)) ≡ true) → words at t ≡ words at (take start t) ++ drop start t ∷ []
last_word at t zero lt all before = words-word at t all lt
last_word at t (suc n) lt all before =
    let word : words at (drop (suc n) t) ≡ drop (suc n) t ∷ [] = words-word at (drop (suc n) t) all (omega (arith, lt, length-drop (suc n) t)) in
    let less : suc n - 1 ≡ n = omega arith in
    let more : n + 1 ≡ suc n = omega arith in
    let cut : at (slice_index t n) ≡ true = ap (λ (k : ℕ). at (slice_index t k)) (sym less) ∙ before (omega arith) in
    rw (← more) (cut_before at t n (omega (arith, lt)) cut ∙ ap (λ (z : List (List ℕ)). words at (take (n + 1) t) ++ z) (ap (λ (k : ℕ). words at (drop k t)) more ∙ word ∙ ap (λ (k : ℕ). drop k t ∷ []) (sym more)))

-- ---- The first character.

abbrev pub is_hash : Option ℕ → Bool
is_hash None = true
is_hash (Some c) = c == 35

says_with : (b : Bool) (c : ℕ) (qs : List (List ℕ)) (p : List ℕ) (ps : List (List ℕ)) → qs ≡ p ∷ ps → (o : Option ℕ) → says_nothing (filter has_some qs) ≡ is_hash o → says_nothing (filter has_some (cond b ([] ∷ qs) (grown c qs))) ≡ is_hash (cond (not b) (Some c) o)
says_with true c qs p ps h o ih = ih
says_with false c qs p ps h o ih = ap (λ (z : List (List ℕ)). says_nothing (filter has_some (grown c z))) h

pub first_says : (at : ℕ → Bool) (line : List ℕ) → says_nothing (words at line) ≡ is_hash (find (λ c. not (at c)) line)
first_says at [] = refl
first_says at (c ∷ cs) =
    let r = cut_some at cs in
    says_with (at c) c (cut at cs) r.0 r.1 r.2 (find (λ x. not (at x)) cs) (first_says at cs)

-- ---- The last word, by where it begins and ends.

module _ (at : ℕ → Bool) (t : List ℕ) (end start : ℕ) (some : 0 < end) (within : end ≤ length t) (last : at (slice_index t (end - 1)) ≡ false) (begins : start ≤ length (take end t)) (before : 0 < start → at (slice_index (take end t) (start - 1)) ≡ true) where
  front : length (take end t) ≡ end
  front = length-take-le end t within

  not_at_end : start ≡ end → ⊥
  not_at_end is =
      let here : at (slice_index t (end - 1)) ≡ true = ap at (sym (get_or-take end t (end - 1) 0 (omega (arith, some)))) ∙ ap (λ (k : ℕ). at (slice_index (take end t) (k - 1))) (sym is) ∙ before (omega (arith, some, is)) in
      cc (sym last ∙ here)

  pub begins_before : start < end
  begins_before = elim (cases_eq start end) [
    | inl is ↦ absurd (not_at_end is)
    | inr other ↦ omega (arith, front, begins, other)
  ]

  word_is : drop start (take end t) ≡ take (end - start) (drop start t)
  word_is =
      let less = begins_before in
      let sum : start + (end - start) ≡ end = omega (arith, less) in
      ap (λ (k : ℕ). drop start (take k t)) (sym sum) ∙ drop-take start (end - start) t

  pub last_parts : list_all (λ c. not (at c)) (drop start (take end t)) ≡ true → (take end t ≡ take start t ++ take (end - start) (drop start t)) × (list_all (λ c. not (at c)) (take (end - start) (drop start t)) ≡ true)
  last_parts all =
      let less = begins_before in (
        sym (take-append-drop start (take end t)) ∙ ap (λ (z : List ℕ). z ++ drop start (take end t)) (take-take start end t (omega (arith, less))) ∙ ap (λ (z : List ℕ). take start t ++ z) word_is,
        ap (list_all (λ c. not (at c))) (sym word_is) ∙ all,
      )

  pub last_word_at : words at t ≡ words at (take end t) → list_all (λ c. not (at c)) (drop start (take end t)) ≡ true → words at t ≡ words at (take start t) ++ take (end - start) (drop start t) ∷ []
  last_word_at same all =
      let less = begins_before in
      let whole = last_word at (take end t) start (omega (arith, front, less)) all before in
      same ∙ whole ∙ ap (λ (z : List ℕ). words at z ++ drop start (take end t) ∷ []) (take-take start end t (omega (arith, less))) ∙ ap (λ (z : List ℕ). words at (take start t) ++ z ∷ []) word_is
