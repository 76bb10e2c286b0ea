-- What is before a comment.
use Rattle.std.proofs.Common.{◌≡◌, ℕ, zero, suc, ◌+◌, ◌-◌, ◌<◌, ◌≤◌, Bool, true, false, ◌&&◌, ◌||◌, ◌==◌, cond, List, [], ◌∷◌, ◌++◌, length, take, drop, drop-cons, slice_index, refl, sym, ap, subst, ◌∙◌, arith, inl, inr}
use Rattle.std.proofs.lemmas.List.{append-nil, append_assoc, drop_all, get_or-drop, get_or_past, take_all, take_more}
use Rattle.std.proofs.lemmas.Bool.{cases_lt}
use Rattle.memchr.specs.Find.{Nowhere, Passes, is_byte3}
use Rattle.etcs_runs.specs.Digits.{begins_comment, is_blank, without_comment}

module _ (line : List ℕ) (n : ℕ) (lt : n < length line) where
  here : drop n line ≡ slice_index line n ∷ drop (suc n) line
  here = drop-cons line n 0 lt

  next : suc n ≡ n + 1
  next = omega arith

  cut : (b : Bool) → begins_comment (drop n line) ≡ b → without_comment (drop n line) ≡ cond b [] (slice_index line n ∷ without_comment (drop (n + 1) line))
  cut b h =
      let first : begins_comment (slice_index line n ∷ drop (suc n) line) ≡ b = ap begins_comment (sym here) ∙ h in
      ap without_comment here
      ∙ ap (λ (z : Bool). cond z [] (slice_index line n ∷ without_comment (drop (suc n) line))) first
      ∙ ap (λ (k : ℕ). cond b [] (slice_index line n ∷ without_comment (drop k line))) next

-- up to n a line has no comment
abbrev pub Passed : List ℕ → ℕ → Type 0
Passed line n = without_comment line ≡ take n line ++ without_comment (drop n line)

pub not_begun : (line : List ℕ) (n : ℕ) → n < length line → begins_comment (drop n line) ≡ false → Passed line n → Passed line (n + 1)
not_begun line n lt h passed =
    let rest = without_comment (drop (n + 1) line) in
    passed
    ∙ ap (λ (z : List ℕ). take n line ++ z) (cut line n lt false h)
    ∙ sym (append_assoc (take n line) (slice_index line n ∷ []) rest)
    ∙ ap (λ (z : List ℕ). z ++ rest) (sym (take_more line n 0 lt))

-- characters at which none begins are passed over
skip : (line : List ℕ) (k n : ℕ) → n + k ≤ length line → ((q : ℕ) → n ≤ q → q < n + k → begins_comment (drop q line) ≡ false) → Passed line n → Passed line (n + k)
skip line zero n within none h = subst (Passed line) (omega arith) h
skip line (suc k) n within none h =
    subst (Passed line) (omega arith)
    (skip line k (n + 1) (omega (arith, within)) (λ q low high. none q (omega (arith, low)) (omega (arith, high)))
    (not_begun line n (omega (arith, within)) (none n (omega arith) (omega arith)) h))

pub pass_to : (line : List ℕ) (n m : ℕ) → n ≤ m → m ≤ length line → ((q : ℕ) → n ≤ q → q < m → begins_comment (drop q line) ≡ false) → Passed line n → Passed line m
pass_to line n m le within none h =
    subst (Passed line) (omega (arith, le)) (skip line (m - n) n (omega (arith, le, within)) (λ q low high. none q low (omega (arith, le, high))) h)

-- ---- The second character of a comment.

second : (blank hash semicolon slash both : Bool) → (blank && (hash || semicolon || (slash && both))) ≡ true → (hash || semicolon || slash) ≡ true
second blank true semicolon slash both e = refl
second blank false true slash both e = refl
second blank false false true both e = refl
second true false false false both e = e
second false false false false both e = e

by_second : (b : Bool) (text : List ℕ) → begins_comment text ≡ b → (is_byte3 35 59 47 (slice_index text 1) ≡ true → ⊥) → begins_comment text ≡ false
by_second false text h none = h
by_second true text h none =
    absurd (none (second (is_blank (slice_index text 0)) (slice_index text 1 == 35) (slice_index text 1 == 59) (slice_index text 1 == 47) (slice_index text 2 == 47) h))

-- none begins before a character that is none of them
pub unmarked : (line : List ℕ) (q : ℕ) → (is_byte3 35 59 47 (slice_index line (q + 1)) ≡ true → ⊥) → begins_comment (drop q line) ≡ false
unmarked line q none =
    by_second (begins_comment (drop q line)) (drop q line) refl (λ h. none (ap (is_byte3 35 59 47) (sym (get_or-drop q line 1 0)) ∙ h))

-- a line that is passed to its end
pub passed_all : (line : List ℕ) (n : ℕ) → length line ≤ n → Passed line n → without_comment line ≡ line
passed_all line n past h =
    h ∙ ap (λ (z : List ℕ). take n line ++ without_comment z) (drop_all n line past) ∙ append-nil (take n line) ∙ take_all n line past

no_mark : (line : List ℕ) → Nowhere (Passes (is_byte3 35 59 47) line) 0 (length line) → (k : ℕ) → is_byte3 35 59 47 (slice_index line k) ≡ true → ⊥
no_mark line none k marked =
    elim (cases_lt k (length line)) [
      | inl less ↦ none k (omega arith) less marked
      | inr past ↦ (let h : false ≡ true = ap (is_byte3 35 59 47) (sym (get_or_past line k 0 past)) ∙ marked in cc)
    ]

-- ---- The first mark.

abbrev Marked : List ℕ → ℕ → Type 0
Marked line = Passes (is_byte3 35 59 47) line

-- no comment begins before the character in front of it
pub to_mark : (line : List ℕ) (mark : ℕ) → mark ≤ length line → Nowhere (Marked line) 0 mark → Passed line (mark - 1)
to_mark line mark within none = pass_to line 0 (mark - 1) (omega arith) (omega (arith, within)) (λ q low high. unmarked line q (none (q + 1) (omega arith) (omega (arith, high)))) refl

-- nor anywhere, where there is none
pub unmarked_line : (line : List ℕ) → Nowhere (Marked line) 0 (length line) → without_comment line ≡ line
unmarked_line line none = passed_all line (length line) (omega arith) (pass_to line 0 (length line) (omega arith) (omega arith) (λ q low high. unmarked line q (no_mark line none (q + 1))) refl)
