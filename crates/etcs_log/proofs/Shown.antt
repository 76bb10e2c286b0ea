-- Text of JSON without unseen characters is visible as it is.
use Rattle.std.proofs.Common.{◌≡◌, ℕ, zero, suc, ◌<◌, ◌≤◌, ◌&&◌, Bool, true, false, cond, nat_lt, List, [], ◌∷◌, ◌++◌, length, get_or, flat_map, IsUtf8, inl, inr, refl, sym, ap, ap₂, ◌∙◌, subst, arith, append_assoc, append-nil, ltb-true}
use Rattle.std.specs.List.{list_any}
use Rattle.std.specs.Str.{chars, NonePass, NoCharPasses}
use Rattle.std.proofs.lemmas.Bool.{and_parts, or_parts, cases_lt, cases_eq}
use Rattle.std.proofs.lemmas.Str.{NoCharPasses-nil, NoCharPasses-append, encodes_same, encodes-chars, encode_ascii, inside_one}
use Rattle.std.proofs.lemmas.Bool.Decides.{nat_tests}
use lib.Utf8.{encode, encodes}
use Rattle.json.specs.Print.{escape_byte, escape, quoted}
use Rattle.json.proofs.Printed.Strings.{escape_byte_plain}
use Rattle.json.proofs.Printed.Utf8.{IsUtf8-quoted}
use Rattle.etcs_log.specs.Visible.{escape_of, is_unseen, visible, visible_char}

chars_as_they_are : (cs : List ℕ) → NonePass is_unseen cs → flat_map visible_char cs ≡ encodes cs
chars_as_they_are [] h = refl
chars_as_they_are (c ∷ cs) h =
    ap₂ (λ (a b : List ℕ). a ++ b) (ap (λ b. cond b (escape_of c) (encode c)) h.0) (chars_as_they_are cs h.1)

pub as_it_is : (text : List ℕ) → IsUtf8 text → NoCharPasses is_unseen text → visible text ≡ text
unfolding visible
as_it_is text utf8 seen =
    let same : seen.0 ≡ chars text = encodes_same seen.0 (chars text) (seen.1 ∙ sym (encodes-chars text utf8)) in
    ap (flat_map visible_char) (sym same) ∙ chars_as_they_are seen.0 seen.2 ∙ seen.1

-- ---- A string of JSON has unseen characters only where its text has some.

abbrev pub below_delete : List ℕ → Bool
below_delete [] = true
below_delete (x ∷ xs) = nat_lt x 127 && below_delete xs

seen_below : (x : ℕ) → x < 127 → is_unseen x ≡ false
seen_below x h = grind (arith, nat_tests)

pub NoCharPasses-below_delete : (xs : List ℕ) → below_delete xs ≡ true → NoCharPasses is_unseen xs
NoCharPasses-below_delete [] e = NoCharPasses-nil is_unseen
NoCharPasses-below_delete (x ∷ xs) e =
    let p = and_parts _ _ e in
    let small = ltb-true x 127 p.0 in
    let rest = NoCharPasses-below_delete xs p.1 in
    (x ∷ rest.0, ap₂ (λ (a b : List ℕ). a ++ b) (encode_ascii x (omega arith)) rest.1, (seen_below x small, rest.2))

-- the escapes of the bytes below n are below DEL, but for that of DEL
abbrev escapes_below : ℕ → Bool
escapes_below zero = true
escapes_below (suc n) = below_delete (escape_byte n) && escapes_below n

escape_below : (n : ℕ) → escapes_below n ≡ true → (x : ℕ) → x < n → below_delete (escape_byte x) ≡ true
escape_below zero e x h = absurd (omega arith)
escape_below (suc n) e x h =
    let p = and_parts _ _ e in
    elim (cases_eq x n) [ inl same ↦ rw same p.0 | inr other ↦ escape_below n p.1 x (omega arith) ]

all_below_delete : escapes_below 127 ≡ true
unfolding escape_byte
all_below_delete = refl

escape-append : (xs ys : List ℕ) → escape (xs ++ ys) ≡ escape xs ++ escape ys
escape-append [] ys = refl
escape-append (x ∷ xs) ys = ap (λ l. escape_byte x ++ l) (escape-append xs ys) ∙ sym (append_assoc (escape_byte x) _ _)

escape_high : (xs : List ℕ) → ((k : ℕ) → k < length xs → 128 ≤ get_or xs k 0) → escape xs ≡ xs
escape_high [] h = refl
escape_high (x ∷ xs) h =
    let high : 128 ≤ x = h 0 (omega arith) in
    ap₂ (λ (a b : List ℕ). a ++ b) (escape_byte_plain x (λ e. omega arith) (λ e. omega arith) (omega arith)) (escape_high xs (λ k below. h (suc k) (omega arith)))

one_char : (c : ℕ) → is_unseen c ≡ false → NoCharPasses is_unseen (escape (encode c))
one_char c seen = elim (cases_lt c 127) [
  | inl small ↦ rw (encode_ascii c (omega arith), append-nil) (NoCharPasses-below_delete _ (escape_below 127 all_below_delete c small))
  | inr big ↦
      let high : (k : ℕ) → k < length (encode c) → 128 ≤ get_or (encode c) k 0 = λ k below. elim (cases_lt (get_or (encode c) k 0) 128) [
        | inl low ↦
            let delete : c ≡ 127 = omega (arith, inside_one c [] (encode c) k (sym (append-nil _)) below low) in
            let is : true ≡ false = subst (λ z. is_unseen z ≡ false) delete seen in
            cc
        | inr h ↦ h
      ] in
      subst (NoCharPasses is_unseen) (sym (escape_high (encode c) high)) (c ∷ [], append-nil (encode c), (seen, tt))
]

all_chars : (cs : List ℕ) → list_any is_unseen cs ≡ false → NoCharPasses is_unseen (escape (encodes cs))
all_chars [] e = NoCharPasses-nil is_unseen
all_chars (c ∷ cs) e =
    let p = or_parts _ _ e in
    subst (NoCharPasses is_unseen) (sym (escape-append (encode c) (encodes cs))) (NoCharPasses-append is_unseen _ _ (one_char c p.0) (all_chars cs p.1))

pub quoted_as_it_is : (text : List ℕ) → IsUtf8 text → list_any is_unseen (chars text) ≡ false → visible (quoted text) ≡ quoted text
quoted_as_it_is text utf8 none =
    let inner = subst (λ (z : List ℕ). NoCharPasses is_unseen (escape z)) (encodes-chars text utf8) (all_chars (chars text) none) in
    let quote = NoCharPasses-below_delete (34 ∷ []) refl in
    as_it_is (quoted text) (IsUtf8-quoted text utf8) (NoCharPasses-append is_unseen (34 ∷ []) _ quote (NoCharPasses-append is_unseen _ _ inner quote))
