-- What is taken of a text of pairs is what it says.
use Rattle.std.proofs.Common.{◌≡◌, ℕ, zero, suc, ◌-◌, ◌/◌, ◌%◌, ◌^◌, ◌<◌, ◌≤◌, ◌==◌, ◌&&◌, ◌⊎◌, inl, inr, Bool, true, false, nat_eq, nat_lt, List, [], ◌∷◌, ◌++◌, length, take, drop, map, Option, Some, None, refl, sym, ap, subst, ◌∙◌, arith, append_assoc, decimal}
use Rattle.std.specs.Prelude.{if◌then◌else◌, IfNone, bytes_eq}
use Rattle.std.specs.Str.Parse.{AllDigits, digits_value}
use Rattle.std.proofs.Math.Nat.{pow-le-pow_right}
use Rattle.std.proofs.Math.Seq.{take-append_seam, drop-append_seam}
use Rattle.std.proofs.lemmas.Bool.{and_from, cases_lt, eq-eqb, ne_eqb, lt-ltb, ltb-true}
use Rattle.std.proofs.lemmas.Fmt.{decimal_is_IsNumeral, length-decimal-le}
use Rattle.std.proofs.lemmas.List.{length-append, take_at, take-append-drop, append_cancel_left}
use Rattle.std.proofs.lemmas.Slice.Eq.{bytes_eq-Decides}
use Rattle.std.proofs.lemmas.Str.Parse.{digit_from_value}
use Rattle.etcs_vars.specs.declared.var.Var.{Var}
use Rattle.etcs_vars.specs.declared.var.Var.TheVariants.{Q_UPDOWN, NID_RADIO}
use Rattle.etcs_vars.specs.Vars.{name, admits, width}
use Rattle.etcs_vars.specs.Reading.{Sent, Reading}
use Rattle.etcs_vars.proofs.Prefixes.{width-le}
use Rattle.etcs_bodies.specs.Taking.{Named, named, named_as, in_hexadecimal, is_of, is_spent, ahead, admitted_of, next_number, flag_of, next_flag}
use Rattle.etcs_bodies.specs.laws.Takes.{in_width, is_own, was_own}
use Rattle.etcs_packet_text.specs.Show.{hex_digit, hex_digits}
use Rattle.etcs_json_trees.specs.PairTexts.{hex_text, number_text, name_front, pair_text, listed_text, limit, Lacks, before, is_quoted, number_in, pair_in, taken_as, first_pair, stuck, with_more, named_from, named_left}
use Rattle.etcs_json_trees.proofs.HexTexts.{not_bracket, length_text, text_value}
use Rattle.etcs_json_trees.proofs.Parts.{first_front, name_few}

-- ---- Up to a byte.

by_test : (b : Bool) (x : ℕ) (ys xs : List ℕ) → (if b then [] else x ∷ ys) ≡ x ∷ xs → (b ≡ false) × (ys ≡ xs)
by_test true x ys xs e = absurd cc
by_test false x ys xs e = (refl, cc)

before_stops : (c : ℕ) (xs rest : List ℕ) → before c xs ≡ xs → before c (xs ++ c ∷ rest) ≡ xs
before_stops c [] rest e = rw (eq-eqb c c refl) refl
before_stops c (x ∷ xs) rest e =
    let p = by_test (x == c) x (before c xs) xs e in
    rw p.0 (ap (λ (t : List ℕ). x ∷ t) (before_stops c xs rest p.1))

before_push : (c d : ℕ) (xs : List ℕ) → before c xs ≡ xs → (d ≡ c → ⊥) → before c (xs ++ d ∷ []) ≡ xs ++ d ∷ []
before_push c d [] e lacks = rw (ne_eqb d c lacks) refl
before_push c d (x ∷ xs) e lacks =
    let p = by_test (x == c) x (before c xs) xs e in
    rw p.0 (ap (λ (t : List ℕ). x ∷ t) (before_push c d xs p.1 lacks))

-- ---- A number.

digits_before : (ds : List ℕ) → AllDigits 10 ds → before 93 ds ≡ ds
digits_before [] a = refl
digits_before (c ∷ cs) a =
    let k = digit_from_value c a.0 in
    rw (ne_eqb c 93 (λ e. omega (arith, k.1, e))) (ap (λ (t : List ℕ). c ∷ t) (digits_before cs a.1))

hex_before : (k n : ℕ) → before 93 (hex_digits k n) ≡ hex_digits k n
hex_before zero n = refl
hex_before (suc k) n = before_push 93 (hex_digit (n % 16)) (hex_digits k (n / 16)) (hex_before k (n / 16)) (not_bracket (n % 16) (omega arith))

text_before : (n : ℕ) → before 93 (hex_text n) ≡ hex_text n
unfolding hex_text
text_before n = hex_before 16 n

quoted_before : (n : ℕ) → before 93 (34 ∷ (hex_text n ++ 34 ∷ [])) ≡ 34 ∷ (hex_text n ++ 34 ∷ [])
quoted_before n = ap (λ (t : List ℕ). 34 ∷ t) (before_push 93 34 (hex_text n) (text_before n) (λ e. omega (arith, e)))

number_before : (h : Bool) (n : ℕ) → n < limit h → before 93 (number_text h n) ≡ number_text h n
number_before false n small = digits_before (decimal n) (decimal_is_IsNumeral n (omega (arith, small))).0.1
number_before true n small = quoted_before n

not_quoted : (ds : List ℕ) → AllDigits 10 ds → is_quoted ds ≡ false
not_quoted [] a = refl
not_quoted (c ∷ cs) a = let k = digit_from_value c a.0 in ne_eqb c 34 (λ e. omega (arith, k.0, e))

quoted_is : (h : Bool) (n : ℕ) → n < limit h → is_quoted (number_text h n) ≡ h
quoted_is false n small = not_quoted (decimal n) (decimal_is_IsNumeral n (omega (arith, small))).0.1
quoted_is true n small = refl

in_quotes : (n : ℕ) → n < 2 ^ 64 → digits_value 16 (take 16 (hex_text n ++ 34 ∷ [])) ≡ n
in_quotes n small = ap (digits_value 16) (take_at (hex_text n) (34 ∷ []) 16 (length_text n)) ∙ text_value n small

number_is : (h : Bool) (n : ℕ) → n < limit h → number_in (number_text h n) ≡ n
number_is false n small =
    ap (λ (b : Bool). if b then digits_value 16 (take 16 (drop 1 (decimal n))) else digits_value 10 (decimal n)) (quoted_is false n small)
    ∙ (decimal_is_IsNumeral n (omega (arith, small))).1
number_is true n small = in_quotes n small

-- ---- The pair that a text begins with.

name_before : (v : Var) (rest : List ℕ) → before 34 (name v ++ 34 ∷ rest) ≡ name v
name_before Q_UPDOWN rest = refl
name_before v rest = refl

pair_is : (n : List ℕ) (h : Bool) (x : ℕ) (s : List ℕ) → ((rest : List ℕ) → before 34 (n ++ 34 ∷ rest) ≡ n) → x < limit h → pair_in (pair_text ((n, h), x) ++ s) ≡ ((n, h), x)
pair_is n h x s stops small =
    let front = name_front n in
    let end = number_text h x ++ 93 ∷ [] in
    let text = pair_text ((n, h), x) ++ s in
    let name_is : before 34 (drop 2 text) ≡ n =
    ap (before 34) (append_assoc (n ++ 34 ∷ 44 ∷ []) end s ∙ append_assoc n (34 ∷ 44 ∷ []) (end ++ s)) ∙ stops (44 ∷ (end ++ s)) in
    let after : drop (length front) text ≡ number_text h x ++ 93 ∷ s =
    ap (drop (length front)) (append_assoc front end s) ∙ drop-append_seam front (end ++ s) ∙ append_assoc (number_text h x) (93 ∷ []) s in
    let number_there : before 93 (drop (length (name_front (before 34 (drop 2 text)))) text) ≡ number_text h x =
    ap (λ (m : List ℕ). before 93 (drop (length (name_front m)) text)) name_is ∙ ap (before 93) after ∙ before_stops 93 (number_text h x) s (number_before h x small) in
    ap (λ (m : List ℕ). ((m, is_quoted (before 93 (drop (length (name_front (before 34 (drop 2 text)))) text))), number_in (before 93 (drop (length (name_front (before 34 (drop 2 text)))) text)))) name_is
    ∙ ap (λ (t : List ℕ). ((n, is_quoted t), number_in t)) number_there
    ∙ ap (λ (b : Bool). ((n, b), number_in (number_text h x))) (quoted_is h x small)
    ∙ ap (λ (m : ℕ). ((n, h), m)) (number_is h x small)

taken_is : (p : Named) (s : List ℕ) → p.1 < limit p.0.1 → taken_as p ((44 ∷ pair_text p) ++ s) ≡ Some (p, s)
taken_is p s small =
    let front = 44 ∷ pair_text p in
    let same = (bytes_eq-Decides front (take (length front) (front ++ s))).1 (sym (take-append_seam front s)) in
    ap (λ (b : Bool). if b then Some (p, drop (length front) (front ++ s)) else None) (and_from _ _ same (lt-ltb p.1 (limit p.0.1) small))
    ∙ ap (λ (t : List ℕ). Some (p, t)) (drop-append_seam front s)

first_is : (v : Var) (n : ℕ) (s t : List ℕ) → n < limit (in_hexadecimal v) → 64 < length t → t ≡ 44 ∷ (pair_text (named_as (v, n)) ++ s) → first_pair t ≡ Some (named_as (v, n), s)
unfolding first_pair
first_is v n s t small long e =
    let p = named_as (v, n) in
    let there : pair_in (drop 1 t) ≡ p =
    ap (λ (x : List ℕ). pair_in (drop 1 x)) e
    ∙ pair_is (name v) (in_hexadecimal v) n s (name_before v) small in
    ap (λ (b : Bool). if b then taken_as (pair_in (drop 1 t)) t else None) (lt-ltb 64 (length t) long)
    ∙ ap (λ (q : Named). taken_as q t) there
    ∙ ap (taken_as p) e
    ∙ taken_is p s small

-- ---- The pair that is read.

by_both : (b c : Bool) (x y : Named × List ℕ) → ◌≡◌ {A = Option (Named × List ℕ)} (if b && c then Some x else None) (Some y) → (b ≡ true) × (c ≡ true) × (x ≡ y)
by_both true true x y e = (refl, refl, cc)
by_both true false x y e = absurd cc
by_both false c x y e = absurd cc

taken_was : (q : Named) (t : List ℕ) (p : Named) (s : List ℕ) → taken_as q t ≡ Some (p, s) → (t ≡ 44 ∷ (pair_text p ++ s)) × (p.1 < limit p.0.1)
taken_was q t p s e =
    let front = 44 ∷ pair_text q in
    let both = by_both (bytes_eq front (take (length front) t)) (nat_lt q.1 (limit q.0.1)) (q, drop (length front) t) (p, s) e in
    let same : q ≡ p = ap (λ (x : Named × List ℕ). x.0) both.2 in
    let left : drop (length front) t ≡ s = ap (λ (x : Named × List ℕ). x.1) both.2 in (
      sym (take-append-drop (length front) t)
          ∙ ap (λ (x : List ℕ). x ++ drop (length front) t) (sym ((bytes_eq-Decides front (take (length front) t)).0 both.0))
          ∙ ap (λ (x : List ℕ). front ++ x) left
          ∙ ap (λ (x : Named). 44 ∷ (pair_text x ++ s)) same,
      subst (λ (x : Named). x.1 < limit x.0.1) same (ltb-true q.1 (limit q.0.1) both.1),
    )

by_long : (b : Bool) (o : Option (Named × List ℕ)) (y : Named × List ℕ) → ◌≡◌ {A = Option (Named × List ℕ)} (if b then o else None) (Some y) → (b ≡ true) × (o ≡ Some y)
by_long true o y e = (refl, e)
by_long false o y e = absurd cc

pub first_was : (t : List ℕ) (p : Named) (s : List ℕ) → first_pair t ≡ Some (p, s) → (t ≡ 44 ∷ (pair_text p ++ s)) × (p.1 < limit p.0.1) × (64 < length t)
unfolding first_pair
first_was t p s e =
    let long = by_long (nat_lt 64 (length t)) (taken_as (pair_in (drop 1 t)) t) (p, s) e in
    let was = taken_was (pair_in (drop 1 t)) t p s long.1 in
    (was.0, was.1, ltb-true 64 (length t) long.0)

-- ---- The pairs that a text is.

shorter : (t s : List ℕ) (p : Named) → t ≡ 44 ∷ (pair_text p ++ s) → length s < length t
shorter t s p e =
    omega (arith, ap length e, length-append ((p.0.0 ++ 34 ∷ 44 ∷ []) ++ (number_text p.0.1 p.1 ++ 93 ∷ [])) s)

less_than : (t : List ℕ) (p : Named) (s : List ℕ) → first_pair t ≡ Some (p, s) → length s < length t
less_than t p s e = shorter t s p (first_was t p s e).0

none_there : (m : ℕ) (t : List ℕ) → length t ≤ 0 → named_from m t ≡ stuck t ∷ []
unfolding first_pair
none_there zero t h = refl
none_there (suc m) [] h = refl
none_there (suc m) (c ∷ t) h = absurd (omega (arith, h))

any_count : (k m : ℕ) (t : List ℕ) → length t ≤ k → length t ≤ m → named_from k t ≡ named_from m t
any_count zero m t h g = sym (none_there m t h)
any_count (suc k) zero t h g = none_there (suc k) t g
any_count (suc k) (suc m) t h g = by_first (first_pair t) refl (λ s. any_count k m s)
  where
    by_first : (o : Option (Named × List ℕ)) → first_pair t ≡ o → ((s : List ℕ) → length s ≤ k → length s ≤ m → named_from k s ≡ named_from m s) → with_more o t (λ s. named_from k s) ≡ with_more o t (λ s. named_from m s)
    by_first None e same = refl
    by_first (Some (p, s)) e same =
        let less = less_than t p s e in
        ap (λ (ps : List Named). p ∷ ps) (same s (omega (arith, h, less)) (omega (arith, g, less)))

named_first : (t s : List ℕ) (p : Named) → first_pair t ≡ Some (p, s) → named_left t ≡ p ∷ named_left s
unfolding named_left
named_first [] s p e = absurd (omega (arith, less_than [] p s e))
named_first (c ∷ t) s p e =
    let less = less_than (c ∷ t) p s e in
    ap (λ (o : Option (Named × List ℕ)). with_more o (c ∷ t) (λ x. named_from (length t) x)) e
    ∙ ap (λ (ps : List Named). p ∷ ps) (any_count (length t) (length s) s (omega (arith, less)) (omega arith))

named_none : (t : List ℕ) → first_pair t ≡ None → named_left t ≡ stuck t ∷ []
unfolding named_left
named_none [] e = refl
named_none (c ∷ t) e = ap (λ (o : Option (Named × List ℕ)). with_more o (c ∷ t) (λ x. named_from (length t) x)) e

-- something is always left, if only the end
pub some_left : (t : List ℕ) → false ≡ is_spent (named (named_left t))
some_left t = by_first (first_pair t) refl
  where
    by_first : (o : Option (Named × List ℕ)) → first_pair t ≡ o → false ≡ is_spent (named (named_left t))
    by_first None e = ap (λ (ps : List Named). is_spent (named ps)) (sym (named_none t e))
    by_first (Some (p, s)) e = ap (λ (ps : List Named). is_spent (named ps)) (sym (named_first t s p e))

-- ---- A pair after its front.

pub radio_is : (v : Var) → v ≡ NID_RADIO → in_hexadecimal v ≡ true
unfolding in_hexadecimal
radio_is v e = ap in_hexadecimal e

pub not_radio : (v : Var) → (v ≡ NID_RADIO → ⊥) → in_hexadecimal v ≡ false
unfolding in_hexadecimal
not_radio NID_RADIO lacks = absurd (lacks refl)
not_radio v lacks = refl

pair_parts : (front number s : List ℕ) → (front ++ (number ++ 93 ∷ [])) ++ s ≡ front ++ (number ++ 93 ∷ s)
pair_parts front number s = append_assoc front (number ++ 93 ∷ []) s ∙ ap (λ (t : List ℕ). front ++ t) (append_assoc number (93 ∷ []) s)

pub pair_there : (h : Bool) (v : Var) (n : ℕ) (text number left : List ℕ) → in_hexadecimal v ≡ h → text ≡ name_front (name v) ++ number → number ≡ number_text h n ++ 93 ∷ left → text ≡ pair_text (named_as (v, n)) ++ left
pair_there h v n text number left is front e =
    front
    ∙ ap (λ (t : List ℕ). name_front (name v) ++ t) e
    ∙ sym (pair_parts (name_front (name v)) (number_text h n) left)
    ∙ ap (λ (b : Bool). pair_text ((name v, b), n) ++ left) (sym is)

pub number_there : (h : Bool) (v : Var) (n : ℕ) (text number s : List ℕ) → in_hexadecimal v ≡ h → text ≡ name_front (name v) ++ number → text ≡ pair_text (named_as (v, n)) ++ s → number ≡ number_text h n ++ 93 ∷ s
number_there h v n text number s is front e =
    append_cancel_left (name_front (name v)) _ _
    (sym front ∙ e ∙ ap (λ (b : Bool). pair_text ((name v, b), n) ++ s) is ∙ pair_parts (name_front (name v)) (number_text h n) s)

pub none_then : {X : Type 0} (o : Option X) {P Q : Type 0} → IfNone o P → (P → Q) → IfNone o Q
none_then None h f = f h
none_then (Some x) h f = tt

-- ---- Where no pair of a variable is found.

pub in_word : (v : Var) (n : ℕ) → n < 2 ^ width v → n < 2 ^ 64
in_word v n small = let p = pow-le-pow_right {n = 2} (omega arith) (width-le v) in omega (arith, p, small)

number_few : (h : Bool) (n : ℕ) → n < 2 ^ 64 → length (number_text h n) ≤ 20
number_few false n small = length-decimal-le 20 n (omega arith) (omega (arith, small)) small
number_few true n small = omega (arith, length-append (hex_text n) (34 ∷ []), length_text n)

pair_few : (v : Var) (n : ℕ) → n < 2 ^ width v → length (pair_text (named_as (v, n))) ≤ 64
pair_few v n small =
    let number = number_text (in_hexadecimal v) n in
    omega (arith, length-append (name v ++ 34 ∷ 44 ∷ []) (number ++ 93 ∷ []), length-append (name v) (34 ∷ 44 ∷ []), length-append number (93 ∷ []), name_few v, number_few (in_hexadecimal v) n (in_word v n small))

pub no_pair : (v : Var) (c : ℕ) (next left : List ℕ) → next ≡ take 64 left → ((n : ℕ) (s : List ℕ) → n < 2 ^ width v → next ≡ pair_text (named_as (v, n)) ++ s → ⊥) → Lacks v (c ∷ left)
no_pair v c next left first lacks n s small long e =
    let pair = pair_text (named_as (v, n)) in
    lacks n (take (64 - length pair) s) small (first_front pair next left s first (pair_few v n small) (ap (drop 1) e))

-- ---- What is taken of a text.

pub begins_named : (v : Var) (n : ℕ) (s t : List ℕ) → n < limit (in_hexadecimal v) → 64 < length t → t ≡ 44 ∷ (pair_text (named_as (v, n)) ++ s) → named_left t ≡ named_as (v, n) ∷ named_left s
begins_named v n s t small long e = named_first t s (named_as (v, n)) (first_is v n s t small long e)

own_next : (v : Var) (n : ℕ) (ps : List Named) → next_number v (named (named_as (v, n) ∷ ps)) ≡ admitted_of v n (named ps)
unfolding next_number
own_next v n ps = ap (λ (b : Bool). if b then admitted_of v n (named ps) else None) (is_own v)

own_flag : (v : Var) (n : ℕ) (ps : List Named) → next_flag v (named (named_as (v, n) ∷ ps)) ≡ flag_of n (named ps)
unfolding next_flag
own_flag v n ps = ap (λ (b : Bool). if b then flag_of n (named ps) else None) (is_own v)

pub next_is_named : (v : Var) (n : ℕ) (s t : List ℕ) → n < limit (in_hexadecimal v) → 64 < length t → t ≡ 44 ∷ (pair_text (named_as (v, n)) ++ s) → admits v n ≡ true → next_number v (named (named_left t)) ≡ Some (n, named (named_left s))
next_is_named v n s t small long e ok =
    ap (λ (ps : List Named). next_number v (named ps)) (begins_named v n s t small long e)
    ∙ own_next v n (named_left s)
    ∙ ap (λ (b : Bool). if b then Some (n, named (named_left s)) else None) ok

pub not_admitted : (v : Var) (n : ℕ) (s t : List ℕ) → n < limit (in_hexadecimal v) → 64 < length t → t ≡ 44 ∷ (pair_text (named_as (v, n)) ++ s) → admits v n ≡ false → next_number v (named (named_left t)) ≡ None
not_admitted v n s t small long e bad =
    ap (λ (ps : List Named). next_number v (named ps)) (begins_named v n s t small long e)
    ∙ own_next v n (named_left s)
    ∙ ap (λ (b : Bool). if b then Some (n, named (named_left s)) else None) bad

flag_small : (n : ℕ) (ps : List Named) → n ≤ 1 → flag_of n (named ps) ≡ Some (nat_eq n 1, named ps)
flag_small zero ps h = refl
flag_small (suc zero) ps h = refl
flag_small (suc (suc n)) ps h = absurd (omega (arith, h))

flag_large : (n : ℕ) (ps : List Named) → 1 < n → flag_of n (named ps) ≡ None
flag_large zero ps h = absurd (omega (arith, h))
flag_large (suc zero) ps h = absurd (omega (arith, h))
flag_large (suc (suc n)) ps h = refl

pub flag_is_named : (v : Var) (n : ℕ) (s t : List ℕ) → n < limit (in_hexadecimal v) → 64 < length t → t ≡ 44 ∷ (pair_text (named_as (v, n)) ++ s) → n ≤ 1 → next_flag v (named (named_left t)) ≡ Some (nat_eq n 1, named (named_left s))
flag_is_named v n s t small long e ok =
    ap (λ (ps : List Named). next_flag v (named ps)) (begins_named v n s t small long e)
    ∙ own_flag v n (named_left s) ∙ flag_small n (named_left s) ok

pub flag_too_large : (v : Var) (n : ℕ) (s t : List ℕ) → n < limit (in_hexadecimal v) → 64 < length t → t ≡ 44 ∷ (pair_text (named_as (v, n)) ++ s) → 1 < n → next_flag v (named (named_left t)) ≡ None
flag_too_large v n s t small long e bad =
    ap (λ (ps : List Named). next_flag v (named ps)) (begins_named v n s t small long e)
    ∙ own_flag v n (named_left s) ∙ flag_large n (named_left s) bad

-- ---- Where no pair of a variable is next.

no_name : (v : Var) (t : List ℕ) → is_of v (0 ∷ t, false) ≡ false
no_name Q_UPDOWN t = refl
no_name v t = refl

-- the first pair is another's, or its number is too large
abbrev Others : Var → List Named → Type 0
Others v ps = (p : Named) × (more : List Named) × (ps ≡ p ∷ more) × ((is_of v p.0 ≡ false) ⊎ (2 ^ width v ≤ p.1))

other_of : (v : Var) (t : List ℕ) (p : Named) (s : List ℕ) → Lacks v t → first_pair t ≡ Some (p, s) → (is_of v p.0 ≡ false) ⊎ (2 ^ width v ≤ p.1)
other_of v t p s lacks e = by_own (is_of v p.0) refl (cases_lt p.1 (2 ^ width v))
  where
    by_own : (b : Bool) → is_of v p.0 ≡ b → (p.1 < 2 ^ width v) ⊎ (2 ^ width v ≤ p.1) → (is_of v p.0 ≡ false) ⊎ (2 ^ width v ≤ p.1)
    by_own false h c = inl h
    by_own true h (inr large) = inr large
    by_own true h (inl small) =
        let own = was_own v p.0 h in
        let was = first_was t p s e in
        absurd (lacks p.1 s small was.2 (was.0 ∙ ap (λ (q : List ℕ × Bool). 44 ∷ (pair_text (q, p.1) ++ s)) (sym own)))

others : (v : Var) (t : List ℕ) → Lacks v t → Others v (named_left t)
others v t lacks = by_first (first_pair t) refl
  where
    by_first : (o : Option (Named × List ℕ)) → first_pair t ≡ o → Others v (named_left t)
    by_first None e = (stuck t, [], named_none t e, inl (no_name v t))
    by_first (Some (p, s)) e = (p, named_left s, named_first t s p e, other_of v t p s lacks e)

too_large : (v : Var) (n : ℕ) (b : Bool) → 2 ^ width v ≤ n → admits v n ≡ b → b ≡ false
too_large v n false large e = refl
too_large v n true large e = absurd (omega (arith, large, in_width v n e))

by_false : {A : Type 0} (b : Bool) (o : Option A) → ◌≡◌ {A = Option A} o None → ◌≡◌ {A = Option A} (if b then o else None) None
by_false true o e = e
by_false false o e = refl

first_none : (v : Var) (p : Named) (more : List Named) → (is_of v p.0 ≡ false) ⊎ (2 ^ width v ≤ p.1) → next_number v (named (p ∷ more)) ≡ None
unfolding next_number
first_none v p more (inl f) = ap (λ (b : Bool). if b then admitted_of v p.1 (named more) else None) f
first_none v p more (inr large) =
    by_false (is_of v p.0) (admitted_of v p.1 (named more)) (ap (λ (b : Bool). if b then Some (p.1, named more) else None) (too_large v p.1 (admits v p.1) large refl))

width_some : (v : Var) → 1 ≤ width v
width_some Q_UPDOWN = omega arith
width_some v = omega arith

first_no_flag : (v : Var) (p : Named) (more : List Named) → (is_of v p.0 ≡ false) ⊎ (2 ^ width v ≤ p.1) → next_flag v (named (p ∷ more)) ≡ None
unfolding next_flag
first_no_flag v p more (inl f) = ap (λ (b : Bool). if b then flag_of p.1 (named more) else None) f
first_no_flag v p more (inr large) =
    let two = pow-le-pow_right {n = 2} (omega arith) {i = 1} {j = width v} (width_some v) in
    by_false (is_of v p.0) (flag_of p.1 (named more)) (flag_large p.1 more (omega (arith, two, large)))

pub none_named : (v : Var) (t : List ℕ) → Lacks v t → next_number v (named (named_left t)) ≡ None
none_named v t lacks =
    let (p, more, is, other) = others v t lacks in
    ap (λ (ps : List Named). next_number v (named ps)) is ∙ first_none v p more other

pub no_flag_named : (v : Var) (t : List ℕ) → Lacks v t → next_flag v (named (named_left t)) ≡ None
no_flag_named v t lacks =
    let (p, more, is, other) = others v t lacks in
    ap (λ (ps : List Named). next_flag v (named ps)) is ∙ first_no_flag v p more other

-- ---- The pairs of a list and what is after it.

name_some : (v : Var) (t : List ℕ) → name v ≡ 0 ∷ t → ⊥
name_some Q_UPDOWN t e = absurd cc
name_some v t e = absurd cc

stuck_not : (x : Sent) (t : List ℕ) → stuck t ≡ named_as x → ⊥
stuck_not x t e = name_some x.0 t (sym (ap (λ (p : Named). p.0.0) e))

ends : (t rest : List ℕ) (r : Reading) → stuck t ∷ [] ≡ map named_as r ++ stuck rest ∷ [] → t ≡ listed_text true (map named_as r) ++ rest
ends t rest [] e = let same : stuck t ≡ stuck rest = cc in ap (λ (p : Named). drop 1 p.0.0) same
ends t rest (x ∷ r) e = let first : stuck t ≡ named_as x = cc in absurd (stuck_not x t first)

never_none : (k : ℕ) (t : List ℕ) → named_from k t ≡ [] → ⊥
never_none zero t e = absurd cc
never_none (suc k) t e = by_first (first_pair t) e
  where
    by_first : (o : Option (Named × List ℕ)) → with_more o t (λ s. named_from k s) ≡ [] → ⊥
    by_first None e = absurd cc
    by_first (Some x) e = absurd cc

listed_from : (k : ℕ) (t rest : List ℕ) (r : Reading) → named_from k t ≡ map named_as r ++ stuck rest ∷ [] → t ≡ listed_text true (map named_as r) ++ rest
listed_from zero t rest r e = ends t rest r e
listed_from (suc k) t rest r e = by_first (first_pair t) refl r e (λ s r'. listed_from k s rest r')
  where
    by_first : (o : Option (Named × List ℕ)) → first_pair t ≡ o → (r : Reading) → with_more o t (λ s. named_from k s) ≡ map named_as r ++ stuck rest ∷ [] → ((s : List ℕ) (r' : Reading) → named_from k s ≡ map named_as r' ++ stuck rest ∷ [] → s ≡ listed_text true (map named_as r') ++ rest) → t ≡ listed_text true (map named_as r) ++ rest
    by_first None h r e more = ends t rest r e
    by_first (Some (p, s)) h [] e more = let none : named_from k s ≡ [] = cc in absurd (never_none k s none)
    by_first (Some (p, s)) h (x ∷ r) e more =
        let first : p ≡ named_as x = cc in
        let others : named_from k s ≡ map named_as r ++ stuck rest ∷ [] = cc in
        let one = pair_text (named_as x) in
        (first_was t p s h).0
        ∙ ap (λ (q : Named). 44 ∷ (pair_text q ++ s)) first
        ∙ ap (λ (z : List ℕ). 44 ∷ (one ++ z)) (more s r others)
        ∙ ap (λ (z : List ℕ). 44 ∷ z) (sym (append_assoc one (listed_text true (map named_as r)) rest))

closed : (c : ℕ) (t : List ℕ) → (c ≡ 44 → ⊥) → named_left (c ∷ t) ≡ stuck (c ∷ t) ∷ []
closed c t other = by_first (first_pair (c ∷ t)) refl
  where
    by_first : (o : Option (Named × List ℕ)) → first_pair (c ∷ t) ≡ o → named_left (c ∷ t) ≡ stuck (c ∷ t) ∷ []
    by_first None e = named_none (c ∷ t) e
    by_first (Some (p, s)) e =
        let was : c ∷ t ≡ 44 ∷ (pair_text p ++ s) = (first_was (c ∷ t) p s e).0 in
        let comma : c ≡ 44 = cc in
        absurd (other comma)

-- the pairs of r are the pairs of a text up to a bracket
pub listed_up_to : (t rest : List ℕ) (r : Reading) → named (named_left t) ≡ ahead r (named (named_left (93 ∷ rest))) → t ≡ listed_text true (map named_as r) ++ 93 ∷ rest
unfolding named_left
listed_up_to t rest r e =
    let same : named_from (length t) t ≡ map named_as r ++ named_left (93 ∷ rest) = cc in
    listed_from (length t) t (93 ∷ rest) r (same ∙ ap (λ (ps : List Named). map named_as r ++ ps) (closed 93 rest (λ e. omega (arith, e))))
