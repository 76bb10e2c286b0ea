-- What a walk says about what is left of a row holds for all bits of the row.
use Rattle.std.proofs.Common.{◌≡◌, ℕ, ◌-◌, ◌≤◌, Bool, List, [], ◌∷◌, ◌++◌, length, Some, None, true, false, refl, sym, ap, subst, ◌∙◌, arith, append_assoc}
use Rattle.std.specs.Prelude.{◌↔◌, IsTrue, if◌then◌else◌}
use Rattle.std.proofs.lemmas.List.{length-append}
use Rattle.etcs_bits.specs.Bits.{num}
use Rattle.etcs_bits.proofs.Numbers.{length-num, num_same}
use Rattle.etcs_vars.specs.declared.var.Var.{Var}
use Rattle.etcs_vars.specs.Vars.{width, admits}
use Rattle.etcs_vars.specs.Reading.{Reading, spelled, holder, InLanguage, Viable, Owner}
use Rattle.etcs_vars.proofs.Apart.{cut}
use Rattle.etcs_vars.proofs.Prefixes.{admits_parts}
use Rattle.etcs_vars.specs.laws.Spellings.{spelled-append}
use Rattle.etcs_vars.proofs.Sent.{length-sent, holder-append}
use Rattle.etcs_tables.specs.Layouts.{Layout, whole, one, guarded, counted, looks, Reads, ReadsIn}
use Rattle.etcs_rows.specs.Places.{onto, after_number}
use Rattle.etcs_rows.specs.Walks.{ReadTo, WalksWhole}
use Rattle.etcs_rows.proofs.Following.{follows, looks-onto}
use Rattle.etcs_rows.proofs.PlaceLemmas.{sound_parts}

-- ---- One variable.

-- a number sent in front of a reading
abbrev sent : Var → ℕ → Reading → Reading
sent v n r = (v, n) ∷ r

after_test : (b : Bool) (x y : Layout) → (if b then Some x else None) ≡ Some y → IsTrue b × (x ≡ y)
after_test true x y e = (refl, let t : x ≡ y = cc in t)
after_test false x y e = absurd cc

-- what is left after a number that the row admits
pub after_one : (v : Var) (rest mid : Layout) (n : ℕ) → after_number (one v rest) n ≡ Some mid → IsTrue (admits v n) × (onto n rest whole ≡ mid)
after_one v rest mid n e = after_test (admits v n) (onto n rest whole) mid e

-- a reading of the row that begins with the number's bits begins with the number
pub one_front : (v : Var) (rest mid : Layout) (len n : ℕ) (r : Reading) (d : List Bool) → IsTrue (looks None (one v rest)) → after_number (one v rest) n ≡ Some mid → ReadsIn (one v rest) len r → spelled r ≡ num (width v) n ++ d
    → (q : Reading) × (r ≡ (v, n) ∷ q) × ReadsIn mid (len - width v) q × (spelled q ≡ d)
unfolding Reads
one_front v rest mid len n r d look e ((m, q, ok, is, reads), l) b =
    let a = after_one v rest mid n e in
    let bits : num (width v) m ++ spelled q ≡ num (width v) n ++ d = sym (ap spelled is) ∙ b in
    let parts = cut (num (width v) m) (num (width v) n) (spelled q) d (length-num (width v) m ∙ sym (length-num (width v) n)) bits in
    let same : m ≡ n = num_same (width v) m n (admits_parts v m ok).1 (admits_parts v n a.0).1 parts.0 in
    let is' : r ≡ (v, n) ∷ q = is ∙ ap (λ (k : ℕ). sent v k q) same in
    let left : Reads (onto n rest whole) [] q = (follows v rest n look a.0 q).0 (subst (λ (t : Reading). Reads (one v rest) [] t) is' (m, q, ok, is, reads)) in
    let len' : length (spelled q) ≡ len - width v = omega (arith, l, ap (λ (t : Reading). length (spelled t)) is, length-sent v m q) in
    (q, is', (subst (λ (x : Layout). Reads x [] q) a.1 left, len'), parts.1)

-- and back
pub one_back : (v : Var) (rest mid : Layout) (len n : ℕ) (q : Reading) → IsTrue (looks None (one v rest)) → after_number (one v rest) n ≡ Some mid → width v ≤ len → ReadsIn mid (len - width v) q → ReadsIn (one v rest) len ((v, n) ∷ q)
one_back v rest mid len n q look e wide (reads, l) =
    let a = after_one v rest mid n e in
    ((follows v rest n look a.0 q).1 (subst (λ (x : Layout). Reads x [] q) (sym a.1) reads), (let s = length-sent v n q in omega (arith, s, l, wide)))

pub one_looks : (v : Var) (rest mid : Layout) (n : ℕ) → IsTrue (looks None (one v rest)) → after_number (one v rest) n ≡ Some mid → IsTrue (looks None mid)
one_looks v rest mid n look e = subst (λ (x : Layout). IsTrue (looks None x)) (after_one v rest mid n e).1 (looks-onto n (Some v) rest whole tt look refl)

-- ---- All variables that were read.

-- a reading of the row that begins with their bits begins with them
pub front : (row left : Layout) (len bits : ℕ) (p r : Reading) (d : List Bool) → IsTrue (looks None row) → ReadTo row len p left bits → ReadsIn row len r → spelled r ≡ spelled p ++ d → (q : Reading) × (r ≡ p ++ q) × ReadsIn left bits q × (spelled q ≡ d)
front row left len bits [] r d look (same, much) l e = (r, refl, rw (same, much) l, e)
front whole left len bits ((v, n) ∷ p) r d look (mid, f, a, wide, to) l e = absurd cc
front (one w rest) left len bits ((v, n) ∷ p) r d look (mid, f, a, wide, to) l e =
    let same : w ≡ v = cc in
    let e' : spelled r ≡ num (width w) n ++ (spelled p ++ d) = e ∙ append_assoc (num (width v) n) (spelled p) d ∙ ap (λ x. num (width x) n ++ (spelled p ++ d)) (sym same) in
    let o = one_front w rest mid len n r (spelled p ++ d) look a l e' in
    let to' : ReadTo mid (len - width w) p left bits = rw same to in
    let t = front mid left (len - width w) bits p o.0 d (one_looks w rest mid n look a) to' o.2 o.3 in
    (t.0, o.1 ∙ ap (λ (x : Var). sent x n o.0) same ∙ ap (λ (x : Reading). (v, n) ∷ x) t.1, t.2, t.3)
front (guarded g group rest) left len bits ((v, n) ∷ p) r d look (mid, f, a, wide, to) l e = absurd cc
front (counted group rest) left len bits ((v, n) ∷ p) r d look (mid, f, a, wide, to) l e = absurd cc

pub back : (row left : Layout) (len bits : ℕ) (p q : Reading) → IsTrue (looks None row) → ReadTo row len p left bits → ReadsIn left bits q → ReadsIn row len (p ++ q)
back row left len bits [] q look (same, much) l = rw (← same, ← much) l
back whole left len bits ((v, n) ∷ p) q look (mid, f, a, wide, to) l = absurd cc
back (one w rest) left len bits ((v, n) ∷ p) q look (mid, f, a, wide, to) l =
    let same : w ≡ v = cc in
    let to' : ReadTo mid (len - width w) p left bits = rw same to in
    let b = one_back w rest mid len n (p ++ q) look a (rw same wide) (back mid left (len - width w) bits p q (one_looks w rest mid n look a) to' l) in
    subst (λ x. ReadsIn (one w rest) len ((x, n) ∷ (p ++ q))) same b
back (guarded g group rest) left len bits ((v, n) ∷ p) q look (mid, f, a, wide, to) l = absurd cc
back (counted group rest) left len bits ((v, n) ∷ p) q look (mid, f, a, wide, to) l = absurd cc

-- ---- The law.

module _ (row left : Layout) (len bits : ℕ) (p : Reading) (t : List Bool) (look : IsTrue (looks None row)) (to : ReadTo row len p left bits) where
  viable : Viable (ReadsIn row len) (spelled p ++ t) ↔ Viable (ReadsIn left bits) t
  viable = (
    λ (r, c, l, e). (let q = front row left len bits p r (t ++ c) look to l (e ∙ append_assoc (spelled p) t c) in (q.0, c, q.2, q.3)),
    λ (q, c, l, e). (p ++ q, c, back row left len bits p q look to l, spelled-append p q ∙ ap (λ (u : List Bool). spelled p ++ u) e ∙ sym (append_assoc (spelled p) t c)),
  )

  spelling : InLanguage (ReadsIn row len) (spelled p ++ t) ↔ InLanguage (ReadsIn left bits) t
  spelling = (
    λ (r, l, e). (let q = front row left len bits p r t look to l e in (q.0, q.2, q.3)),
    λ (q, l, e). (p ++ q, back row left len bits p q look to l, spelled-append p q ∙ ap (λ (u : List Bool). spelled p ++ u) e),
  )

  owned : (x : Var) → Owner (ReadsIn left bits) t x → Owner (ReadsIn row len) (spelled p ++ t) x
  owned x o = record {
    viable = viable.1 o.viable;
    open_end = λ w. o.open_end (spelling.0 w);
    holds = λ r c l e.
        let q = front row left len bits p r (t ++ c) look to l (e ∙ append_assoc (spelled p) t c) in
        ap (λ (u : Reading). holder u (length (spelled p ++ t))) q.1 ∙ ap (holder (p ++ q.0)) (length-append (spelled p) t) ∙ holder-append p q.0 (length t) ∙ o.holds q.0 c q.2 q.3;
  }

pub walks_whole : WalksWhole
walks_whole row len p left bits t sound to =
    let look = (sound_parts row sound).1 in
    record { viable = viable row left len bits p t look to; spelling = spelling row left len bits p t look to; owner = owned row left len bits p t look to }
