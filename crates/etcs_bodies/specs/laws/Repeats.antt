-- Lemmas about specs/Repeats.antt.
use Rattle.std.proofs.Common.{◌≡◌, ℕ, zero, suc, ◌+◌, List, [], ◌∷◌, ◌++◌, length, Option, Some, None, refl, sym, ap, ◌∙◌, append_assoc, subst, arith}
use Rattle.std.specs.Prelude.{All, flat_map}
use Rattle.std.proofs.lemmas.List.Elements.{All-nil, All-cons, All-head, All-tail}
use Rattle.std.proofs.lemmas.List.{length-append}
use Rattle.etcs_bits.specs.Bits.{num}
use Rattle.etcs_bits.proofs.Numbers.{length-num}
use Rattle.etcs_vars.specs.Vars.{width}
use Rattle.etcs_vars.specs.declared.var.Var.{Var}
use Rattle.etcs_vars.specs.Reading.{Reading, Times, spelled}
use Rattle.etcs_bodies.specs.Taking.{Left, ahead, ◌and_then◌, next_number, times_from}
use Rattle.etcs_bodies.specs.laws.Takes.{ahead_none, ahead_both, taken, some_pair}
use Rattle.etcs_bodies.specs.Repeats.{Stand, beyond, bit_count}

-- the readings of values, one after another
pub times_in : {V : Type 0} (P : Reading → Type 0) (reading : V → Reading) (IsValue : V → Type 0)
    → ((v : V) → IsValue v → P (reading v)) → (vs : List V) → All IsValue vs → Times (length vs) P (flat_map reading vs)
times_in P reading IsValue one [] h = refl
times_in P reading IsValue one (v ∷ vs) h = (reading v, flat_map reading vs, refl, one v (All-head IsValue v vs h), times_in P reading IsValue one vs (All-tail IsValue v vs h))

pub times_out : {V : Type 0} (P : Reading → Type 0) (reading : V → Reading) (IsValue : V → Type 0)
    → ((r : Reading) → P r → (v : V) × IsValue v × (r ≡ reading v)) → (n : ℕ) (r : Reading) → Times n P r
    → (vs : List V) × All IsValue vs × (length vs ≡ n) × (r ≡ flat_map reading vs)
times_out P reading IsValue one zero r h = ([], All-nil IsValue, refl, h)
times_out P reading IsValue one (suc n) r (a, b, e, ha, hb) =
    let x = one a ha in
    let xs = times_out P reading IsValue one n b hb in
    (x.0 ∷ xs.0, All-cons IsValue x.0 xs.0 x.1 xs.1, ap suc xs.2, (let s : b ≡ flat_map reading xs.0 = xs.3 in let t : a ≡ reading x.0 = x.2 in let u : a ++ b ≡ reading x.0 ++ flat_map reading xs.0 = cc in e ∙ u))

-- what is taken as often as there are values, are the values
pub times_complete : {V : Type 0} (from : Left → Option (V × Left)) (reading : V → Reading) (IsValue : V → Type 0)
    → ((v : V) (s : Left) → IsValue v → from (ahead (reading v) s) ≡ Some (v, s)) → (vs : List V) (s : Left) → All IsValue vs → times_from from (length vs) (ahead (flat_map reading vs) s) ≡ Some (vs, s)
unfolding times_from
times_complete from reading IsValue one [] s h = rw (ahead_none s) refl
times_complete from reading IsValue one (v ∷ vs) s h =
    rw (ahead_both (reading v) (flat_map reading vs) s, one v (ahead (flat_map reading vs) s) (All-head IsValue v vs h), times_complete from reading IsValue one vs s (All-tail IsValue v vs h)) refl

carried_all : {V : Type 0} (IsValue : V → Type 0) (reading : V → Reading) (n : ℕ) (s : Left) (a b : List V) (t u : Left) → ◌≡◌ {A = Option (List V × Left)} (Some (a, t)) (Some (b, u)) → Stand IsValue reading n s a t → Stand IsValue reading n s b u
carried_all IsValue reading n s a b t u e h = let p = some_pair a b t u e in subst (λ x. Stand IsValue reading n s x u) p.0 (subst (λ y. Stand IsValue reading n s a y) p.1 h)

-- and are there
pub times_sound : {V : Type 0} (from : Left → Option (V × Left)) (reading : V → Reading) (IsValue : V → Type 0)
    → ((v : V) (s t : Left) → from s ≡ Some (v, t) → IsValue v × (s ≡ ahead (reading v) t)) → (n : ℕ) (vs : List V) (s t : Left) → times_from from n s ≡ Some (vs, t) → All IsValue vs × (length vs ≡ n) × (s ≡ ahead (flat_map reading vs) t)
unfolding times_from
times_sound from reading IsValue one zero vs s t h = carried_all IsValue reading zero s [] vs s t h (All-nil IsValue, refl, sym (ahead_none s))
times_sound from reading IsValue one (suc n) vs s t h =
    let a = taken (from s) (λ v. times_from from n v.1 and_then λ us. Some (v.0 ∷ us.0, us.1)) (vs, t) h in
    let b = taken (times_from from n a.0.1) (λ us. Some (a.0.0 ∷ us.0, us.1)) (vs, t) a.2 in
    let first = one a.0.0 s a.0.1 a.1 in
    let more = times_sound from reading IsValue one n b.0.0 a.0.1 b.0.1 b.1 in
    carried_all IsValue reading (suc n) s (a.0.0 ∷ b.0.0) vs b.0.1 t b.2 (
      All-cons IsValue a.0.0 b.0.0 first.0 more.0,
      ap suc more.1,
      first.1 ∙ ap (ahead (reading a.0.0)) more.2 ∙ sym (ahead_both (reading a.0.0) (flat_map reading b.0.0) b.0.1),
    )

pub after_more : {V : Type 0} (vs : List V) (v : V) (o : Option (List V × Left)) → beyond vs (o and_then λ us. Some (v ∷ us.0, us.1)) ≡ beyond (vs ++ v ∷ []) o
after_more vs v None = refl
after_more vs v (Some more) = ap (λ l. Some (l, more.1)) (sym (append_assoc vs (v ∷ []) more.0))

-- a list after its count
pub list_is : {V : Type 0} (from : Left → Option (V × Left)) (v : Var) (n : ℕ) (vs : List V) (s t u : Left) → next_number v s ≡ Some (n, t) → times_from from n t ≡ Some (vs, u) → (next_number v s and_then λ m. times_from from m.0 m.1) ≡ Some (vs, u)
list_is from v n vs s t u h k = rw (h, k) refl

pub list_missing : {V : Type 0} (from : Left → Option (V × Left)) (v : Var) (n : ℕ) (s t : Left) → next_number v s ≡ Some (n, t) → times_from from n t ≡ None → (next_number v s and_then λ m. times_from from m.0 m.1) ≡ None
list_missing from v n s t h k = rw (h, k) refl

pub list_uncounted : {V : Type 0} (from : Left → Option (V × Left)) (v : Var) (s : Left) → next_number v s ≡ None → (next_number v s and_then λ m. times_from from m.0 m.1) ≡ None
list_uncounted from v s h = rw h refl

-- ---- How many bits.

pub bit_count_is : (r : Reading) → length (spelled r) ≡ bit_count r
bit_count_is [] = refl
bit_count_is (p ∷ r) = length-append (num (width p.0) p.1) (spelled r) ∙ rw (length-num, bit_count_is r) refl

pub bit_count-append : (a b : Reading) → bit_count (a ++ b) ≡ bit_count a + bit_count b
bit_count-append [] b = omega arith
bit_count-append (p ∷ a) b = let e = bit_count-append a b in omega arith
