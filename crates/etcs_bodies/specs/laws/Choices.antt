-- Lemmas about specs/Choices.antt.
use Rattle.std.proofs.Common.{◌≡◌, ℕ, ◌*◌, ◌≤◌, Bool, true, false, List, [], ◌∷◌, ◌++◌, length, Option, Some, None, refl, sym, ap, ◌∙◌, subst, arith, ◌⊎◌, inl, inr}
use Rattle.std.specs.Prelude.{MatchBool, not, flat_map}
use Rattle.std.proofs.lemmas.List.{append-nil}
use Rattle.etcs_vars.specs.declared.var.Var.{Var}
use Rattle.etcs_vars.specs.declared.var.Var.TheVariants.{N_ITER}
use Rattle.etcs_vars.specs.Vars.{admits}
use Rattle.etcs_bits.specs.Bits.{bit}
use Rattle.etcs_vars.specs.Faults.{number_fault}
use Rattle.etcs_vars.specs.Reading.{Reading, Then}
use Rattle.etcs_tables.specs.declared.item.Guard.{Guard}
use Rattle.etcs_tables.specs.declared.item.Test.{Test}
use Rattle.etcs_tables.specs.declared.item.Test.TheVariants.{IsZero, IsOne}
use Rattle.etcs_tables.specs.Layouts.{Layout, whole, Scope, Reads, holds, passes}
use Rattle.etcs_bodies.specs.Faults.{count_fault}
use Rattle.etcs_bodies.specs.Taking.{Left, ahead, ◌and_then◌, next_number, next_flag}
use Rattle.etcs_bodies.specs.laws.Takes.{admitted, number_ok, ahead_both, taken, some_pair, next_is, next_sound, counted_admitted, in_width, flag_is, flag_sound}
use Rattle.etcs_bodies.specs.Repeats.{bit_count}
use Rattle.etcs_bodies.specs.laws.Repeats.{bit_count-append}
use Rattle.etcs_bodies.specs.Codecs.{Codes, Found, IsFlag}
use Rattle.etcs_bodies.specs.laws.Codecs.{holds_here, carried, flag_of}
use Rattle.etcs_bodies.specs.Choices.{IsChoice, choice_reading, choice_from, choice_row, IsEither, either_reading, side_from, either_from, either_row}

-- ---- A list after its count.

-- entries that N_ITER counts
pub few_counted : (many : ℕ) → count_fault N_ITER many ≡ None → many ≤ 31
few_counted many h = let few = in_width N_ITER many (counted_admitted N_ITER many h) in omega arith

-- ---- Nothing after a part.

module _ {V : Type 0} {row : Layout → Layout} {IsV : V → Type 0} {reading : V → Reading} {from : Left → Option (V × Left)} (codes : Codes row IsV reading from) where
  pub whole_in : (v : V) (s : Scope) → IsV v → Reads (row whole) s (reading v)
  unfolding Reads
  whole_in v s h = let g = codes.into v whole s [] h (λ t. refl) in rw (append-nil (reading v)) at g

  pub whole_out : (s : Scope) (r : Reading) → Reads (row whole) s r → (v : V) × IsV v × (r ≡ reading v)
  unfolding Reads
  whole_out s r h =
      let o = codes.out whole s r h in
      (o.0, o.3, (let e : o.1 ≡ [] = o.5 in o.4 ∙ ap (λ (x : Reading). reading o.0 ++ x) e ∙ append-nil (reading o.0)))

-- ---- One group if the number passes a test, another if it doesn't.

stands : (b : Bool) (P Q : Type 0) → b ≡ true → P → MatchBool b P Q
stands true P Q e p = p
stands false P Q e p = absurd cc

is_left_out : (b : Bool) (P Q : Type 0) → b ≡ false → Q → MatchBool b P Q
is_left_out true P Q e q = absurd cc
is_left_out false P Q e q = q

-- of the numbers that the variable admits, each passes one of the tests
module _ {W : Type 0} (v : Var) (test other : Test) (apart : (n : ℕ) → admits v n ≡ true → passes other n ≡ not (passes test n)) {row : Bool → Layout → Layout} {IsW : Bool → W → Type 0} {reading : Bool → W → Reading} {from : Bool → Left → Option (W × Left)} (groups : (b : Bool) → Codes (row b) (IsW b) (reading b) (from b)) where
  abbrev first : Guard
  first = record { var = v; test = test }

  abbrev second : Guard
  second = record { var = v; test = other }

  -- the second group, and the rest
  abbrev SecondAndRest : Layout → Scope → Reading → Type 0
  SecondAndRest rest t x = MatchBool (holds second t) (Then (Reads (row false whole) t) (Reads rest t) x) (Reads rest t x)

  into_by : (b : Bool) (n : ℕ) (w : W) (rest : Layout) (s : Scope) (x : Reading) → passes test n ≡ b → passes other n ≡ not b → IsW b w → Reads rest ((v, n) ∷ s) x
      → MatchBool (holds first ((v, n) ∷ s)) (Then (Reads (row true whole) ((v, n) ∷ s)) (SecondAndRest rest ((v, n) ∷ s)) (reading b w ++ x)) (SecondAndRest rest ((v, n) ∷ s) (reading b w ++ x))
  into_by true n w rest s x p q h k =
      let t = (v, n) ∷ s in
      stands (holds first t) (Then (Reads (row true whole) t) (SecondAndRest rest t) (reading true w ++ x)) (SecondAndRest rest t (reading true w ++ x)) (holds_here v test n s ∙ p)
      (reading true w, x, refl, whole_in (groups true) w t h, is_left_out (holds second t) (Then (Reads (row false whole) t) (Reads rest t) x) (Reads rest t x) (holds_here v other n s ∙ q) k)
  into_by false n w rest s x p q h k =
      let t = (v, n) ∷ s in
      is_left_out (holds first t) (Then (Reads (row true whole) t) (SecondAndRest rest t) (reading false w ++ x)) (SecondAndRest rest t (reading false w ++ x)) (holds_here v test n s ∙ p)
      (stands (holds second t) (Then (Reads (row false whole) t) (Reads rest t) (reading false w ++ x)) (Reads rest t (reading false w ++ x)) (holds_here v other n s ∙ q)
      (reading false w, x, refl, whole_in (groups false) w t h, k))

  -- a number, its group and the rest are a choice's
  found : (b : Bool) (n : ℕ) (rest : Layout) (s : Scope) (r g x : Reading) → passes test n ≡ b → number_fault v n ≡ None → r ≡ (v, n) ∷ (g ++ x) → Reads (row b whole) ((v, n) ∷ s) g → Reads rest ((v, n) ∷ s) x
      → Found (IsChoice v test IsW) (choice_reading v test reading) rest r
  found b n rest s r g x p ok e rg rx =
      let o = whole_out (groups b) ((v, n) ∷ s) g rg in (
        (n, o.0),
        x,
        (v, n) ∷ s,
        (ok, subst (λ c. IsW c o.0) (sym p) o.1),
        e ∙ ap (λ (t : Reading). (v, n) ∷ (t ++ x)) (o.2 ∙ ap (λ c. reading c o.0) (sym p)),
        rx,
      )

  out_by : (b c : Bool) (n : ℕ) (rest : Layout) (s : Scope) (r x : Reading) → passes test n ≡ b → c ≡ not b → number_fault v n ≡ None → r ≡ (v, n) ∷ x
      → MatchBool b (Then (Reads (row true whole) ((v, n) ∷ s)) (λ y. MatchBool c (Then (Reads (row false whole) ((v, n) ∷ s)) (Reads rest ((v, n) ∷ s)) y) (Reads rest ((v, n) ∷ s) y)) x)
      (MatchBool c (Then (Reads (row false whole) ((v, n) ∷ s)) (Reads rest ((v, n) ∷ s)) x) (Reads rest ((v, n) ∷ s) x))
      → Found (IsChoice v test IsW) (choice_reading v test reading) rest r
  out_by true true n rest s r x p q ok e k = absurd cc
  out_by true false n rest s r x p q ok e (g, y, i, rg, ry) = found true n rest s r g y p ok (e ∙ ap (λ (t : Reading). (v, n) ∷ t) i) rg ry
  out_by false true n rest s r x p q ok e (g, y, i, rg, ry) = found false n rest s r g y p ok (e ∙ ap (λ (t : Reading). (v, n) ∷ t) i) rg ry
  out_by false false n rest s r x p q ok e k = absurd cc

  pub choice : Codes (choice_row v test other row) (IsChoice v test IsW) (choice_reading v test reading) (choice_from v test from)
  unfolding Reads
  choice = record {
    complete = λ p s h.
        let b = passes test p.0 in
        rw (ahead_both ((v, p.0) ∷ []) (reading b p.1) s, next_is v p.0 (ahead (reading b p.1) s) h.0, (groups b).complete p.1 s h.1) refl;
    sound = λ p s t e.
        let a = taken (next_number v s) (λ n. from (passes test n.0) n.1 and_then λ w. Some ((n.0, w.0), w.1)) (p, t) e in
        let b = passes test a.0.0 in
        let c = taken (from b a.0.1) (λ w. Some ((a.0.0, w.0), w.1)) (p, t) a.2 in
        let n = next_sound v a.0.0 s a.0.1 a.1 in
        let w = (groups b).sound c.0.0 a.0.1 c.0.1 c.1 in
        carried (IsChoice v test IsW) (choice_reading v test reading) s (a.0.0, c.0.0) p c.0.1 t c.2 ((n.0, w.0), n.1 ∙ ap (ahead ((v, a.0.0) ∷ [])) w.1 ∙ sym (ahead_both ((v, a.0.0) ∷ []) (reading b c.0.0) c.0.1));
    into = λ p rest s x h k.
        let b = passes test p.0 in
        (p.0, reading b p.1 ++ x, admitted v p.0 h.0, refl, into_by b p.0 p.1 rest s x refl (apart p.0 (admitted v p.0 h.0)) h.1 (k ((v, p.0) ∷ s)));
    out = λ rest s r (n, x, h, e, k).
        let t = (v, n) ∷ s in
        let Both : Bool → Bool → Type 0 = λ b c. MatchBool b (Then (Reads (row true whole) t) (λ y. MatchBool c (Then (Reads (row false whole) t) (Reads rest t) y) (Reads rest t y)) x) (MatchBool c (Then (Reads (row false whole) t) (Reads rest t) x) (Reads rest t x)) in
        let k1 : Both (passes test n) (holds second t) = subst (λ b. Both b (holds second t)) (holds_here v test n s) k in
        let k2 : Both (passes test n) (passes other n) = subst (Both (passes test n)) (holds_here v other n s) k1 in
        out_by (passes test n) (passes other n) n rest s r x refl (apart n h) (number_ok v n h) e k2;
  }

-- ---- After a flag one group if it is 1, another if it is 0.

module _ {A B : Type 0} (v : Var) (is : IsFlag v) {row row' : Layout → Layout} {IsA : A → Type 0} {IsB : B → Type 0} {reading : A → Reading} {reading' : B → Reading} {from : Left → Option (A × Left)} {from' : Left → Option (B × Left)} (one_codes : Codes row IsA reading from) (zero_codes : Codes row' IsB reading' from') where
  abbrev if_one : Guard
  if_one = record { var = v; test = IsOne }

  abbrev if_zero : Guard
  if_zero = record { var = v; test = IsZero }

  -- the group of 0, and the rest
  abbrev Zero : Layout → Scope → Bool → Reading → Type 0
  Zero rest t c x = MatchBool c (Then (Reads (row' whole) t) (Reads rest t) x) (Reads rest t x)

  either_complete : (p : A ⊎ B) (s : Left) → IsEither IsA IsB p → either_from v from from' (ahead (either_reading v reading reading' p) s) ≡ Some (p, s)
  either_complete (inl a) s h = rw (ahead_both ((v, 1) ∷ []) (reading a) s, flag_is v true (ahead (reading a) s) is.0, one_codes.complete a s h) refl
  either_complete (inr b) s h = rw (ahead_both ((v, 0) ∷ []) (reading' b) s, flag_is v false (ahead (reading' b) s) is.0, zero_codes.complete b s h) refl

  side_sound : (c : Bool) (p : A ⊎ B) (s t : Left) → side_from from from' c s ≡ Some (p, t) → IsEither IsA IsB p × (ahead ((v, bit c) ∷ []) s ≡ ahead (either_reading v reading reading' p) t)
  side_sound true p s t e =
      let k = taken (from s) (λ a. Some (inl a.0, a.1)) (p, t) e in
      let there = one_codes.sound k.0.0 s k.0.1 k.1 in
      let i = some_pair (inl k.0.0) p k.0.1 t k.2 in
      subst (λ (q : A ⊎ B). IsEither IsA IsB q × (ahead ((v, 1) ∷ []) s ≡ ahead (either_reading v reading reading' q) t)) i.0
      (there.0, ap (ahead ((v, 1) ∷ [])) there.1 ∙ sym (ahead_both ((v, 1) ∷ []) (reading k.0.0) k.0.1) ∙ ap (ahead ((v, 1) ∷ reading k.0.0)) i.1)
  side_sound false p s t e =
      let k = taken (from' s) (λ b. Some (inr b.0, b.1)) (p, t) e in
      let there = zero_codes.sound k.0.0 s k.0.1 k.1 in
      let i = some_pair (inr k.0.0) p k.0.1 t k.2 in
      subst (λ (q : A ⊎ B). IsEither IsA IsB q × (ahead ((v, 0) ∷ []) s ≡ ahead (either_reading v reading reading' q) t)) i.0
      (there.0, ap (ahead ((v, 0) ∷ [])) there.1 ∙ sym (ahead_both ((v, 0) ∷ []) (reading' k.0.0) k.0.1) ∙ ap (ahead ((v, 0) ∷ reading' k.0.0)) i.1)

  either_into : (p : A ⊎ B) (rest : Layout) (s : Scope) (x : Reading) → IsEither IsA IsB p → ((t : Scope) → Reads rest t x) → Reads (either_row v row row' rest) s (either_reading v reading reading' p ++ x)
  unfolding Reads
  either_into (inl a) rest s x h k =
      let t : Scope = (v, 1) ∷ s in (
        1,
        reading a ++ x,
        is.2,
        refl,
        stands (holds if_one t) (Then (Reads (row whole) t) (Zero rest t (holds if_zero t)) (reading a ++ x)) (Zero rest t (holds if_zero t) (reading a ++ x)) (holds_here v IsOne 1 s)
            (reading a, x, refl, whole_in one_codes a t h, is_left_out (holds if_zero t) (Then (Reads (row' whole) t) (Reads rest t) x) (Reads rest t x) (holds_here v IsZero 1 s) (k t)),
      )
  either_into (inr b) rest s x h k =
      let t : Scope = (v, 0) ∷ s in (
        0,
        reading' b ++ x,
        is.1,
        refl,
        is_left_out (holds if_one t) (Then (Reads (row whole) t) (Zero rest t (holds if_zero t)) (reading' b ++ x)) (Zero rest t (holds if_zero t) (reading' b ++ x)) (holds_here v IsOne 0 s)
            (stands (holds if_zero t) (Then (Reads (row' whole) t) (Reads rest t) (reading' b ++ x)) (Reads rest t (reading' b ++ x)) (holds_here v IsZero 0 s) (reading' b, x, refl, whole_in zero_codes b t h, k t)),
      )

  -- what a flag and what comes after it are
  either_by : (c : Bool) (rest : Layout) (s : Scope) (r x : Reading) → r ≡ (v, bit c) ∷ x
      → MatchBool c (Then (Reads (row whole) ((v, bit c) ∷ s)) (Zero rest ((v, bit c) ∷ s) (not c)) x) (Zero rest ((v, bit c) ∷ s) (not c) x)
      → Found (IsEither IsA IsB) (either_reading v reading reading') rest r
  either_by true rest s r x e (g, y, i, rg, ry) =
      let o = whole_out one_codes ((v, 1) ∷ s) g rg in
      (inl o.0, y, (v, 1) ∷ s, o.1, e ∙ ap (λ (z : Reading). (v, 1) ∷ z) (i ∙ ap (λ (z : Reading). z ++ y) o.2), ry)
  either_by false rest s r x e (g, y, i, rg, ry) =
      let o = whole_out zero_codes ((v, 0) ∷ s) g rg in
      (inr o.0, y, (v, 0) ∷ s, o.1, e ∙ ap (λ (z : Reading). (v, 0) ∷ z) (i ∙ ap (λ (z : Reading). z ++ y) o.2), ry)

  holds_one : (c : Bool) (s : Scope) → holds if_one ((v, bit c) ∷ s) ≡ c
  holds_one true s = holds_here v IsOne 1 s
  holds_one false s = holds_here v IsOne 0 s

  holds_zero : (c : Bool) (s : Scope) → holds if_zero ((v, bit c) ∷ s) ≡ not c
  holds_zero true s = holds_here v IsZero 1 s
  holds_zero false s = holds_here v IsZero 0 s

  pub either : Codes (either_row v row row') (IsEither IsA IsB) (either_reading v reading reading') (either_from v from from')
  unfolding Reads
  either = record {
    complete = either_complete;
    sound = λ p s t e.
        let a = taken (next_flag v s) (λ b. side_from from from' b.0 b.1) (p, t) e in
        let f = flag_sound v a.0.0 s a.0.1 is.0 a.1 in
        let b = side_sound a.0.0 p a.0.1 t a.2 in
        (b.0, f ∙ b.1);
    into = either_into;
    out = λ rest s r (n, x, h, e, k).
        let f = flag_of v n is h in
        let Both : ℕ → Bool → Bool → Type 0 = λ m b c. MatchBool b (Then (Reads (row whole) ((v, m) ∷ s)) (Zero rest ((v, m) ∷ s) c) x) (Zero rest ((v, m) ∷ s) c x) in
        let k1 : Both (bit f.0) (holds if_one ((v, bit f.0) ∷ s)) (holds if_zero ((v, bit f.0) ∷ s)) = subst (λ m. Both m (holds if_one ((v, m) ∷ s)) (holds if_zero ((v, m) ∷ s))) f.1 k in
        let k2 : Both (bit f.0) f.0 (holds if_zero ((v, bit f.0) ∷ s)) = subst (λ b. Both (bit f.0) b (holds if_zero ((v, bit f.0) ∷ s))) (holds_one f.0 s) k1 in
        let k3 : Both (bit f.0) f.0 (not f.0) = subst (Both (bit f.0) f.0) (holds_zero f.0 s) k2 in
        either_by f.0 rest s r x (e ∙ ap (λ m. (v, m) ∷ x) f.1) k3;
  }

-- ---- Bits of a list.

pub bit_count-same : {V : Type 0} (reading : V → Reading) (each : ℕ) → ((v : V) → bit_count (reading v) ≡ each) → (vs : List V) → bit_count (flat_map reading vs) ≡ length vs * each
bit_count-same reading each h [] = omega arith
bit_count-same reading each h (v ∷ vs) =
    let both = bit_count-append (reading v) (flat_map reading vs) in
    let one = h v in
    let more = bit_count-same reading each h vs in
    omega arith
