-- Lemmas about specs/Codecs.antt.
use Rattle.std.proofs.Common.{◌≡◌, ℕ, ◌<◌, ◌^◌, Bool, true, false, [], ◌∷◌, ◌++◌, length, Option, Some, None, refl, sym, ap, ◌∙◌, append_assoc, subst}
use Rattle.std.specs.Prelude.{MatchBool, flat_map}
use Rattle.std.proofs.lemmas.Slice.Eq.{bytes_eq-Decides}
use Rattle.std.proofs.lemmas.List.{append-nil}
use Rattle.etcs_bits.specs.Bits.{bit}
use Rattle.etcs_vars.specs.declared.var.Var.{Var}
use Rattle.etcs_vars.specs.Vars.{admits, name, same_name}
use Rattle.etcs_vars.specs.Faults.{number_fault}
use Rattle.etcs_vars.specs.Reading.{Reading, Then}
use Rattle.etcs_tables.specs.declared.item.Test.{Test}
use Rattle.etcs_tables.specs.declared.item.Test.TheVariants.{IsOne}
use Rattle.etcs_tables.specs.Layouts.{Layout, whole, one, counted, Scope, Reads, holds, nearest, passes}
use Rattle.etcs_bodies.specs.Taking.{Left, ahead, ◌and_then◌, next_number, next_flag, times_from}
use Rattle.etcs_bodies.specs.laws.Takes.{admitted, number_ok, ahead_both, taken, some_pair, next_is, next_sound, count_ok, counted_admitted, flag_is, flag_sound, as_bit, in_width}
use Rattle.etcs_bodies.specs.laws.Repeats.{times_in, times_out, times_complete, times_sound}
use Rattle.etcs_bodies.specs.Codecs.{Found, Stands, Codes, IsBoth, both_reading, both_from, opened, IsGroup, group_reading, group_from, group_row, IsFlag, IsOptional, optional_reading, optional_from, form_from, Forms, IsEntries, list_reading, list_from}

pub carried : {V : Type 0} (IsValue : V → Type 0) (reading : V → Reading) (s : Left) (a b : V) (t u : Left) → ◌≡◌ {A = Option (V × Left)} (Some (a, t)) (Some (b, u)) → Stands IsValue reading s a t → Stands IsValue reading s b u
carried IsValue reading s a b t u e h = let p = some_pair a b t u e in subst (λ x. Stands IsValue reading s x u) p.0 (subst (λ y. Stands IsValue reading s a y) p.1 h)

-- ---- One variable.

pub number : (v : Var) → Codes (one v) (λ (n : ℕ). number_fault v n ≡ None) (λ n. (v, n) ∷ []) (next_number v)
unfolding Reads
number v = record {
  complete = λ n s h. next_is v n s h;
  sound = λ n s t e. next_sound v n s t e;
  into = λ n rest s x h k. (n, x, admitted v n h, refl, k ((v, n) ∷ s));
  out = λ rest s r (n, x, h, e, k). (n, x, (v, n) ∷ s, number_ok v n h, e, k);
}

-- ---- One after another.

pub both : {V W : Type 0} {row row' : Layout → Layout} {IsV : V → Type 0} {IsW : W → Type 0} {reading : V → Reading} {reading' : W → Reading} {from : Left → Option (V × Left)} {from' : Left → Option (W × Left)}
    → Codes row IsV reading from → Codes row' IsW reading' from' → Codes (λ rest. row (row' rest)) (IsBoth IsV IsW) (both_reading reading reading') (both_from from from')
both {row' = row'} {IsV = IsV} {IsW = IsW} {reading = reading} {reading' = reading'} {from = from} {from' = from'} first second = record {
  complete = λ p s h. rw (ahead_both (reading p.0) (reading' p.1) s, first.complete p.0 (ahead (reading' p.1) s) h.0, second.complete p.1 s h.1) refl;
  sound = λ p s t e.
      let a = taken (from s) (λ v. from' v.1 and_then λ w. Some ((v.0, w.0), w.1)) (p, t) e in
      let b = taken (from' a.0.1) (λ w. Some ((a.0.0, w.0), w.1)) (p, t) a.2 in
      let v = first.sound a.0.0 s a.0.1 a.1 in
      let w = second.sound b.0.0 a.0.1 b.0.1 b.1 in
      carried (IsBoth IsV IsW) (both_reading reading reading') s (a.0.0, b.0.0) p b.0.1 t b.2 ((v.0, w.0), v.1 ∙ ap (ahead (reading a.0.0)) w.1 ∙ sym (ahead_both (reading a.0.0) (reading' b.0.0) b.0.1));
  into = λ p rest s x h k.
      rw (append_assoc (reading p.0) (reading' p.1) x) (first.into p.0 (row' rest) s (reading' p.1 ++ x) h.0 (λ t. second.into p.1 rest t x h.1 k));
  out = λ rest s r reads.
      let a = first.out (row' rest) s r reads in
      let b = second.out rest a.2 a.1 a.5 in
      ((a.0, b.0), b.1, b.2, (a.3, b.3), a.4 ∙ ap (λ (t : Reading). reading a.0 ++ t) b.4 ∙ sym (append_assoc (reading a.0) (reading' b.0) b.1), b.5);
}

-- ---- A group that is there if a test holds of the number of a variable.

pub holds_here : (v : Var) (test : Test) (n : ℕ) (s : Scope) → holds (record { var = v; test = test }) ((v, n) ∷ s) ≡ passes test n
holds_here v test n s = let e : same_name v v ≡ true = (bytes_eq-Decides (name v) (name v)).1 refl in rw (e, holds, nearest) refl

module _ {W : Type 0} (v : Var) (test : Test) {row : Layout → Layout} {IsW : W → Type 0} {reading : W → Reading} {from : Left → Option (W × Left)} (group : Codes row IsW reading from) where
  complete_at : (p : ℕ × Option W) (s : Left) → IsGroup v test IsW p → group_from v test from (ahead (group_reading v reading p) s) ≡ Some (p, s)
  complete_at (n, None) s h = rw (next_is v n s h.0, h.1) refl
  complete_at (n, Some w) s h = rw (ahead_both ((v, n) ∷ []) (reading w) s, next_is v n (ahead (reading w) s) h.0, h.1, group.complete w s h.2) refl

  opened_sound : (b : Bool) (n : ℕ) (o : Option W) (s t : Left) → passes test n ≡ b → number_fault v n ≡ None → opened from b s ≡ Some (o, t) → IsGroup v test IsW (n, o) × (ahead ((v, n) ∷ []) s ≡ ahead (group_reading v reading (n, o)) t)
  opened_sound true n None s t p h e =
      let a = taken (from s) (λ w. Some (Some w.0, w.1)) (None, t) e in
      let is = some_pair (Some a.0.0) None a.0.1 t a.2 in
      let bad = is.0 in
      absurd cc
  opened_sound true n (Some w) s t p h e =
      let a = taken (from s) (λ u. Some (Some u.0, u.1)) (Some w, t) e in
      let is = some_pair (Some a.0.0) (Some w) a.0.1 t a.2 in
      let same : a.0.0 ≡ w = (let both = is.0 in cc) in
      let one = group.sound a.0.0 s a.0.1 a.1 in
      let there = subst (λ x. Stands IsW reading s x t) same (subst (λ y. Stands IsW reading s a.0.0 y) is.1 one) in
      ((h, p, there.0), ap (ahead ((v, n) ∷ [])) there.1 ∙ sym (ahead_both ((v, n) ∷ []) (reading w) t))
  opened_sound false n None s t p h e = let is = some_pair None None s t e in ((h, p), ap (ahead ((v, n) ∷ [])) is.1)
  opened_sound false n (Some w) s t p h e = let is = some_pair None (Some w) s t e in let bad = is.0 in absurd cc

  sound_at : (p : ℕ × Option W) (s t : Left) → group_from v test from s ≡ Some (p, t) → IsGroup v test IsW p × (s ≡ ahead (group_reading v reading p) t)
  sound_at p s t e =
      let a = taken (next_number v s) (λ n. opened from (passes test n.0) n.1 and_then λ o. Some ((n.0, o.0), o.1)) (p, t) e in
      let b = taken (opened from (passes test a.0.0) a.0.1) (λ o. Some ((a.0.0, o.0), o.1)) (p, t) a.2 in
      let n = next_sound v a.0.0 s a.0.1 a.1 in
      let o = opened_sound (passes test a.0.0) a.0.0 b.0.0 a.0.1 b.0.1 refl n.0 b.1 in
      carried (IsGroup v test IsW) (group_reading v reading) s (a.0.0, b.0.0) p b.0.1 t b.2 (o.0, n.1 ∙ o.1)

  by_test : (b : Bool) (P Q : Type 0) → b ≡ true → P → MatchBool b P Q
  by_test true P Q e p = p
  by_test false P Q e p = absurd cc

  by_no_test : (b : Bool) (P Q : Type 0) → b ≡ false → Q → MatchBool b P Q
  by_no_test true P Q e q = absurd cc
  by_no_test false P Q e q = q

  into_at : (p : ℕ × Option W) (rest : Layout) (s : Scope) (x : Reading) → IsGroup v test IsW p → ((t : Scope) → Reads rest t x) → Reads (group_row v test row rest) s (group_reading v reading p ++ x)
  unfolding Reads
  into_at (n, None) rest s x h k =
      (n, x, admitted v n h.0, refl, by_no_test (holds (record { var = v; test = test }) ((v, n) ∷ s)) (Then (Reads (row whole) ((v, n) ∷ s)) (Reads rest ((v, n) ∷ s)) x) (Reads rest ((v, n) ∷ s) x) (holds_here v test n s ∙ h.1) (k ((v, n) ∷ s)))
  into_at (n, Some w) rest s x h k = (
    n,
    reading w ++ x,
    admitted v n h.0,
    refl,
    by_test (holds (record { var = v; test = test }) ((v, n) ∷ s)) (Then (Reads (row whole) ((v, n) ∷ s)) (Reads rest ((v, n) ∷ s)) (reading w ++ x)) (Reads rest ((v, n) ∷ s) (reading w ++ x)) (holds_here v test n s ∙ h.1)
        (reading w, x, refl, (let g = group.into w whole ((v, n) ∷ s) [] h.2 (λ t. refl) in rw (append-nil (reading w)) at g), k ((v, n) ∷ s)),
  )

  out_by : (b : Bool) (n : ℕ) (rest : Layout) (s : Scope) (r x : Reading) → passes test n ≡ b → number_fault v n ≡ None → r ≡ (v, n) ∷ x → MatchBool b (Then (Reads (row whole) ((v, n) ∷ s)) (Reads rest ((v, n) ∷ s)) x) (Reads rest ((v, n) ∷ s) x) → Found (IsGroup v test IsW) (group_reading v reading) rest r
  unfolding Reads
  out_by true n rest s r x p ok e (a, b, i, ra, rb) =
      let o = group.out whole ((v, n) ∷ s) a ra in
      let none : o.1 ≡ [] = o.5 in
      let a-is : a ≡ reading o.0 = o.4 ∙ ap (λ (t : Reading). reading o.0 ++ t) none ∙ append-nil (reading o.0) in
      ((n, Some o.0), b, (v, n) ∷ s, (ok, p, o.3), e ∙ ap (λ (t : Reading). (v, n) ∷ t) (i ∙ ap (λ (t : Reading). t ++ b) a-is), rb)
  out_by false n rest s r x p ok e h = ((n, None), x, (v, n) ∷ s, (ok, p), e, h)

  pub group_of : Codes (group_row v test row) (IsGroup v test IsW) (group_reading v reading) (group_from v test from)
  unfolding Reads
  group_of = record {
    complete = complete_at;
    sound = sound_at;
    into = into_at;
    out = λ rest s r (n, x, h, e, k).
        out_by (passes test n) n rest s r x refl (number_ok v n h) e
        (subst (λ b. MatchBool b (Then (Reads (row whole) ((v, n) ∷ s)) (Reads rest ((v, n) ∷ s)) x) (Reads rest ((v, n) ∷ s) x)) (holds_here v test n s) k);
  }

-- ---- Variables of one bit.

flag_admitted : (v : Var) → IsFlag v → (b : Bool) → admits v (bit b) ≡ true
flag_admitted v f true = f.2
flag_admitted v f false = f.1

pub flag_of : (v : Var) (n : ℕ) → IsFlag v → admits v n ≡ true → (b : Bool) × (n ≡ bit b)
flag_of v n f ok = as_bit n (subst (λ w. n < 2 ^ w) f.0 (in_width v n ok))

pub flag : (v : Var) → IsFlag v → Codes (one v) (λ (b : Bool). Unit {0}) (λ b. (v, bit b) ∷ []) (next_flag v)
unfolding Reads
flag v is = record {
  complete = λ b s h. flag_is v b s is.0;
  sound = λ b s t e. (tt, flag_sound v b s t is.0 e);
  into = λ b rest s x h k. (bit b, x, flag_admitted v is b, refl, k ((v, bit b) ∷ s));
  out = λ rest s r (n, x, h, e, k). let b = flag_of v n is h in (b.0, x, (v, n) ∷ s, tt, e ∙ ap (λ m. (v, m) ∷ x) b.1, k);
}

module _ {W : Type 0} (v : Var) (is : IsFlag v) {row : Layout → Layout} {IsW : W → Type 0} {reading : W → Reading} {from : Left → Option (W × Left)} (group : Codes row IsW reading from) where
  groups : Codes (group_row v IsOne row) (IsGroup v IsOne IsW) (group_reading v reading) (group_from v IsOne from)
  groups = group_of v IsOne group

  optional_complete : (o : Option W) (s : Left) → IsOptional IsW o → optional_from v from (ahead (optional_reading v reading o) s) ≡ Some (o, s)
  optional_complete None s h = rw (flag_is v false s is.0) refl
  optional_complete (Some w) s h = rw (ahead_both ((v, 1) ∷ []) (reading w) s, flag_is v true (ahead (reading w) s) is.0, group.complete w s h) refl

  opened_by : (b : Bool) (o : Option W) (s t : Left) → opened from b s ≡ Some (o, t) → IsOptional IsW o × (ahead ((v, bit b) ∷ []) s ≡ ahead (optional_reading v reading o) t)
  opened_by true None s t e =
      let a = taken (from s) (λ w. Some (Some w.0, w.1)) (None, t) e in
      let bad = (some_pair (Some a.0.0) None a.0.1 t a.2).0 in
      absurd cc
  opened_by true (Some w) s t e =
      let a = taken (from s) (λ u. Some (Some u.0, u.1)) (Some w, t) e in
      let i = some_pair (Some a.0.0) (Some w) a.0.1 t a.2 in
      let same : a.0.0 ≡ w = (let both = i.0 in cc) in
      let one = group.sound a.0.0 s a.0.1 a.1 in
      let there = subst (λ x. Stands IsW reading s x t) same (subst (λ y. Stands IsW reading s a.0.0 y) i.1 one) in
      (there.0, ap (ahead ((v, 1) ∷ [])) there.1 ∙ sym (ahead_both ((v, 1) ∷ []) (reading w) t))
  opened_by false None s t e = (tt, ap (ahead ((v, 0) ∷ [])) (some_pair None None s t e).1)
  opened_by false (Some w) s t e = let bad = (some_pair None (Some w) s t e).0 in absurd cc

  optional_sound : (o : Option W) (s t : Left) → optional_from v from s ≡ Some (o, t) → IsOptional IsW o × (s ≡ ahead (optional_reading v reading o) t)
  optional_sound o s t e =
      let a = taken (next_flag v s) (λ b. opened from b.0 b.1) (o, t) e in
      let f = flag_sound v a.0.0 s a.0.1 is.0 a.1 in
      let b = opened_by a.0.0 o a.0.1 t a.2 in
      (b.0, f ∙ b.1)

  optional_into : (o : Option W) (rest : Layout) (s : Scope) (x : Reading) → IsOptional IsW o → ((t : Scope) → Reads rest t x) → Reads (group_row v IsOne row rest) s (optional_reading v reading o ++ x)
  optional_into None rest s x h k = groups.into (0, None) rest s x (number_ok v 0 is.1, refl) k
  optional_into (Some w) rest s x h k = groups.into (1, Some w) rest s x (number_ok v 1 is.2, refl, h) k

  found : (rest : Layout) (r x : Reading) (t : Scope) (p : ℕ × Option W) (b : Bool) → p.0 ≡ bit b → IsGroup v IsOne IsW p → r ≡ group_reading v reading p ++ x → Reads rest t x → Found (IsOptional IsW) (optional_reading v reading) rest r
  found rest r x t (n, None) true e h i k = let g : passes IsOne 1 ≡ false = subst (λ m. passes IsOne m ≡ false) e h.1 in absurd cc
  found rest r x t (n, None) false e h i k = (None, x, t, tt, i ∙ ap (λ m. (v, m) ∷ x) e, k)
  found rest r x t (n, Some w) true e h i k = (Some w, x, t, h.2, i ∙ ap (λ m. (v, m) ∷ (reading w ++ x)) e, k)
  found rest r x t (n, Some w) false e h i k = let g : passes IsOne 0 ≡ true = subst (λ m. passes IsOne m ≡ true) e h.1 in absurd cc

  admitted_of : (p : ℕ × Option W) → IsGroup v IsOne IsW p → admits v p.0 ≡ true
  admitted_of (n, None) h = admitted v n h.0
  admitted_of (n, Some w) h = admitted v n h.0

  pub optional : Codes (group_row v IsOne row) (IsOptional IsW) (optional_reading v reading) (optional_from v from)
  optional = record {
    complete = optional_complete;
    sound = optional_sound;
    into = optional_into;
    out = λ rest s r reads.
        let a = groups.out rest s r reads in
        let b = flag_of v a.0.0 is (admitted_of a.0 a.3) in
        found rest r a.1 a.2 a.0 b.0 b.1 a.3 a.4 a.5;
  }

-- ---- The same values and numbers by another account of what is a value, with the reading written out.

pub renamed : {V : Type 0} {row : Layout → Layout} {IsV IsW : V → Type 0} {reading shown : V → Reading} {from : Left → Option (V × Left)}
    → Codes row IsV reading from → ((v : V) → IsW v → IsV v) → ((v : V) → IsV v → IsW v) → ((v : V) → reading v ≡ shown v) → Codes row IsW shown from
renamed {reading = reading} codes is so same = record {
  complete = λ v s h. rw (← same v) (codes.complete v s (is v h));
  sound = λ v s t e. let a = codes.sound v s t e in (so v a.0, a.1 ∙ ap (λ r. ahead r t) (same v));
  into = λ v rest s x h k. rw (← same v) (codes.into v rest s x (is v h) k);
  out = λ rest s r reads.
      let a = codes.out rest s r reads in
      (a.0, a.1, a.2, so a.0 a.3, a.4 ∙ ap (λ (t : Reading). t ++ a.1) (same a.0), a.5);
}

-- ---- The same value in another form, with its reading written out.

pub form : {V W : Type 0} {row : Layout → Layout} {IsV : V → Type 0} {reading : V → Reading} {from : Left → Option (V × Left)} {to : V → W} {IsW : W → Type 0} {shown : W → Reading}
    → Codes row IsV reading from → Forms IsV reading to IsW shown → Codes row IsW shown (form_from to from)
form {reading = reading} {from = from} {to = to} {IsW = IsW} {shown = shown} codes f = record {
  complete = λ w s h. rw (← f.same w) (let c = codes.complete (f.back w) s (f.is w h) in rw (c, f.there w) refl);
  sound = λ w s t e.
      let a = taken (from s) (λ v. Some (to v.0, v.1)) (w, t) e in
      let v = codes.sound a.0.0 s a.0.1 a.1 in
      carried IsW shown s (to a.0.0) w a.0.1 t a.2 (f.so a.0.0 v.0, v.1 ∙ ap (λ u. ahead (reading u) a.0.1) (sym (f.again a.0.0)) ∙ ap (λ r. ahead r a.0.1) (f.same (to a.0.0)));
  into = λ w rest s x h k. rw (← f.same w) (codes.into (f.back w) rest s x (f.is w h) k);
  out = λ rest s r reads.
      let a = codes.out rest s r reads in
      (to a.0, a.1, a.2, f.so a.0 a.3, a.4 ∙ ap (λ v. reading v ++ a.1) (sym (f.again a.0)) ∙ ap (λ (t : Reading). t ++ a.1) (f.same (to a.0)), a.5);
}

-- ---- A list after its count.

module _ {V : Type 0} (v : Var) {row : Layout → Layout} {IsV : V → Type 0} {reading : V → Reading} {from : Left → Option (V × Left)} (entry : Codes row IsV reading from) where
  one_entry : (s : Scope) (r : Reading) → Reads (row whole) s r → (w : V) × IsV w × (r ≡ reading w)
  unfolding Reads
  one_entry s r h =
      let o = entry.out whole s r h in
      (o.0, o.3, (let e : o.1 ≡ [] = o.5 in o.4 ∙ ap (λ (x : Reading). reading o.0 ++ x) e ∙ append-nil (reading o.0)))

  pub list : Codes (λ rest. one v (counted (row whole) rest)) (IsEntries v IsV) (list_reading v reading) (list_from v from)
  unfolding Reads
  list = record {
    complete = λ vs s h.
        let n = next_is v (length vs) (ahead (flat_map reading vs) s) (number_ok v (length vs) (counted_admitted v (length vs) h.0)) in
        rw (ahead_both ((v, length vs) ∷ []) (flat_map reading vs) s, n, times_complete from reading IsV entry.complete vs s h.1) refl;
    sound = λ vs s t e.
        let a = taken (next_number v s) (λ n. times_from from n.0 n.1) (vs, t) e in
        let n = next_sound v a.0.0 s a.0.1 a.1 in
        let l = times_sound from reading IsV entry.sound a.0.0 vs a.0.1 t a.2 in
        let many : length vs ≡ a.0.0 = l.1 in (
          (rw many (count_ok v a.0.0 (admitted v a.0.0 n.0)), l.0),
          n.1 ∙ ap (ahead ((v, a.0.0) ∷ [])) l.2 ∙ sym (ahead_both ((v, a.0.0) ∷ []) (flat_map reading vs) t) ∙ ap (λ m. ahead ((v, m) ∷ flat_map reading vs) t) (sym many),
        );
    into = λ vs rest s x h k. (
      length vs,
      flat_map reading vs ++ x,
      counted_admitted v (length vs) h.0,
      refl,
      (
        flat_map reading vs,
        x,
        refl,
        times_in (Reads (row whole) ((v, length vs) ∷ s)) reading IsV (λ w hw. let g = entry.into w whole ((v, length vs) ∷ s) [] hw (λ t. refl) in rw (append-nil (reading w)) at g) vs h.1,
        k ((v, length vs) ∷ s),
      ),
    );
    out = λ rest s r (n, x, h, e, (a, b, i, ra, rb)).
        let ls = times_out (Reads (row whole) ((v, n) ∷ s)) reading IsV (one_entry ((v, n) ∷ s)) n a ra in
        let many : length ls.0 ≡ n = ls.2 in
        (ls.0, b, (v, n) ∷ s, ((rw many (count_ok v n h)), ls.1), (let t : x ≡ flat_map reading ls.0 ++ b = i ∙ ap (λ (u : Reading). u ++ b) ls.3 in e ∙ ap (λ (u : Reading). (v, n) ∷ u) t ∙ ap (λ m. (v, m) ∷ (flat_map reading ls.0 ++ b)) (sym many)), rb);
  }
