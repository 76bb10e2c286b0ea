-- What is read after other bits, of all of them.
use Rattle.std.proofs.Common.{◌≡◌, ℕ, ◌+◌, ◌≤◌, Bool, List, [], ◌++◌, length, take, drop, Some, None, sym, ap, subst, ◌∙◌, arith, append_assoc, take-add}
use Rattle.std.specs.Prelude.{Option}
use Rattle.std.proofs.lemmas.List.{append-nil, length-append, take-append-drop, length-take, length-drop}
use Rattle.std.proofs.Math.Seq.{take-append-add}
use Rattle.etcs_vars.specs.declared.var.Var.{Var}
use Rattle.etcs_vars.specs.Walking.{Residual, Refuses}
use Rattle.etcs_vars.specs.Reading.{Reading, spelled, InLanguage, Viable, Owner}
use Rattle.etcs_vars.proofs.Walk.{Regular}
use Rattle.etcs_vars.specs.laws.Spellings.{spelled-append}
use Rattle.etcs_reader.specs.declared.reader.Halt.{Halt}
use Rattle.etcs_reader.specs.declared.reader.Halt.TheVariants.{Refused, Memory}
use Rattle.etcs_reader.specs.declared.reader.Reader.{Reader}
use Rattle.etcs_reader.specs.Rests.{Goes, BeginsWith, Ended}
use Rattle.etcs_reader.specs.Readers.{Passed, Takes, RefusesAt, StarvesAt, IsReader, part_of, Halts, HaltsIn, place_of}
use Rattle.etcs_reader.proofs.Lifts.{lift_viable, lift_blocked, lift_owner}
use Rattle.std.specs.Prelude.{Ok, Err}
use Rattle.etcs_reader.specs.declared.feeder.Stop.TheVariants as stop
use Rattle.etcs_reader.specs.Feeders.{FedFrom}
use Rattle.etcs_reader.proofs.Parts.{unfinished_owner, unfinished_ended}

-- what is passed after what was
pub passed_along : (F G H : Reading → Type 0) → ((p q : Reading) → F p → G q → H (p ++ q)) → (b front beyond xs : List Bool) → Passed F b front → Passed G (front ++ xs) beyond → Passed H (b ++ xs) beyond
passed_along F G H both b front beyond xs f g = record {
  whole = f.whole ++ g.whole;
  follows = both f.whole g.whole f.follows g.follows;
  bits = ap (λ (t : List Bool). t ++ beyond) (spelled-append f.whole g.whole)
      ∙ append_assoc (spelled f.whole) (spelled g.whole) beyond
      ∙ ap (λ (t : List Bool). spelled f.whole ++ t) g.bits
      ∙ sym (append_assoc (spelled f.whole) front xs)
      ∙ ap (λ (t : List Bool). t ++ xs) f.bits;
}

-- ---- Of all bits b, after which a language continues as R, and these bits are there of the variable that comes next.

module _ (L : Reading → Type 0) (regular : Regular L) (R : Reading → Type 0) (F : Reading → Type 0) (residual : (p : Reading) → F p → Residual L p R) (b part : List Bool) (f : Passed F b part) where
  -- all of them, with more after
  with_more : (t : List Bool) → spelled f.whole ++ (part ++ t) ≡ b ++ t
  with_more t = sym (append_assoc (spelled f.whole) part t) ∙ ap (λ (u : List Bool). u ++ t) f.bits

  pub passed_viable : (t : List Bool) → Viable R (part ++ t) → Viable L (b ++ t)
  passed_viable t v = subst (Viable L) (with_more t) (lift_viable L f.whole R (residual f.whole f.follows) (part ++ t) v)

  -- x holds the next bit
  pub passed_owner : Goes R → (x : Var) → Owner R part x → Owner L b x
  passed_owner some x o = subst (λ (t : List Bool). Owner L t x) f.bits (lift_owner L regular f.whole R (residual f.whole f.follows) some part x o)

  pub passed_language : (t : List Bool) → InLanguage R (part ++ t) → InLanguage L (b ++ t)
  passed_language t (r, l, e) = (f.whole ++ r, (residual f.whole f.follows).from r l, spelled-append f.whole r ∙ ap (λ (u : List Bool). spelled f.whole ++ u) e ∙ with_more t)

  pub passed_owners : (t : List Bool) → Goes R → (x : Var) → Owner R (part ++ t) x → Owner L (b ++ t) x
  passed_owners t some x o = subst (λ (u : List Bool). Owner L u x) (with_more t) (lift_owner L regular f.whole R (residual f.whole f.follows) some (part ++ t) x o)

  -- nothing comes after
  pub passed_done : part ≡ [] → R [] → InLanguage L b
  passed_done none l =
      let whole : L (f.whole ++ []) = (residual f.whole f.follows).from [] l in
      let same : f.whole ++ [] ≡ f.whole = append-nil f.whole in
      (f.whole, rw same at whole, sym (append-nil (spelled f.whole)) ∙ (rw none at f.bits))

  -- what is refused after
  pub passed_refuses : Goes R → (xs : List Bool) (j : ℕ) (x : Var) → Refuses R (part ++ xs) (length part + j) x → Refuses L (b ++ xs) (length b + j) x
  passed_refuses some xs j x r =
      let p = spelled f.whole in
      let t = part ++ xs in
      let i = length part + j in
      let d = residual f.whole f.follows in
      let place : length p + i ≡ length b + j = omega (arith, ap length f.bits, length-append p part) in
      let place1 : length p + (i + 1) ≡ length b + j + 1 = omega (arith, place) in
      let cut : take (length b + j) (b ++ xs) ≡ p ++ take i t = ap (λ (n : ℕ). take n (b ++ xs)) (sym place) ∙ ap (take (length p + i)) (sym (with_more xs)) ∙ take-append-add p t i in
      let cut1 : take (length b + j + 1) (b ++ xs) ≡ p ++ take (i + 1) t = ap (λ (n : ℕ). take n (b ++ xs)) (sym place1) ∙ ap (take (length p + (i + 1))) (sym (with_more xs)) ∙ take-append-add p t (i + 1) in
      record {
        within = omega (arith, r.within, place, ap length (with_more xs), length-append p t);
        owned = subst (λ (u : List Bool). Owner L u x) (sym cut) (lift_owner L regular f.whole R d some (take i t) x r.owned);
        blocked = λ v. lift_blocked L regular f.whole R d some (take (i + 1) t) r.blocked (subst (Viable L) cut1 v);
      }

-- ---- Where s is, of all bits b, and m after them with the bits front of the next variable.

module _ {R : Type 0} (left : R → Reading → Type 0) (regular : (s : R) → Regular (left s)) (follows : R → Reading → R → Type 0) (residual : (s t : R) (p : Reading) → follows s p t → Residual (left s) p (left t)) (both : (s t u : R) (p q : Reading) → follows s p t → follows t q u → follows s (p ++ q) u) (s m : R) (b front : List Bool) (f : Passed (λ p. follows s p m) b front) (xs : List Bool) (n : ℕ) where
  along : (t : R) (beyond : List Bool) → Passed (λ p. follows m p t) (front ++ take n xs) beyond → Passed (λ p. follows s p t) (b ++ take n xs) beyond
  along t beyond g = passed_along (λ p. follows s p m) (λ p. follows m p t) (λ p. follows s p t) (both s m t) b front beyond (take n xs) f g

  pub takes_after : (next : R → Option Var) (t : R) (beyond : List Bool) → Takes R left next follows m front xs n t beyond → Takes R left next follows s b xs n t beyond
  takes_after next t beyond h = record {
    within = h.within;
    passed = along t beyond h.passed;
    done = λ e. passed_language (left s) (regular s) (left m) (λ p. follows s p m) (residual s m) b front f (take n xs) (h.done e);
    more = λ x e.
        let (all, o) = h.more x e in
        let (r, c, l, i) = o.viable in
        (all, passed_owners (left s) (regular s) (left m) (λ p. follows s p m) (residual s m) b front f (take n xs) (r, l) x o);
  }

  pub refuses_after : (next : R → Option Var) (x : Var) (t : R) (beyond : List Bool) → RefusesAt R left next follows m front xs n x t beyond → RefusesAt R left next follows s b xs n x t beyond
  refuses_after next x t beyond h =
      let (r, c, l, i) = h.refuses.owned.viable in
      record {
        refuses = passed_refuses (left s) (regular s) (left m) (λ p. follows s p m) (residual s m) b front f (r, l) xs n x h.refuses;
        passed = along t beyond h.passed;
        here = h.here;
        short = h.short;
        goes = h.goes;
      }

  pub starves_after : (fails : R → Type 0) → StarvesAt R left follows fails m front xs n → StarvesAt R left follows fails s b xs n
  starves_after fails h = record {
    within = h.within;
    viable = passed_viable (left s) (regular s) (left m) (λ p. follows s p m) (residual s m) b front f (take (n + 1) xs) h.viable;
    place = h.place;
    part = h.part;
    passed = along h.place h.part h.passed;
    here = h.here;
    holder = h.holder;
    begins = h.begins;
    owned = h.owned;
  }

-- ---- After the first bits of the same piece.

-- bits of a piece from at on
pub front_of : (b xs : List Bool) (at n : ℕ) → (b ++ take at xs) ++ take n (drop at xs) ≡ b ++ take (at + n) xs
front_of b xs at n = append_assoc b (take at xs) (take n (drop at xs)) ∙ ap (λ (t : List Bool). b ++ t) (sym (take-add at n xs))

module _ {R : Type 0} (left : R → Reading → Type 0) (follows : R → Reading → R → Type 0) (s : R) (b xs : List Bool) (at n : ℕ) where
  pub refuses_further : (next : R → Option Var) (x : Var) (t : R) (beyond : List Bool) → at ≤ length xs → RefusesAt R left next follows s (b ++ take at xs) (drop at xs) n x t beyond → RefusesAt R left next follows s b xs (at + n) x t beyond
  refuses_further next x t beyond le h =
      let same : (b ++ take at xs) ++ drop at xs ≡ b ++ xs = append_assoc b (take at xs) (drop at xs) ∙ ap (λ (u : List Bool). b ++ u) (take-append-drop at xs) in
      let place : length (b ++ take at xs) + n ≡ length b + (at + n) = omega (arith, length-append b (take at xs), length-take at xs) in
      record {
        refuses = rw (same, place) at h.refuses;
        passed = subst (λ (u : List Bool). Passed (λ p. follows s p t) u beyond) (front_of b xs at n) h.passed;
        here = h.here;
        short = h.short;
        goes = h.goes;
      }

  pub starves_further : (fails : R → Type 0) → at ≤ length xs → StarvesAt R left follows fails s (b ++ take at xs) (drop at xs) n → StarvesAt R left follows fails s b xs (at + n)
  starves_further fails le h =
      let more : at + (n + 1) ≡ at + n + 1 = omega arith in
      record {
        within = omega (arith, h.within, length-drop at xs);
        viable = subst (Viable (left s)) (front_of b xs at (n + 1) ∙ ap (λ (k : ℕ). b ++ take k xs) more) h.viable;
        place = h.place;
        part = h.part;
        passed = subst (λ (u : List Bool). Passed (λ p. follows s p h.place) u h.part) (front_of b xs at n) h.passed;
        here = h.here;
        holder = h.holder;
        begins = h.begins;
        owned = h.owned;
      }

-- why no more is taken, of all bits
pub halts_after : {R : Type 0} (left : R → Reading → Type 0) → ((s : R) → Regular (left s)) → (next : R → Option Var) (follows : R → Reading → R → Type 0) → ((s t : R) (p : Reading) → follows s p t → Residual (left s) p (left t)) → ((s t u : R) (p q : Reading) → follows s p t → follows t q u → follows s (p ++ q) u) → (fails : R → Type 0) (s : R) (b : List Bool) (m t : Reader R) (xs : List Bool) (at : ℕ)
    → Passed (λ p. follows s p m.rest) (b ++ take at xs) (part_of m) → at ≤ length xs → (h : Halt) → Halts R left next follows fails m xs at h t → HaltsIn R left next follows fails s b xs h t
halts_after {R} left regular next follows residual both fails s b m t xs at f le (Refused i x) (n, i_is, h) =
    let l = refuses_after left regular follows residual both s m.rest (b ++ take at xs) (part_of m) f (drop at xs) n next x t.rest (part_of t) h in
    subst (λ k. RefusesAt R left next follows s b xs k x t.rest (part_of t)) (sym i_is) (refuses_further left follows s b xs at n next x t.rest (part_of t) le l)
halts_after {R} left regular next follows residual both fails s b m t xs at f le (Memory i) (n, i_is, h) =
    let l = starves_after left regular follows residual both s m.rest (b ++ take at xs) (part_of m) f (drop at xs) n fails h in
    subst (λ k. StarvesAt R left follows fails s b xs k) (sym i_is) (starves_further left follows s b xs at n fails le l)

pub halts_within : {R : Type 0} (left : R → Reading → Type 0) (next : R → Option Var) (follows : R → Reading → R → Type 0) (fails : R → Type 0) (m t : Reader R) (xs : List Bool) (at : ℕ) → at ≤ length xs → (h : Halt) → Halts R left next follows fails m xs at h t → place_of h ≤ length xs
halts_within left next follows fails m t xs at le (Refused i x) (n, i_is, h) = omega (arith, i_is, h.refuses.within, le, length-append (part_of m) (drop at xs), length-drop at xs)
halts_within left next follows fails m t xs at le (Memory i) (n, i_is, h) = omega (arith, i_is, h.within, le, length-drop at xs)

-- what is taken, of all bits
pub takes_all : {R : Type 0} (left : R → Reading → Type 0) → ((s : R) → Regular (left s)) → (next : R → Option Var) → ((s : R) (x : Var) → next s ≡ Some x → BeginsWith (left s) x) → ((s : R) → next s ≡ None → Ended (left s)) → (follows : R → Reading → R → Type 0) → ((s t : R) (p : Reading) → follows s p t → Residual (left s) p (left t)) → (s : R) (b : List Bool) (t : Reader R) (xs : List Bool) (n : ℕ)
    → Passed (λ p. follows s p t.rest) (b ++ take n xs) (part_of t) → IsReader R left next t → n ≤ length xs → ((x : Var) → next t.rest ≡ Some x → n ≡ length xs) → Takes R left next follows s b xs n t.rest (part_of t)
takes_all {R} left regular next begins_with ended follows residual s b t xs n f u within all = record {
  within = within;
  passed = f;
  done = λ e.
      let (none, l) = unfinished_ended (left t.rest) (next t.rest) (ended t.rest) t.number t.taken u e in
      passed_done (left s) (regular s) (left t.rest) (λ p. follows s p t.rest) (residual s t.rest) (b ++ take n xs) (part_of t) f none l;
  more = λ x e.
      let o = unfinished_owner (left t.rest) (regular t.rest) (next t.rest) (begins_with t.rest) t.number t.taken u x e in
      (all x e, passed_owner (left s) (regular s) (left t.rest) (λ p. follows s p t.rest) (residual s t.rest) (b ++ take n xs) (part_of t) f u.goes x o);
}

-- what a feeder answers, of all bits
pub feeds_after : {R : Type 0} (left : R → Reading → Type 0) → ((s : R) → Regular (left s)) → (next : R → Option Var) (follows : R → Reading → R → Type 0) → ((s t : R) (p : Reading) → follows s p t → Residual (left s) p (left t)) → ((s t u : R) (p q : Reading) → follows s p t → follows t q u → follows s (p ++ q) u) → (fails : R → Type 0) → FedFrom R left next follows fails
feeds_after {R} left regular next follows residual both fails start b old xs (Ok n) new f (stop, count, h) =
    (stop, count, takes_after left regular follows residual both start old.rest b old.part f xs n next new.rest new.part h)
feeds_after {R} left regular next follows residual both fails start b old xs (Err (stop.Refused i x)) new f (stop, count, n, i_is, h) =
    (stop, count, n, i_is, refuses_after left regular follows residual both start old.rest b old.part f xs n next x new.rest new.part h)
feeds_after {R} left regular next follows residual both fails start b old xs (Err stop.Memory) new f (stop, n, count, h) =
    (stop, n, count, starves_after left regular follows residual both start old.rest b old.part f xs n fails h)
