-- The steps of a walk.
use Rattle.std.proofs.Common.{◌≡◌, ℕ, ◌+◌, ◌-◌, ◌*◌, ◌^◌, ◌<◌, ◌≤◌, Bool, true, false, List, [], ◌∷◌, ◌++◌, length, Option, Some, None, Ok, Err, inl, inr, refl, sym, ap, subst, ◌∙◌, arith}
use Rattle.std.specs.Prelude.{IsTrue, IfSome, Result, ◌⊎◌}
use Rattle.std.proofs.lemmas.List.{append-nil, length-append, nil_from_length, take_at, take_all}
use Rattle.std.proofs.lemmas.Nat.{pow-add}
use Rattle.std.proofs.Math.Pow.{pow_mono}
use Rattle.etcs_bits.specs.Bits.{num, bit}
use Rattle.etcs_bits.proofs.Numbers.{length-num, num_same}
use Rattle.etcs_vars.specs.declared.var.Var.{Var}
use Rattle.etcs_vars.specs.Vars.{width, admits}
use Rattle.etcs_vars.specs.Reading.{Reading, spelled, Viable, Owner}
use Rattle.etcs_vars.proofs.Prefixes.{width_pos, width-le, admits_parts}
use Rattle.etcs_vars.proofs.Stepping.{more_fits, next_bits}
use Rattle.etcs_vars.proofs.Sent.{length-sent}
use Rattle.etcs_reader.specs.declared.feeder.Stop.{Stop}
use Rattle.etcs_reader.specs.declared.feeder.Stop.TheVariants as stop
use Rattle.etcs_reader.specs.Feeders.{FeederValue, Feeds}
use Rattle.etcs_rows.specs.declared.rest.RowRest.{RowRest}
use Rattle.etcs_rows.specs.declared.walk.Step.TheVariants.{More, Number, Whole}
use Rattle.etcs_rows.specs.declared.walk.Stopped.TheVariants.{Refused}
use Rattle.etcs_tables.specs.Layouts.{Layout, whole, one, guarded, counted, looks, Reads, ReadsIn}
use Rattle.etcs_rows.specs.Places.{first_variable, after_number}
use Rattle.etcs_rows.specs.Walks.{WalkValue, WalkKept, ReadTo, Follows, Ends, TakesBit, walk_of}

pub some_same : {v w : Var} → ◌≡◌ {A = Option Var} (Some v) (Some w) → v ≡ w
some_same e = cc

-- a row that continues takes bits
goes_further : (row : Layout) (w : Var) (m : ℕ) → first_variable row ≡ Some w → ((r : Reading) × ReadsIn row m r) → 0 < m
unfolding Reads
goes_further whole w m f (r, l) = absurd cc
goes_further (one x rest) w m f (r, ((n, r', ok, is, reads), l)) = let e = length-sent x n r' in let p = width_pos x in omega (arith, ap (λ (t : Reading). length (spelled t)) is, e, p, l)
goes_further (guarded g group rest) w m f (r, l) = absurd cc
goes_further (counted group rest) w m f (r, l) = absurd cc

-- the numbers of a walk fit their types
pub walk_room : (bits taken wide : ℕ) → bits < 2 ^ taken → taken < wide → wide ≤ 64 → bits * 2 + 1 < 2 ^ 64
walk_room bits taken wide small inside w =
    let two : 2 ^ (taken + 1) ≡ 2 ^ taken * 2 = pow-add 2 taken 1 in
    let le : taken + 1 ≤ 64 = omega (arith, inside, w) in
    let top = pow_mono le in
    omega (arith, small, two, top)

-- nothing is left after a row's last variable
pub whole_row : (row : Layout) → first_variable row ≡ None → IsTrue (looks None row) → row ≡ whole
whole_row whole f look = refl
whole_row (one v rest) f look = absurd cc
whole_row (guarded g group rest) f look = absurd cc
whole_row (counted group rest) f look = absurd cc

after_fits : (row left : Layout) (x : Var) (n : ℕ) → first_variable row ≡ Some x → after_number row n ≡ Some left → n < 2 ^ width x
after_fits whole left x n f a = absurd cc
after_fits (one v rest) left x n f a = by_test (admits v n) refl
  where
    by_test : (t : Bool) → admits v n ≡ t → n < 2 ^ width x
    by_test true e = subst (λ (u : Var). n < 2 ^ width u) (some_same f) (admits_parts v n e).1
    by_test false e = absurd (let no = rw e at a in cc)
after_fits (guarded g group rest) left x n f a = absurd cc
after_fits (counted group rest) left x n f a = absurd cc

-- ---- What bits of the next variable read.

no_variables : (p : Reading) → length (spelled p) ≡ 0 → p ≡ []
no_variables [] e = refl
no_variables ((v, n) ∷ p) e = absurd (let l = length-sent v n p in let w = width_pos v in omega (arith, e, l, w))

-- fewer than it has read nothing
none_read : (row : Layout) (len : ℕ) (p : Reading) (left : Layout) (more : ℕ) (x : Var) (part part' : List Bool) → ReadTo row len p left more → first_variable row ≡ Some x → length part < width x → spelled p ++ part' ≡ part → (left ≡ row) × (more ≡ len) × (part' ≡ part)
none_read row len [] left more x part part' (same, count) first inside e = (same, count, e)
none_read row len ((v, n) ∷ p) left more x part part' (mid, f, after, wide, h) first inside e =
    absurd (let w = ap width (some_same (sym f ∙ first)) in omega (arith, sym (length-append (spelled ((v, n) ∷ p)) part') ∙ ap length e, length-sent v n p, w, inside))

-- one more ends it, or reads nothing
one_read : (row : Layout) (len : ℕ) (p : Reading) (left : Layout) (more : ℕ) (x : Var) (part part' : List Bool) (b : Bool) → ReadTo row len p left more → first_variable row ≡ Some x → length part < width x → spelled p ++ part' ≡ part ++ b ∷ []
    → ((left ≡ row) × (more ≡ len) × (part' ≡ part ++ b ∷ [])) ⊎ ((n : ℕ) × (after_number row n ≡ Some left) × (more + width x ≡ len) × (part' ≡ []) × (num (width x) n ≡ part ++ b ∷ []))
one_read row len [] left more x part part' b (same, count) first inside e = inl (same, count, e)
one_read row len ((v, n) ∷ p) left more x part part' b (mid, f, after, wide, h) first inside e =
    let same : v ≡ x = some_same (sym f ∙ first) in
    let w = ap width same in
    let l1 = sym (length-append (spelled ((v, n) ∷ p)) part') ∙ ap length e ∙ length-append part (b ∷ []) in
    let none : p ≡ [] = no_variables p (omega (arith, l1, length-sent v n p, w, inside)) in
    let gone : part' ≡ [] = nil_from_length part' (omega (arith, l1, length-sent v n p, w, inside)) in
    let (is, count) = subst (λ (q : Reading). ReadTo mid (len - width v) q left more) none h in
    let bits : (num (width v) n ++ []) ++ [] ≡ part ++ b ∷ [] = subst (λ (t : List Bool). (num (width v) n ++ []) ++ t ≡ part ++ b ∷ []) gone (subst (λ (q : Reading). spelled ((v, n) ∷ q) ++ part' ≡ part ++ b ∷ []) none e) in
    inr (n, after ∙ ap (λ (l : Layout). Some l) (sym is), omega (arith, count, wide, w), gone, ap (λ (k : ℕ). num k n) (sym w) ∙ sym (append-nil (num (width v) n)) ∙ sym (append-nil (num (width v) n ++ [])) ∙ bits)

-- ---- What a feeder of a row answers to a bit.

abbrev pub Fed : FeederValue RowRest → List Bool → Result ℕ Stop → FeederValue RowRest → Type 0
Fed = Feeds RowRest (λ s. ReadsIn s.place s.len) (λ s. first_variable s.place) (λ s p t. Follows s.place s.len p t.place t.len) (λ s. ⊥)

abbrev pub walk : FeederValue RowRest → WalkValue
walk v = walk_of v.rest.place v.rest.len v.part v.stop

abbrev pub Kept : FeederValue RowRest → Type 0
Kept v = WalkKept v.rest.place v.rest.len v.part v.count v.stop

none_stopped : {s : Stop} (stop : Option Stop) → stop ≡ None → stop ≡ Some s → ⊥
none_stopped stop e f = let g : ◌≡◌ {A = Option Stop} None (Some _) = sym e ∙ f in absurd cc

module _ (old new : FeederValue RowRest) (b : Bool) (x : Var) (first : first_variable old.rest.place ≡ Some x) (kept : Kept old) (none : old.stop ≡ None) where
  inside : length old.part < width x
  inside = kept.inside x first

  -- the bits of the next variable and one more
  module _ (h : Fed old (b ∷ []) (Ok 1) new) where
    kept_on : ((v : Var) → first_variable new.rest.place ≡ Some v → length new.part < width v) → new.count + new.rest.len ≤ 8191 + length new.part → Kept new
    kept_on short small = record {
      inside = short;
      small = small;
      memory = λ e. none_stopped new.stop h.0 e;
      going = λ s e. absurd (none_stopped new.stop h.0 e);
    }

    abbrev OneRead : Type 0
    OneRead = ((new.rest.place ≡ old.rest.place) × (new.rest.len ≡ old.rest.len) × (new.part ≡ old.part ++ b ∷ [])) ⊎ ((n : ℕ) × (after_number old.rest.place n ≡ Some new.rest.place) × (new.rest.len + width x ≡ old.rest.len) × (new.part ≡ []) × (num (width x) n ≡ old.part ++ b ∷ []))

    read : OneRead
    read = one_read old.rest.place old.rest.len h.2.passed.whole new.rest.place new.rest.len x old.part new.part b h.2.passed.follows.read first inside h.2.passed.bits

    grown : length (old.part ++ b ∷ []) ≡ length old.part + 1
    grown = length-append old.part (b ∷ [])

    pub more_step : length old.part + 1 < width x → Kept new × TakesBit (walk old) b (Ok More) (walk new)
    more_step short = by_read read
      where
        by_read : OneRead → Kept new × TakesBit (walk old) b (Ok More) (walk new)
        by_read (inl (same, len, part)) =
            let next : first_variable new.rest.place ≡ Some x = ap first_variable same ∙ first in
            let long : length new.part ≡ length old.part + 1 = ap length part ∙ grown in (
              kept_on (λ v e. (let w = ap width (some_same (sym next ∙ e)) in omega (arith, long, short, w))) (omega (arith, kept.small, h.1, len, long)),
              (rw none refl, (x, first, omega (arith, grown, short), (h.2.more x next).1, rw (same, len, part, h.0, none) refl)),
            )
        by_read (inr (n, after, len, part, is)) = absurd (omega (arith, sym (length-num (width x) n) ∙ ap length is, grown, short))

    module _ (bits taken d : ℕ) (part_is : old.part ≡ num taken bits) (small : bits < 2 ^ taken) (digit : d ≡ bit b) (long : width x ≤ length old.part + 1) where
      -- the number is that of the bits
      ended : (n : ℕ) → after_number old.rest.place n ≡ Some new.rest.place → num (width x) n ≡ old.part ++ b ∷ [] → n ≡ bits * 2 + d
      ended n after is =
          let wide : taken + 1 ≡ width x = omega (arith, ap length part_is, length-num taken bits, inside, long) in
          let next : num (width x) n ≡ num (width x) (bits * 2 + bit b) = is ∙ ap (λ (t : List Bool). t ++ b ∷ []) part_is ∙ sym (next_bits taken bits b) ∙ ap (λ (k : ℕ). num k (bits * 2 + bit b)) wide in
          let fits : bits * 2 + bit b < 2 ^ width x = subst (λ (k : ℕ). bits * 2 + bit b < 2 ^ k) wide (more_fits taken bits b small) in
          num_same (width x) n (bits * 2 + bit b) (after_fits old.rest.place new.rest.place x n first after) fits next ∙ ap (λ (k : ℕ). bits * 2 + k) (sym digit)

      ends : (n : ℕ) → after_number old.rest.place n ≡ Some new.rest.place → new.rest.len + width x ≡ old.rest.len → new.part ≡ [] → num (width x) n ≡ old.part ++ b ∷ [] → Ends (walk old) (old.part ++ b ∷ []) x (bits * 2 + d) (walk new)
      ends n after len part is =
          let number = ended n after is in
          (first, subst (λ (k : ℕ). k < 2 ^ width x) number (after_fits old.rest.place new.rest.place x n first after), sym is ∙ ap (num (width x)) number, subst (λ (k : ℕ). after_number old.rest.place k ≡ Some new.rest.place) number after, len, part, rw h.0 refl)

      kept_ended : new.part ≡ [] → new.rest.len + width x ≡ old.rest.len → Kept new
      kept_ended gone len =
          let empty = ap length gone in
          kept_on (λ v e. (let w = width_pos v in omega (arith, empty, w))) (omega (arith, kept.small, h.1, len, empty, long, inside))

      pub number_step : (y : Var) → first_variable new.rest.place ≡ Some y → length new.part < width y → Owner (ReadsIn new.rest.place new.rest.len) new.part y → Kept new × TakesBit (walk old) b (Ok (Number x (bits * 2 + d))) (walk new)
      number_step y next short own = by_read read
        where
          by_read : OneRead → Kept new × TakesBit (walk old) b (Ok (Number x (bits * 2 + d))) (walk new)
          by_read (inl (same, len, part)) =
              let w = ap width (some_same (sym next ∙ ap first_variable same ∙ first)) in
              absurd (omega (arith, ap length part ∙ grown, short, w, long))
          by_read (inr (n, after, len, part, is)) =
              let o = (h.2.more y next).1 in
              (kept_ended part len, (rw none refl, (ends n after len part is, o.viable, o.open_end, goes_further new.rest.place y new.rest.len next (own.viable.0, own.viable.2))))

      pub whole_step : first_variable new.rest.place ≡ None → ReadsIn new.rest.place new.rest.len [] → Kept new × TakesBit (walk old) b (Ok (Whole x (bits * 2 + d))) (walk new)
      whole_step next reads = by_read read
        where
          by_read : OneRead → Kept new × TakesBit (walk old) b (Ok (Whole x (bits * 2 + d))) (walk new)
          by_read (inl (same, len, part)) = absurd (let no : ◌≡◌ {A = Option Var} None (Some x) = sym next ∙ ap first_variable same ∙ first in cc)
          by_read (inr (n, after, len, part, is)) =
              (kept_ended part len, (rw none refl, (ends n after len part is, h.2.done next, whole_row new.rest.place next new.rest.looks_well, sym reads.1)))

  -- a bit that is refused
  pub refused_step : (i : ℕ) (y : Var) → Fed old (b ∷ []) (Err (stop.Refused i y)) new → Kept new × TakesBit (walk old) b (Err (Refused y)) (walk new)
  refused_step i y (why, count, n, at, r) =
      let here : n ≡ 0 = omega (arith, r.refuses.within, length-append old.part (b ∷ [])) in
      let bits : spelled r.passed.whole ++ new.part ≡ old.part = r.passed.bits ∙ rw here (append-nil old.part) in
      let (same, len, part) = none_read old.rest.place old.rest.len r.passed.whole new.rest.place new.rest.len x old.part new.part r.passed.follows.read first inside bits in
      let front = ap (λ (k : ℕ). length old.part + k) here ∙ (let z : length old.part + 0 ≡ length old.part = omega arith in z) in (
        record {
          inside = λ v e. rw part (kept.inside v (sym (ap first_variable same) ∙ e));
          small = omega (arith, kept.small, count, at, here, len, ap length part);
          memory = λ e. (let no : ◌≡◌ {A = Option Stop} (Some (stop.Refused i y)) (Some stop.Memory) = sym why ∙ e in cc);
          going = λ s e. (x, ap first_variable same ∙ first);
        },
        inl (
          rw none refl,
          subst (λ (t : List Bool). Owner (ReadsIn old.rest.place old.rest.len) t y) (take_at old.part (b ∷ []) (length old.part + n) (sym front)) r.refuses.owned,
          λ v. r.refuses.blocked (subst (Viable (ReadsIn old.rest.place old.rest.len)) (sym (take_all (length old.part + n + 1) (old.part ++ b ∷ []) (omega (arith, length-append old.part (b ∷ []), here)))) v),
          rw (same, len, part, why) refl,
        ),
      )

-- ---- The same by what a feeder ensures.

-- a bit is taken only where none was refused before
pub none_before : (old new : FeederValue RowRest) (u : Unit {0}) → IfSome old.stop (λ (s : Stop). (◌≡◌ {A = Result (Unit {0}) Stop} (Ok u) (Err s)) × (new ≡ old)) → old.stop ≡ None
none_before old new u h = by_stop old.stop h
  where
    by_stop : (why : Option Stop) → IfSome why (λ (s : Stop). (◌≡◌ {A = Result (Unit {0}) Stop} (Ok u) (Err s)) × (new ≡ old)) → why ≡ None
    by_stop None h = refl
    by_stop (Some s) (e, same) = absurd cc

pub refused_again : (old new : FeederValue RowRest) (b : Bool) (x : Var) → first_variable old.rest.place ≡ Some x → Kept old → (why : Stop) (i : ℕ) (y : Var) → why ≡ stop.Refused i y → (old.stop ≡ None → Fed old (b ∷ []) (Err why) new)
    → IfSome old.stop (λ (s : Stop). (◌≡◌ {A = Result (Unit {0}) Stop} (Err why) (Err s)) × (new ≡ old)) → Kept new × TakesBit (walk old) b (Err (Refused y)) (walk new)
refused_again old new b x first kept why i y why_is going stopped = by_stop old.stop refl stopped
  where
    by_stop : (o : Option Stop) → old.stop ≡ o → IfSome o (λ (s : Stop). (◌≡◌ {A = Result (Unit {0}) Stop} (Err why) (Err s)) × (new ≡ old)) → Kept new × TakesBit (walk old) b (Err (Refused y)) (walk new)
    by_stop None none h = refused_step old new b x first kept none i y (subst (λ (s : Stop). Fed old (b ∷ []) (Err s) new) why_is (going none))
    by_stop (Some s) some (e, same) =
        let is : s ≡ why = cc in
        (rw same kept, inr (rw (some ∙ ap (λ (s : Stop). Some s) (is ∙ why_is)) refl, ap walk same))

pub first_of : (v : FeederValue RowRest) (w : WalkValue) (x : Var) → walk v ≡ w → Some x ≡ first_variable w.left → first_variable v.rest.place ≡ Some x
first_of v w x is first = ap (λ (u : WalkValue). first_variable u.left) is ∙ sym first

pub part_long : (part : List Bool) (bits taken : ℕ) → part ≡ num taken bits → length part ≡ taken
part_long part bits taken is = ap length is ∙ length-num taken bits

-- the next number fits its type
pub number_room : (v : FeederValue RowRest) (x : Var) (bits taken : ℕ) → Kept v → first_variable v.rest.place ≡ Some x → v.part ≡ num taken bits → bits < 2 ^ taken → (taken < width x) × (bits * 2 + 1 < 2 ^ 64)
number_room v x bits taken kept first part small =
    let inside : taken < width x = omega (arith, part_long v.part bits taken part, kept.inside x first) in
    (inside, walk_room bits taken (width x) small inside (width-le x))
