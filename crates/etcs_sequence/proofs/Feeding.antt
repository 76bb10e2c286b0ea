-- What a reader of any language of values returns.
use Rattle.std.proofs.Common.{◌≡◌, ℕ, ◌+◌, ◌-◌, ◌*◌, ◌/◌, ◌%◌, ◌<◌, ◌≤◌, Bool, true, false, List, [], ◌∷◌, ◌++◌, length, take, drop, min, Some, None, Ok, Err, refl, sym, ap, subst, ◌∙◌, arith, append_assoc}
use Rattle.std.specs.Prelude.{Option, Result, IsTrue, IfSome, IsNone, is_some}
use Rattle.std.proofs.lemmas.List.{append-nil, length-append, take-append-drop, take_at, take_all, length-take-le, take-take}
use Rattle.std.proofs.Math.Seq.{take-append-add}
use Rattle.etcs_bits.specs.Bits.{bits}
use Rattle.etcs_bits.proofs.ByteBits.{bits-append}
use Rattle.etcs_bits.proofs.Positions.{length-bits}
use Rattle.etcs_vars.specs.declared.var.Var.{Var}
use Rattle.etcs_vars.specs.declared.feed.Fed.{Fed}
use Rattle.etcs_vars.specs.declared.feed.Fed.TheVariants.{More, Done}
use Rattle.etcs_vars.specs.declared.feed.ReadFault.{ReadFault}
use Rattle.etcs_vars.specs.Walking.{Residual, Refuses}
use Rattle.etcs_vars.specs.Reading.{Sent, Reading, spelled, InLanguage, Viable, Owner, readings_of}
use Rattle.etcs_vars.proofs.Apart.{apart}
use Rattle.etcs_vars.proofs.Languages.{Same}
use Rattle.etcs_vars.proofs.Walk.{Regular}
use Rattle.etcs_vars.specs.laws.Spellings.{spelled-append}
use Rattle.etcs_vars.proofs.Outcomes.{more_wanted, none_refused, refuses_longer}
use Rattle.etcs_reader.specs.declared.feeder.Stop.{Stop}
use Rattle.etcs_reader.specs.declared.feeder.Stop.TheVariants.{Refused, Memory}
use Rattle.etcs_reader.specs.Rests.{Goes, BeginsWith}
use Rattle.etcs_reader.specs.Readers.{Passed, Takes, RefusesAt, StarvesAt}
use Rattle.etcs_reader.specs.Feeders as feeders
use Rattle.etcs_reader.specs.Feeders.{FeederValue}
use Rattle.etcs_reader.specs.laws.FieldLaws.{residual_along}
use Rattle.etcs_reader.proofs.Passing.{passed_viable, passed_language, passed_owner, passed_owners, passed_refuses}
use Rattle.etcs_sequence.specs.declared.list.PacketList.{PacketList}
use Rattle.etcs_sequence.specs.Progress.{Progress, reading, finished, stopped, starved, progress_by, asks_memory, asked_from, Feeds, fault_by, seen_of, Reached, IsReader}
use Rattle.etcs_sequence.specs.Readables.{Readable, seen_at, progress_at, IsFed, IsFedTo}

-- ---- Bytes.

bits_cut : (xs : List ℕ) (i : ℕ) → bits (take i xs) ++ bits (drop i xs) ≡ bits xs
bits_cut xs i = sym (bits-append (take i xs) (drop i xs)) ∙ ap bits (take-append-drop i xs)

pub bits_take : (xs : List ℕ) (i : ℕ) → i ≤ length xs → bits (take i xs) ≡ take (8 * i) (bits xs)
bits_take xs i h =
    let len : length (bits (take i xs)) ≡ 8 * i = omega (arith, length-bits (take i xs), length-take-le i xs h) in
    sym (ap (take (8 * i)) (sym (bits_cut xs i)) ∙ take_at (bits (take i xs)) (bits (drop i xs)) (8 * i) len)

-- ---- Of any language.

pub none_there : {A : Type 0} (o : Option A) → is_some o ≡ false → o ≡ None
none_there None e = refl
none_there (Some s) e = absurd cc

language_viable : (L : Reading → Type 0) (b : List Bool) → InLanguage L b → Viable L b
language_viable L b (r, l, e) = (r, [], l, e ∙ sym (append-nil b))

no_front : (a b : List Bool) → a ++ b ≡ [] → a ≡ []
no_front [] b e = refl
no_front (x ∷ a) b e = absurd cc

-- no bits follow a whole reading
whole_part : (L : Reading → Type 0) → Regular L → (r : Reading) (part : List Bool) → L r → Viable L (spelled r ++ part) → part ≡ []
whole_part L regular r part l (q, c, m, e) =
    let all : spelled r ++ (part ++ c) ≡ spelled q ++ [] = sym (append_assoc (spelled r) part c) ∙ sym e ∙ sym (append-nil (spelled q)) in
    no_front part c (apart r q (part ++ c) [] (regular.agree r q l m) (regular.fit r l) (regular.fit q m) all).1

-- ---- What a feeder's result means.

module _ {R : Type 0} (left : R → Reading → Type 0) (next : R → Option Var) (v : FeederValue R) (n : ℕ) (found : Option Var) (here : found ≡ next v.rest) where
  pub fed_more : (x : Var) → found ≡ Some x → (v.stop ≡ None → IfSome found (Owner (left v.rest) v.part)) → IsFed left next v (Ok n) (Ok More)
  fed_more x is own = rw (sym here, is) (refl, λ none. rw is at own none)

  pub fed_done : found ≡ None → (v.stop ≡ None → IsNone found → (v.part ≡ []) × left v.rest []) → IsFed left next v (Ok n) (Ok (Done (n / 8)))
  fed_done is ended = rw (sym here, is) (refl, λ none. (ended none (rw is refl)).1)

module _ {R V W P : Type 0} {left : R → Reading → Type 0} {next : R → Option Var} {follows : R → Reading → R → Type 0} {fails : R → Type 0} {far : R → Reading} {holds : R → Reading → Type 0} {Reads : W → Reading → Type 0} {value : V → W} {IsValue : V → Type 0} {size : V → ℕ} {made : R → V} {store : R → PacketList P} {Members : List P → List ℕ → List Bool → Reading → Type 0} {most least : ℕ} (w : Readable R V W P left next follows fails far holds Reads value IsValue size made store Members most least) where
  abbrev L : Reading → Type 0
  L = readings_of Reads

  -- all bits that were fed
  abbrev pub seen : FeederValue R → List Bool
  seen v = seen_at far v

  -- it has come so far
  abbrev pub At : FeederValue R → Type 0
  At v = Reached L (left v.rest) (holds v.rest) (far v.rest) v.part v.count

  abbrev pub progress : FeederValue R → Progress V
  progress v = progress_at next far made v

  -- what a reader keeps
  abbrev pub Is : FeederValue R → Type 0
  Is v = IsReader L (left v.rest) (holds v.rest) (far v.rest) v.part v.count v.stop

  viable_length : (b : List Bool) → Viable L b → length b ≤ 8 * most
  viable_length b (r, c, l, e) = omega (arith, ap length e, length-append b c, (w.bytes r l).1)

  language_bytes : (b : List Bool) → InLanguage L b → length b % 8 ≡ 0
  language_bytes b (r, l, e) = subst (λ (t : List Bool). length t % 8 ≡ 0) e (w.bytes r l).0

  -- it continues, so they are fewer
  owned_length : (b : List Bool) (x : Var) → Owner L b x → length b < 8 * most
  owned_length b x o = fewer o.viable
    where
      fewer : Viable L b → length b < 8 * most
      fewer (r, [], l, e) = absurd (o.open_end (r, l, e ∙ append-nil b))
      fewer (r, c ∷ cs, l, e) = omega (arith, ap length e, length-append b (c ∷ cs), (w.bytes r l).1)

  -- ---- At a reader that hasn't stopped.

  module _ (v : FeederValue R) (none : v.stop ≡ None) where
    pub at_of : Is v → At v
    at_of is = rw none at is

    pub is_of : At v → Is v
    is_of at = rw none at

    pub going_progress : is_some (next v.rest) ≡ true → progress v ≡ reading (seen v)
    going_progress g = rw (none, g) refl

    pub whole_progress : is_some (next v.rest) ≡ false → progress v ≡ finished (made v.rest)
    whole_progress g = rw (none, g) refl

  -- at the end
  pub whole_reading : (v : FeederValue R) → At v → next v.rest ≡ None → L (far v.rest)
  whole_reading v at e =
      let l = subst (left v.rest) (w.ended v.rest e at.goes.0 at.goes.1) at.goes.1 in
      subst L (append-nil (far v.rest)) (at.residual.from [] l)

  -- so if a reader hasn't stopped and nothing comes next
  pub ended_reading : (v : FeederValue R) → Is v → is_some v.stop ≡ false → is_some (next v.rest) ≡ false → L (far v.rest)
  ended_reading v is stop end = whole_reading v (at_of v (none_there v.stop stop) is) (none_there (next v.rest) end)

  pub whole_seen : (v : FeederValue R) → At v → next v.rest ≡ None → seen v ≡ spelled (far v.rest)
  whole_seen v at e =
      let none = whole_part L w.regular (far v.rest) v.part (whole_reading v at e) at.viable in
      rw none (append-nil (spelled (far v.rest)))

  pub whole_value : (v : FeederValue R) → At v → next v.rest ≡ None → IsValue (made v.rest) × Reads (value (made v.rest)) (far v.rest)
  whole_value v at e = w.whole v.rest e (whole_reading v at e) at.held

  -- how many bytes are left
  pub bytes_wanted : (v : FeederValue R) → At v → v.count / 8 ≤ most
  bytes_wanted v at = omega (arith, viable_length (seen v) at.viable, at.counted)

  -- if memory is refused, it may be needed at the variable with which all that is left begins
  first_asks : (s : R) (q : Reading) (x : Var) → Goes (left s) → BeginsWith (left s) x → fails s → holds s q → IsTrue (asks_memory x) × (asked_from x ≤ length (spelled q))
  first_asks s q x g begins f h = by_next (next s) refl
    where
      by_next : (o : Option Var) → next s ≡ o → IsTrue (asks_memory x) × (asked_from x ≤ length (spelled q))
      by_next None e =
          let (n, r, is) = begins g.0 g.1 in
          let none : ◌≡◌ {A = Reading} [] ((x, n) ∷ r) = sym (w.ended s e g.0 g.1) ∙ is in
          absurd cc
      by_next (Some y) e =
          let (n, r, is) = begins g.0 g.1 in
          let (m, t, is') = w.begins_with s y e g.0 g.1 in
          let two : ◌≡◌ {A = Reading} ((y, m) ∷ t) ((x, n) ∷ r) = sym is' ∙ is in
          let head : ◌≡◌ {A = Sent} (y, m) (x, n) = cc in
          subst (λ (v : Var). IsTrue (asks_memory v) × (asked_from v ≤ length (spelled q))) (ap (λ (u : Sent). u.0) head) (w.asks s q y e g f h)

  -- ---- Of all bits, by what was left.

  module _ (old : FeederValue R) (at : At old) where
    by_far : Passed (λ p. Residual L p (left old.rest)) (seen old) old.part
    by_far = record { whole = far old.rest; follows = at.residual; bits = refl }

    all_viable : (t : List Bool) → Viable (left old.rest) (old.part ++ t) → Viable L (seen old ++ t)
    all_viable = passed_viable L w.regular (left old.rest) (λ p. Residual L p (left old.rest)) (λ p h. h) (seen old) old.part by_far

    all_language : (t : List Bool) → InLanguage (left old.rest) (old.part ++ t) → InLanguage L (seen old ++ t)
    all_language = passed_language L w.regular (left old.rest) (λ p. Residual L p (left old.rest)) (λ p h. h) (seen old) old.part by_far

    all_owner : (t : List Bool) (x : Var) → Owner (left old.rest) (old.part ++ t) x → Owner L (seen old ++ t) x
    all_owner t x o = passed_owners L w.regular (left old.rest) (λ p. Residual L p (left old.rest)) (λ p h. h) (seen old) old.part by_far t at.goes x o

    all_refuses : (xs : List Bool) (n : ℕ) (x : Var) → Refuses (left old.rest) (old.part ++ xs) (length old.part + n) x → Refuses L (seen old ++ xs) (length (seen old) + n) x
    all_refuses xs n x h = passed_refuses L w.regular (left old.rest) (λ p. Residual L p (left old.rest)) (λ p h. h) (seen old) old.part by_far at.goes xs n x h

    -- what was passed after what was left
    abbrev passed_all : (place : R) (t part : List Bool) → Passed (λ p. follows old.rest p place) (old.part ++ t) part → Passed (λ p. Residual L p (left place)) (seen old ++ t) part
    passed_all place t part f = record {
      whole = far old.rest ++ f.whole;
      follows = residual_along L (far old.rest) (left old.rest) f.whole (left place) at.residual (w.residual old.rest place f.whole f.follows);
      bits =
          ap (λ (u : List Bool). u ++ part) (spelled-append (far old.rest) f.whole)
          ∙ append_assoc (spelled (far old.rest)) (spelled f.whole) part
          ∙ ap (λ (u : List Bool). spelled (far old.rest) ++ u) f.bits
          ∙ sym (append_assoc (spelled (far old.rest)) old.part t);
    }

    -- and what it has come to
    module _ (new : FeederValue R) (b : List Bool) (f : Passed (λ p. follows old.rest p new.rest) (old.part ++ b) new.part) (g : Goes (left new.rest)) where
      far_new : far old.rest ++ f.whole ≡ far new.rest
      far_new = w.far_is new.rest (far old.rest ++ f.whole) g (w.held old.rest new.rest f.whole (far old.rest) f.follows at.held)

      seen_new : seen new ≡ seen old ++ b
      seen_new = ap (λ (r : Reading). spelled r ++ new.part) (sym far_new) ∙ (passed_all new.rest b new.part f).bits

      reached_new : Viable L (seen old ++ b) → new.count ≡ old.count + length b → new.count % 8 ≡ 0 → At new
      reached_new v count bytes = record {
        residual = subst (λ (q : Reading). Residual L q (left new.rest)) far_new (passed_all new.rest b new.part f).follows;
        goes = g;
        held = subst (holds new.rest) far_new (w.held old.rest new.rest f.whole (far old.rest) f.follows at.held);
        viable = subst (Viable L) (sym seen_new) v;
        counted = omega (arith, count, at.counted, ap length seen_new, length-append (seen old) b);
        bytes = bytes;
      }

    -- memory is refused after what is held
    starved_after : (xs : List Bool) (n : ℕ) → (h : StarvesAt R left follows fails old.rest old.part xs n) → length (spelled (far old.rest ++ h.passed.whole)) ≤ old.count + n
    starved_after xs n h =
        let p = h.passed.whole in
        let l1 = ap length (spelled-append (far old.rest) p) ∙ length-append (spelled (far old.rest)) (spelled p) in
        let l2 = sym (length-append (spelled p) h.part) ∙ ap length h.passed.bits ∙ length-append old.part (take n xs) in
        omega (arith, l1, l2, at.counted, length-append (spelled (far old.rest)) old.part, length-take-le n xs, h.within)

    starved_far : (xs : List Bool) (n : ℕ) → StarvesAt R left follows fails old.rest old.part xs n → least ≤ old.count + n
    starved_far xs n h =
        let p = h.passed.whole in
        let long = w.starved h.place (far old.rest ++ p) h.here (w.held old.rest h.place p (far old.rest) h.passed.follows at.held) in
        omega (arith, long, starved_after xs n h)

    -- at a variable of what was passed that asks for it
    starved_owner : (xs : List Bool) (n : ℕ) → (h : StarvesAt R left follows fails old.rest old.part xs n) → Owner L (seen old ++ take n xs) h.holder
    starved_owner xs n h =
        let (r, c, l, e) = h.owned.viable in
        passed_owner L w.regular (left h.place) (λ p. Residual L p (left h.place)) (λ p k. k) (seen old ++ take n xs) h.part (passed_all h.place (take n xs) h.part h.passed) (r, l) h.holder h.owned

    starved_asks : (xs : List Bool) (n : ℕ) → (h : StarvesAt R left follows fails old.rest old.part xs n) → IsTrue (asks_memory h.holder) × (asked_from h.holder ≤ old.count + n)
    starved_asks xs n h =
        let (r, c, l, e) = h.owned.viable in
        let asks = first_asks h.place (far old.rest ++ h.passed.whole) h.holder (r, l) h.begins h.here (w.held old.rest h.place h.passed.whole (far old.rest) h.passed.follows at.held) in
        (asks.0, omega (arith, asks.1, starved_after xs n h))

  -- ---- A piece, of which these bytes are fed.

  pub record Answer (old new : FeederValue R) (piece : List ℕ) (result : Result Fed ReadFault) : Type 0 where
    pub is : Is new
    pub fed : Feeds Reads value IsValue least (seen old) (bits piece) result (progress new)

  module _ (old new : FeederValue R) (piece : List ℕ) (taken : ℕ) (at : At old) (e : taken ≡ min (most - old.count / 8) (length piece)) where
    abbrev xs : List Bool
    xs = bits (take taken piece)

    within : taken ≤ length piece
    within = omega (arith, e)

    long : length xs ≡ 8 * taken
    long = omega (arith, length-bits (take taken piece), length-take-le taken piece within)

    -- more bits are left
    more : (n : ℕ) (x : Var) → new.stop ≡ None → new.count ≡ old.count + n → Takes R left next follows old.rest old.part xs n new.rest new.part → next new.rest ≡ Some x → Owner (left new.rest) new.part x → Answer old new piece (Ok More)
    more n x none count h some own =
        let (all, o) = h.more x some in
        let (r, c, l, m) = own.viable in
        let owner = all_owner old at (take n xs) x o in
        let f = seen_new old at new (take n xs) h.passed (r, l) in
        let short = owned_length (seen old ++ take n xs) x owner in
        let b = length-append (seen old) (take n xs) in
        let t = length-take-le n xs h.within in
        let whole : take taken piece ≡ piece = take_all taken piece (omega (arith, e, short, b, t, all, long, at.counted, at.bytes)) in
        let new_bits : seen old ++ take n xs ≡ seen old ++ bits piece = ap (λ (u : List Bool). seen old ++ u) (take_all n xs (omega (arith, all)) ∙ ap bits whole) in
        let reached = reached_new old at new (take n xs) h.passed (r, l) owner.viable (omega (arith, count, t)) (omega (arith, count, all, long, at.bytes)) in
        let wanted = more_wanted L w.regular (seen old ++ take n xs) owner in
        record {
          is = is_of new none reached;
          fed = (
            going_progress new none (ap is_some some) ∙ ap reading (f ∙ new_bits),
            rw new_bits at wanted,
          );
        }

    -- the value is whole
    done : (n : ℕ) → new.stop ≡ None → new.count ≡ old.count + n → Takes R left next follows old.rest old.part xs n new.rest new.part → next new.rest ≡ None → Goes (left new.rest) → Answer old new piece (Ok (Done (n / 8)))
    done n none count h end g =
        let l = all_language old at (take n xs) (h.done end) in
        let f = seen_new old at new (take n xs) h.passed g in
        let b = length-append (seen old) (take n xs) in
        let t = length-take-le n xs h.within in
        let total = language_bytes (seen old ++ take n xs) l in
        let bytes : 8 * (n / 8) ≡ n = omega (arith, total, b, t, at.counted, at.bytes) in
        let reached = reached_new old at new (take n xs) h.passed g (language_viable L (seen old ++ take n xs) l) (omega (arith, count, t)) (omega (arith, count, bytes, at.bytes)) in
        let d = whole_value new reached end in
        let cut : take n xs ≡ take (8 * (n / 8)) (bits piece) = ap (take n) (bits_take piece taken within) ∙ take-take n (8 * taken) (bits piece) (omega (arith, h.within, long)) ∙ ap (λ (k : ℕ). take k (bits piece)) (sym bytes) in
        let less : 8 * (n / 8) ≤ length (bits piece) = omega (arith, bytes, h.within, long, within, length-bits piece) in
        record {
          is = is_of new none reached;
          fed = (
            made new.rest,
            whole_progress new none (ap is_some end),
            d.0,
            less,
            (
              omega (arith, less, length-append (seen old) (bits piece)),
              far new.rest,
              d.1,
              sym (whole_seen new reached end) ∙ f ∙ ap (λ (u : List Bool). seen old ++ u) cut ∙ sym (take-append-add (seen old) (bits piece) (8 * (n / 8))),
            ),
          );
        }

    -- a bit is refused
    refuses : (i n : ℕ) (x : Var) → new.stop ≡ Some (Refused i x) → new.count ≡ i → i ≡ old.count + n → RefusesAt R left next follows old.rest old.part xs n x new.rest new.part → Answer old new piece (Err (fault_by (Refused i x)))
    refuses i n x stop count i_is h =
        let place : length (seen old) + n ≡ i = omega (arith, i_is, at.counted) in
        let all : (seen old ++ xs) ++ bits (drop taken piece) ≡ seen old ++ bits piece = append_assoc (seen old) xs (bits (drop taken piece)) ∙ ap (λ (u : List Bool). seen old ++ u) (bits_cut piece taken) in
        let r = refuses_longer L (seen old ++ xs) (bits (drop taken piece)) (length (seen old) + n) x (all_refuses old at xs n x h.refuses) in
        let r' = rw (all, place) at r in
        record {
          is = rw stop count;
          fed = (rw stop refl, ((none_refused L w.regular (seen old ++ bits piece) i x r', r'.within, r'.blocked), r'.owned));
        }

    -- memory is refused
    starves : (n : ℕ) → new.stop ≡ Some Memory → new.count ≡ old.count + n → StarvesAt R left follows fails old.rest old.part xs n → Answer old new piece (Err (fault_by Memory))
    starves n stop count h =
        let v = all_viable old at (take (n + 1) xs) h.viable in
        let place : length (seen old) + (n + 1) ≡ new.count + 1 = omega (arith, count, at.counted) in
        let cut : take (n + 1) xs ≡ take (n + 1) (bits piece) = ap (take (n + 1)) (bits_take piece taken within) ∙ take-take (n + 1) (8 * taken) (bits piece) (omega (arith, h.within, long)) in
        let whole : seen old ++ take (n + 1) xs ≡ take (new.count + 1) (seen old ++ bits piece) =
        ap (λ (u : List Bool). seen old ++ u) cut ∙ sym (take-append-add (seen old) (bits piece) (n + 1)) ∙ ap (λ (k : ℕ). take k (seen old ++ bits piece)) place in
        let beyond : length (seen old) + n ≡ new.count = omega (arith, count, at.counted) in
        let less : take n xs ≡ take n (bits piece) = ap (take n) (bits_take piece taken within) ∙ take-take n (8 * taken) (bits piece) (omega (arith, h.within, long)) in
        let front : seen old ++ take n xs ≡ take new.count (seen old ++ bits piece) =
        ap (λ (u : List Bool). seen old ++ u) less ∙ sym (take-append-add (seen old) (bits piece) n) ∙ ap (λ (k : ℕ). take k (seen old ++ bits piece)) beyond in
        record {
          is = rw stop tt;
          fed = (
            new.count,
            rw stop refl,
            omega (arith, count, at.counted),
            omega (arith, count, at.counted, h.within, long, within, length-bits piece, length-append (seen old) (bits piece)),
            subst (Viable L) whole v,
            omega (arith, starved_far old at xs n h, count),
            h.holder,
            subst (λ (u : List Bool). Owner L u h.holder) front (starved_owner old at xs n h),
            (starved_asks old at xs n h).0,
            omega (arith, (starved_asks old at xs n h).1, count),
          );
        }

    -- ---- By what a feeder returns.

    stops : (stop : Stop) → feeders.Feeds R left next follows fails old xs (Err stop) new → Answer old new piece (Err (fault_by stop))
    stops (Refused i x) (stop, count, n, e, h) = refuses i n x stop count e h
    stops Memory (stop, n, count, h) = starves n stop count h

    pub answers_fed : (answer : Result ℕ Stop) (result : Result Fed ReadFault) → feeders.Feeds R left next follows fails old xs answer new → IsFed left next new answer result → Answer old new piece result
    answers_fed (Ok n) result (stop, count, t) fed = by_next (next new.rest) refl fed
      where
        by_next : (o : Option Var) → next new.rest ≡ o → IsFedTo left new n o result → Answer old new piece result
        by_next (Some x) e (is, own) = rw is (more n x stop count t e (own stop))
        by_next None e (is, ended) = rw is (done n stop count t e ([], ended stop))
    answers_fed (Err stop) result h is = rw is (stops stop h)

  -- ---- By a reader's value.

  same_bits : (x y : List Bool) → ◌≡◌ {A = Progress V} (reading x) (reading y) → x ≡ y
  same_bits x y e = cc

  pub answers : (old new : FeederValue R) (piece : List ℕ) (result : Result Fed ReadFault) (s : Progress V) → old.stop ≡ None → is_some (next old.rest) ≡ true → Answer old new piece result → progress old ≡ s
      → (b : List Bool) → s ≡ reading b → Feeds Reads value IsValue least b (bits piece) result (progress new)
  answers old new piece result s none g a e b h =
      let same = same_bits (seen old) b (sym (going_progress old none g) ∙ e ∙ h) in
      subst (λ (t : List Bool). Feeds Reads value IsValue least t (bits piece) result (progress new)) same a.fed

  -- if it reads, it hasn't stopped and something comes next
  pub still_reads : (v : FeederValue R) (b : List Bool) → progress v ≡ reading b → (v.stop ≡ None) × (is_some (next v.rest) ≡ true)
  still_reads v b = by_stop (next v.rest) v.stop
    where
      by_stop : (o : Option Var) (stop : Option Stop) → progress_by o (seen v) (made v.rest) v.count stop ≡ reading b → (stop ≡ None) × (is_some o ≡ true)
      by_stop (Some x) None e = (refl, refl)
      by_stop None None e = let two : ◌≡◌ {A = Progress V} (finished (made v.rest)) (reading b) = e in absurd cc
      by_stop o (Some (Refused i x)) e = let two : ◌≡◌ {A = Progress V} (stopped i x) (reading b) = e in absurd cc
      by_stop o (Some Memory) e = let two : ◌≡◌ {A = Progress V} (starved v.count) (reading b) = e in absurd cc

  -- how many bits it counted
  pub counted : (v : FeederValue R) → Is v → v.count ≡ seen_of size (progress v)
  counted v is = by_stop v.stop refl
    where
      by_next : v.stop ≡ None → (o : Option Var) → next v.rest ≡ o → v.count ≡ seen_of size (progress v)
      by_next none (Some x) e = (at_of v none is).counted ∙ ap (seen_of size) (sym (going_progress v none (ap is_some e)))
      by_next none None e =
          let at = at_of v none is in
          let d = whole_value v at e in
          at.counted ∙ ap length (whole_seen v at e) ∙ w.counted (made v.rest) (far v.rest) d.0 d.1 ∙ ap (seen_of size) (sym (whole_progress v none (ap is_some e)))

      by_stop : (stop : Option Stop) → v.stop ≡ stop → v.count ≡ seen_of size (progress v)
      by_stop None e = by_next e (next v.rest) refl
      by_stop (Some (Refused i x)) e = rw e (rw e at is)
      by_stop (Some Memory) e = rw e refl

  -- ---- Before the first bit.

  module _ (v : FeederValue R) (part : v.part ≡ []) (count : v.count ≡ 0) (none : v.stop ≡ None) (same : Same (left v.rest) L) (held : holds v.rest []) where
    first_goes : Goes (left v.rest)
    first_goes = (w.some.0, (same w.some.0).1 w.some.1)

    none_far : [] ≡ far v.rest
    none_far = w.far_is v.rest [] first_goes held

    pub none_seen : seen v ≡ []
    none_seen = ap (λ (r : Reading). spelled r ++ v.part) (sym none_far) ∙ part

    pub first_at : At v
    first_at = record {
      residual =
          let d : Residual L [] (left v.rest) = record { to = λ q l. (same q).1 l; from = λ q l. (same q).0 l } in
          subst (λ (q : Reading). Residual L q (left v.rest)) none_far d;
      goes = first_goes;
      held = subst (holds v.rest) none_far held;
      viable = subst (Viable L) (sym none_seen) (w.some.0, spelled w.some.0, w.some.1, refl);
      counted = count ∙ sym (ap length none_seen);
      bytes = rw count refl;
    }

    pub first_is : Is v
    first_is = is_of v none first_at

    pub first_progress : progress v ≡ reading []
    first_progress = by_next (next v.rest) refl
      where
        by_next : (o : Option Var) → next v.rest ≡ o → progress v ≡ reading []
        by_next (Some x) e = going_progress v none (ap is_some e) ∙ ap reading none_seen
        by_next None e = absurd (let l = w.long (far v.rest) (whole_reading v first_at e) in let n = ap (λ (r : Reading). length (spelled r)) none_far in omega (arith, l, n))
