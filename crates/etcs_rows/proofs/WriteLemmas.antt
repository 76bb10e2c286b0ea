-- The numbers of a row, one by one: whether they are admitted, and how they are written.
use Rattle.std.proofs.Common.{◌≡◌, ℕ, ◌+◌, ◌<◌, ◌≤◌, ◌^◌, Bool, List, [], ◌∷◌, ◌++◌, length, Some, None, refl, sym, ap, ◌∙◌, append_assoc, arith, subst}
use Rattle.std.specs.Prelude.{IsTrue, true, false, not, is_some, ◌↔◌}
use Rattle.std.proofs.lemmas.List.{append-nil, length-append}
use Rattle.etcs_bits.specs.Bits.{num, replaced}
use Rattle.etcs_bits.proofs.Lists.{replaced_more, replaced_none, length-replaced}
use Rattle.etcs_bits.proofs.Numbers.{length-num}
use Rattle.etcs_vars.specs.declared.var.Var.{Var}
use Rattle.etcs_vars.specs.Vars.{width, admits}
use Rattle.etcs_vars.specs.Reading.{Reading, spelled, numbers}
use Rattle.etcs_vars.proofs.Prefixes.{admits_parts}
use Rattle.etcs_vars.proofs.Sent.{length-sent}
use Rattle.etcs_tables.specs.Layouts.{Layout, whole, one, guarded, counted, Reads, Spells, AdmitsFields, ROW_LIMIT, looks}
use Rattle.etcs_rows.specs.Places.{onto, first_variable, after_any}
use Rattle.etcs_rows.specs.Writing.{AdmitsRest, Admits, Writes, Appends, Puts}
use Rattle.etcs_rows.proofs.PlaceLemmas.{sound_open}
use Rattle.etcs_rows.proofs.Following.{follows, looks-onto}
use Rattle.etcs_rows.proofs.LengthLemmas.{nothing_left}

-- ---- One number of what is left.

-- a reading whose first number is n
abbrev pub FirstOf : Var → Layout → ℕ → List ℕ → Reading → Type 0
FirstOf v rest n f all = (r : Reading) × (all ≡ (v, n) ∷ r) × (numbers r ≡ f) × IsTrue (admits v n) × Reads (onto n rest whole) [] r

pub first_of_row : (v : Var) (rest : Layout) (n : ℕ) (f : List ℕ) (all : Reading) → IsTrue (looks None (one v rest)) → Reads (one v rest) [] all → numbers all ≡ n ∷ f → FirstOf v rest n f all
unfolding Reads
first_of_row v rest n f all sound (m, r, ok, is, reads) e =
    let same : m ∷ numbers r ≡ n ∷ f = sym (ap numbers is) ∙ e in
    let number : m ≡ n = cc in
    let others : numbers r ≡ f = cc in
    let is' : all ≡ (v, n) ∷ r = is ∙ ap (λ k. (v, k) ∷ r) number in
    let ok' : IsTrue (admits v n) = rw number at ok in
    let here : Reads (one v rest) [] ((v, n) ∷ r) = (m, r, ok, ap (λ k. (v, k) ∷ r) (sym number), reads) in
    (r, is', others, ok', (follows v rest n sound ok' r).0 here)

-- what is left, by its first variable
next_one : (left : Layout) (v : Var) → Some v ≡ first_variable left → (rest : Layout) × (one v rest ≡ left)
next_one whole v e = absurd cc
next_one (one x rest) v e = (rest, (let same : v ≡ x = cc in ap (λ k. one k rest) same))
next_one (guarded g group rest) v e = absurd cc
next_one (counted group rest) v e = absurd cc

-- what is left after its number
next_left : (left left' : Layout) (v : Var) (n : ℕ) (rest : Layout) → one v rest ≡ left → after_any left n ≡ Some left' → onto n rest whole ≡ left'
next_left left left' v n rest is after = let a : Some (onto n rest whole) ≡ Some left' = subst (λ (x : Layout). after_any x n ≡ Some left') (sym is) after in cc

-- without a first variable nothing is left
next_none : (left : Layout) → IsTrue (looks None left) → None ≡ first_variable left → whole ≡ left
next_none whole sound e = refl
next_none (one v rest) sound e = absurd cc
next_none (guarded g group rest) sound e = elim (sound_open (guarded g group rest) sound) [ ]
next_none (counted group rest) sound e = elim (sound_open (counted group rest) sound) [ ]

-- nothing has no number
whole_reads : (r : Reading) (n : ℕ) (f : List ℕ) → Reads whole [] r → numbers r ≡ n ∷ f → ⊥
unfolding Reads
whole_reads r n f reads e = let t : numbers [] ≡ n ∷ f = sym (ap numbers reads) ∙ e in cc

-- ---- Whether numbers are admitted.

-- one number, and those after it
admits_one : (v : Var) (rest : Layout) (n taken : ℕ) (f : List ℕ) → IsTrue (looks None (one v rest)) → AdmitsRest (one v rest) (n ∷ f) taken ↔ (IsTrue (admits v n) × AdmitsRest (onto n rest whole) f (taken + width v))
admits_one v rest n taken f sound = (
  λ (all, reads, e, h).
      let x = first_of_row v rest n f all sound reads e in
      let len : length (spelled all) ≡ width v + length (spelled x.0) = ap (λ (r : Reading). length (spelled r)) x.1 ∙ length-sent v n x.0 in
      (x.3, (x.0, x.4, x.2, (let t : taken + width v + length (spelled x.0) ≤ ROW_LIMIT = omega (arith, len) in t))),
  λ (ok, (r, reads, e, h)).
      ((v, n) ∷ r, (follows v rest n sound ok r).1 reads, ap (λ (g : List ℕ). n ∷ g) e, (let t : taken + length (spelled ((v, n) ∷ r)) ≤ ROW_LIMIT = omega (arith, length-sent v n r) in t)),
)

-- where nothing is left, no number is admitted
pub admits_ended : {row left : Layout} {fields g f : List ℕ} {n taken : ℕ} → Admits row left fields g taken → g ≡ n ∷ f → None ≡ first_variable left → AdmitsFields row fields → ⊥
admits_ended {left} {f} {n} w g none a =
    let rest = w.same.1 a in
    whole_reads rest.0 n f (rw (← next_none left w.sound none) at rest.1) (rest.2 ∙ g)

-- what the next number must be
pub admits_next : {row left : Layout} {fields g f : List ℕ} {n taken : ℕ} {v : Var} → Admits row left fields g taken → g ≡ n ∷ f → Some v ≡ first_variable left → AdmitsFields row fields → IsTrue (admits v n) × (taken + width v ≤ ROW_LIMIT)
admits_next {left} {f} {n} {taken} {v} w g some a =
    let o = next_one left v some in
    let sound : IsTrue (looks None (one v o.0)) = rw o.1 w.sound in
    let rest : AdmitsRest (one v o.0) (n ∷ f) taken = rw (o.1, ← g) (w.same.1 a) in
    let x = (admits_one v o.0 n taken f sound).0 rest in
    let h = x.1.3 in
    (x.0, (let t : taken + width v ≤ ROW_LIMIT = omega (arith, h) in t))

-- after a number
pub admits_step : {row left left' : Layout} {fields g f : List ℕ} {n taken : ℕ} {v : Var} → Admits row left fields g taken → g ≡ n ∷ f → Some v ≡ first_variable left → IsTrue (admits v n) → taken + width v ≤ ROW_LIMIT → after_any left n ≡ Some left' → Admits row left' fields f (taken + width v)
admits_step {row} {left} {left'} {fields} {g} {f} {n} {taken} {v} w e some ok small after =
    let o = next_one left v some in
    let sound : IsTrue (looks None (one v o.0)) = rw o.1 w.sound in
    let one_step = admits_one v o.0 n taken f sound in
    let is : onto n o.0 whole ≡ left' = next_left left left' v n o.0 o.1 after in
    let forth : AdmitsRest left' f (taken + width v) → AdmitsFields row fields = λ x. w.same.0 (let y : AdmitsRest left g taken = rw (← o.1, e) (one_step.1 (ok, rw is x)) in y) in
    let back : AdmitsFields row fields → AdmitsRest left' f (taken + width v) = λ a. (let y : AdmitsRest (one v o.0) (n ∷ f) taken = rw (o.1, ← e) (w.same.1 a) in rw (← is) (one_step.0 y).1) in
    record {
      sound = rw (← is) (looks-onto n (Some v) o.0 whole tt sound refl);
      small = small;
      same = (forth, back);
    }

-- at the end
rest_done : (left : Layout) (taken : ℕ) (none : Bool) → IsTrue (looks None left) → taken ≤ ROW_LIMIT → is_some (first_variable left) ≡ not none → IsTrue none ↔ AdmitsRest left [] taken
unfolding Reads
rest_done whole taken true sound small e = (λ _. ([], refl, refl, (let t : taken + 0 ≤ ROW_LIMIT = omega (arith, small) in t)), λ _. refl)
rest_done whole taken false sound small e = absurd cc
rest_done (one v rest) taken true sound small e = absurd cc
rest_done (one v rest) taken false sound small e = (λ h. absurd cc, λ (r, (m, r', ok, is, reads), none, h). let t : (v, m) ∷ r' ≡ [] = sym is ∙ nothing_left r none in absurd cc)
rest_done (guarded g group rest) taken none sound small e = elim (sound_open (guarded g group rest) sound) [ ]
rest_done (counted group rest) taken none sound small e = elim (sound_open (counted group rest) sound) [ ]

pub admits_done : {row left : Layout} {fields g : List ℕ} {taken : ℕ} {none : Bool} → Admits row left fields g taken → g ≡ [] → is_some (first_variable left) ≡ not none → IsTrue none ↔ AdmitsFields row fields
admits_done {row} {left} {fields} {g} {taken} {none} w e ended =
    let rest = rest_done left taken none w.sound w.small ended in (
      λ t. w.same.0 (rw e (rest.0 t)),
      λ a. rest.1 (rw (← e) (w.same.1 a)),
    )

-- the answer where something is refused
pub refused : {A : Type 0} → (A → ⊥) → IsTrue false ↔ A
refused never = (λ h. absurd cc, λ a. absurd (never a))

-- ---- How numbers are written.

-- at the beginning
pub writes_begin : {row : Layout} {fields : List ℕ} → AdmitsFields row fields → IsTrue (looks None row) → Writes row row fields fields []
writes_begin (b, (r, reads, nums, bits), small) sound = record {
  all = r;
  rest = r;
  sound = sound;
  all_reads = reads;
  all_numbers = nums;
  rest_reads = reads;
  rest_numbers = nums;
  completes = refl;
}

-- what is left of the reading, by the next number
writes_first : {row left : Layout} {fields g f : List ℕ} {done : List Bool} {n : ℕ} {v : Var} → (w : Writes row left fields g done) → g ≡ n ∷ f → (rest : Layout) → one v rest ≡ left → FirstOf v rest n f w.rest
writes_first {row} {left} {fields} {g} {f} {done} {n} {v} w e rest is =
    let sound = subst (λ (x : Layout). IsTrue (looks None x)) (sym is) w.sound in
    let reads = subst (λ (x : Layout). Reads x [] w.rest) (sym is) w.rest_reads in
    first_of_row v rest n f w.rest sound reads (w.rest_numbers ∙ e)

-- where nothing is left, no number is to come
pub writes_ended : {row left : Layout} {fields g f : List ℕ} {done : List Bool} {n : ℕ} → Writes row left fields g done → g ≡ n ∷ f → None ≡ first_variable left → ⊥
writes_ended {left} {f} {n} w e none = whole_reads w.rest n f (rw (← next_none left w.sound none) at w.rest_reads) (w.rest_numbers ∙ e)

-- the bits done and those of the rest are all
writes_length : {row left : Layout} {fields g : List ℕ} {done : List Bool} → (w : Writes row left fields g done) → length done + length (spelled w.rest) ≡ length (spelled w.all)
writes_length {done} w = sym (length-append done (spelled w.rest)) ∙ ap length w.completes

-- the next number fits its variable, and its bits are among those of the row
pub writes_fits : {row left : Layout} {fields g f : List ℕ} {done : List Bool} {n : ℕ} {v : Var} → (w : Writes row left fields g done) → g ≡ n ∷ f → Some v ≡ first_variable left → (n < 2 ^ width v) × (length done + width v ≤ length (spelled w.all))
writes_fits {row} {left} {fields} {g} {f} {done} {n} {v} w e some =
    let o = next_one left v some in
    let x = writes_first {v = v} w e o.0 o.1 in
    let len : length (spelled w.rest) ≡ width v + length (spelled x.0) = ap (λ (r : Reading). length (spelled r)) x.1 ∙ length-sent v n x.0 in
    ((admits_parts v n x.3).1, (let t : length done + width v ≤ length (spelled w.all) = omega (arith, len, writes_length w) in t))

-- after a number
pub writes_step : {row left left' : Layout} {fields g f : List ℕ} {done : List Bool} {n : ℕ} {v : Var} → Writes row left fields g done → g ≡ n ∷ f → Some v ≡ first_variable left → after_any left n ≡ Some left' → Writes row left' fields f (done ++ num (width v) n)
writes_step {row} {left} {left'} {fields} {g} {f} {done} {n} {v} w e some after =
    let o = next_one left v some in
    let x = writes_first {v = v} w e o.0 o.1 in
    let sound : IsTrue (looks None (one v o.0)) = rw o.1 w.sound in
    let is : onto n o.0 whole ≡ left' = next_left left left' v n o.0 o.1 after in
    record {
      all = w.all;
      rest = x.0;
      sound = rw (← is) (looks-onto n (Some v) o.0 whole tt sound refl);
      all_reads = w.all_reads;
      all_numbers = w.all_numbers;
      rest_reads = rw (← is) x.4;
      rest_numbers = x.2;
      completes = append_assoc done (num (width v) n) (spelled x.0) ∙ ap (λ (r : Reading). done ++ spelled r) (sym x.1) ∙ w.completes;
    }

-- at the end all bits are done
pub writes_done : {row left : Layout} {fields g : List ℕ} {done : List Bool} → Writes row left fields g done → g ≡ [] → Spells row [] fields done
writes_done {row} {left} {fields} {g} {done} w e =
    let gone : spelled w.rest ≡ [] = ap spelled (nothing_left w.rest (w.rest_numbers ∙ e)) in
    let bits : done ≡ spelled w.all = sym (append-nil done) ∙ ap (λ (x : List Bool). done ++ x) (sym gone) ∙ w.completes in
    (w.all, w.all_reads, w.all_numbers, sym bits)

-- all bits are a spelling of the numbers
spells_all : {row left : Layout} {fields g : List ℕ} {done : List Bool} → (w : Writes row left fields g done) → Spells row [] fields (spelled w.all)
spells_all w = (w.all, w.all_reads, w.all_numbers, refl)

-- ---- Bits after others.

pub appends_begin : {row : Layout} {fields : List ℕ} {before : List Bool} → AdmitsFields row fields → IsTrue (looks None row) → Appends row row fields fields before before
appends_begin {before} admitted sound = record { done = []; writes = writes_begin admitted sound; stands = sym (append-nil before) }

pub appends_room : {row left : Layout} {fields g f : List ℕ} {before now : List Bool} {n limit : ℕ} {v : Var} → Appends row left fields g before now → g ≡ n ∷ f → Some v ≡ first_variable left → ((b : List Bool) → Spells row [] fields b → length before + length b < limit) → length now + width v < limit
appends_room {before} {now} w e some room =
    let all = room (spelled w.writes.all) (spells_all w.writes) in
    let fits = (writes_fits w.writes e some).1 in
    let len : length now ≡ length before + length w.done = ap length w.stands ∙ length-append before w.done in
    omega (arith, all, fits, len)

pub appends_step : {row left left' : Layout} {fields g f : List ℕ} {before now next : List Bool} {n : ℕ} {v : Var} → Appends row left fields g before now → g ≡ n ∷ f → Some v ≡ first_variable left → after_any left n ≡ Some left' → next ≡ now ++ num (width v) n → Appends row left' fields f before next
appends_step {before} {n} {v} w e some after is = record {
  done = w.done ++ num (width v) n;
  writes = writes_step w.writes e some after;
  stands = is ∙ ap (λ (x : List Bool). x ++ num (width v) n) w.stands ∙ append_assoc before w.done (num (width v) n);
}

pub appends_done : {row left : Layout} {fields g : List ℕ} {before now : List Bool} → Appends row left fields g before now → g ≡ [] → (b : List Bool) × Spells row [] fields b × (now ≡ before ++ b)
appends_done w e = (w.done, writes_done w.writes e, w.stands)

-- ---- Bits in the place of others.

pub puts_begin : {row : Layout} {fields : List ℕ} {start : ℕ} {before : List Bool} → AdmitsFields row fields → IsTrue (looks None row) → Puts row row fields fields start before start before
puts_begin {start} {before} admitted sound = record { done = []; writes = writes_begin admitted sound; stands = sym (replaced_none start before); place = (let t : start ≡ start + 0 = omega arith in t) }

-- the place after the next number's bits is not after the row's
pub puts_below : {row left : Layout} {fields g f : List ℕ} {start at : ℕ} {before now : List Bool} {n limit : ℕ} {v : Var} → Puts row left fields g start before at now → g ≡ n ∷ f → Some v ≡ first_variable left → ((b : List Bool) → Spells row [] fields b → start + length b ≤ limit) → at + width v ≤ limit
puts_below w e some inside =
    let all = inside (spelled w.writes.all) (spells_all w.writes) in
    let fits = (writes_fits w.writes e some).1 in
    omega (arith, all, fits, w.place)

-- as many bits as before
pub puts_length : {row left : Layout} {fields g : List ℕ} {start at : ℕ} {before now : List Bool} → Puts row left fields g start before at now → ((b : List Bool) → Spells row [] fields b → start + length b ≤ length before) → length now ≡ length before
puts_length {start} {before} w inside =
    let all = inside (spelled w.writes.all) (spells_all w.writes) in
    let short : start + length w.done ≤ length before = omega (arith, all, writes_length w.writes) in
    ap length w.stands ∙ length-replaced start w.done before short

pub puts_step : {row left left' : Layout} {fields g f : List ℕ} {start at : ℕ} {before now next : List Bool} {n : ℕ} {v : Var} → Puts row left fields g start before at now → g ≡ n ∷ f → Some v ≡ first_variable left → after_any left n ≡ Some left' → ((b : List Bool) → Spells row [] fields b → start + length b ≤ length before) → next ≡ replaced at (num (width v) n) now → Puts row left' fields f start before (at + width v) next
puts_step {start} {at} {before} {n} {v} w e some after inside is =
    let bits = num (width v) n in
    let room : at + length bits ≤ length before = omega (arith, puts_below w e some inside, length-num (width v) n) in
    record {
      done = w.done ++ bits;
      writes = writes_step w.writes e some after;
      stands = is ∙ ap (replaced at bits) w.stands ∙ replaced_more start at w.done bits before w.place room;
      place = (let t : at + width v ≡ start + length (w.done ++ bits) = omega (arith, w.place, length-append w.done bits, length-num (width v) n) in t);
    }

pub puts_done : {row left : Layout} {fields g : List ℕ} {start at : ℕ} {before now : List Bool} → Puts row left fields g start before at now → g ≡ [] → (b : List Bool) × Spells row [] fields b × (now ≡ replaced start b before) × (at ≡ start + length b)
puts_done w e = (w.done, writes_done w.writes e, w.stands, w.place)
