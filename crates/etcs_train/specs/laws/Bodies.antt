-- The bodies of messages to the track, and those of their numbers.
use Rattle.std.proofs.Common.{◌≡◌, ℕ, ◌^◌, ◌<◌, Bool, true, false, List, [], ◌∷◌, length, Some, refl, sym, ap, subst, ◌∙◌, inl, inr}
use Rattle.std.specs.Prelude.{◌==◌, ◌||◌, if◌then◌else◌, slice_index}
use Rattle.std.proofs.lemmas.Bool.{eqb-true, or_cases}
use Rattle.etcs_vars.specs.declared.var.Var.{Var}
use Rattle.etcs_vars.specs.declared.var.Var.TheVariants.{T_TRAIN, Q_STATUS}
use Rattle.etcs_vars.specs.Vars.{width}
use Rattle.etcs_vars.specs.Reading.{Reading, numbers}
use Rattle.etcs_vars.proofs.Prefixes.{admits_parts}
use Rattle.etcs_tables.specs.declared.row.Way.TheVariants.{ToTrack}
use Rattle.etcs_tables.specs.Layouts.{Layout, whole, one, Reads}
use Rattle.etcs_tables.specs.Rows.{found, message_row_to, message_rows_to}
use Rattle.etcs_bodies.specs.laws.Takes.{number_ok, admitted}
use Rattle.etcs_messages.specs.Kinds.{OfRow, IsOwn, IsOwnNumbers, IsMadeOf, OwnLaws}
use Rattle.etcs_train.specs.declared.body.TrainBody.{TrainBody}
use Rattle.etcs_train.specs.declared.body.TrainBody.TheVariants.{Plain, TrainTime, Status}
use Rattle.etcs_train.specs.Bodies.{nid_of_body, body_reading, body_by, train_body, is_plain, is_train_time}
use Rattle.etcs_train.specs.laws.Heads.{time_admitted}

-- ---- The numbers of each variant.

last : (P : ℕ → Type 0) (n m : ℕ) (b : Bool) → (b || n == m) ≡ true → (b ≡ true → P n) → P m → P n
last P n m b h before here = elim (or_cases b (n == m) h) [
  | inl x ↦ before x
  | inr x ↦ subst P (sym (eqb-true n m x)) here
]

only : (P : ℕ → Type 0) (n m : ℕ) → (n == m) ≡ true → P m → P n
only P n m h here = subst P (sym (eqb-true n m h)) here

at_plain : (P : ℕ → Type 0) (n : ℕ) → is_plain n ≡ true → P 130 → P 136 → P 150 → P 155 → P 156 → P 159 → P n
at_plain P n h a b c d e f =
    last P n 159 (n == 130 || n == 136 || n == 150 || n == 155 || n == 156) h (λ h5.
    last P n 156 (n == 130 || n == 136 || n == 150 || n == 155) h5 (λ h4.
    last P n 155 (n == 130 || n == 136 || n == 150) h4 (λ h3.
    last P n 150 (n == 130 || n == 136) h3 (λ h2.
    last P n 136 (n == 130) h2 (λ h1. only P n 130 h1 a) b) c) d) e) f

at_time : (P : ℕ → Type 0) (n : ℕ) → is_train_time n ≡ true → P 137 → P 138 → P 146 → P n
at_time P n h a b c =
    last P n 146 (n == 137 || n == 138) h (λ h2.
    last P n 138 (n == 137) h2 (λ h1. only P n 137 h1 a) b) c

plain_row : (n : ℕ) → is_plain n ≡ true → message_row_to ToTrack n ≡ Some whole
plain_row n h = at_plain (λ k. message_row_to ToTrack k ≡ Some whole) n h refl refl refl refl refl refl

time_row : (n : ℕ) → is_train_time n ≡ true → message_row_to ToTrack n ≡ Some (one T_TRAIN whole)
time_row n h = at_time (λ k. message_row_to ToTrack k ≡ Some (one T_TRAIN whole)) n h refl refl refl

-- ---- A body is a reading of its row.

reads : (b : TrainBody) → IsOwn train_body b → OfRow ToTrack (nid_of_body b) (body_reading b)
unfolding Reads
reads (Plain n) h = (whole, plain_row n h.variant, refl)
reads (TrainTime n t) h = (_, time_row n h.variant, (t, [], time_admitted t h.types, refl, refl))
reads (Status q) h = (_, refl, (q, [], admitted Q_STATUS q h.variables, refl, refl))

-- ---- It is the one of its number and its reading.

plain_alone : (n : ℕ) → is_plain n ≡ true → (is_train_time n ≡ false) × ((n == 157) ≡ false)
plain_alone n h =
    let P : ℕ → Type 0 = λ k. (is_train_time k ≡ false) × ((k == 157) ≡ false) in
    at_plain P n h (refl, refl) (refl, refl) (refl, refl) (refl, refl) (refl, refl) (refl, refl)

again : (b : TrainBody) → IsOwn train_body b → body_by (nid_of_body b) (numbers (body_reading b)) ≡ b
again (Plain n) h = let k = plain_alone n h.variant in rw (k.0, k.1) refl
again (TrainTime n t) h = rw h.variant refl
again (Status q) h = refl

one_body : (b c : TrainBody) → IsOwn train_body b → IsOwn train_body c → nid_of_body b ≡ nid_of_body c → body_reading b ≡ body_reading c → b ≡ c
one_body b c hb hc n e =
    sym (again b hb) ∙ ap (λ (k : ℕ). body_by k (numbers (body_reading b))) n ∙ ap (λ (r : Reading). body_by (nid_of_body c) (numbers r)) e ∙ again c hc

-- ---- The body of a reading's numbers has that reading.

abbrev Made : ℕ → Layout → Type 0
Made n row = (r : Reading) → Reads row [] r → IsMadeOf train_body n r (body_by n (numbers r))

plain_made : (n : ℕ) → is_plain n ≡ true → Made n whole
unfolding Reads
plain_made n h r none =
    let k = plain_alone n h in
    rw (k.0, k.1) record { number = refl; own = record { variant = h; variables = refl; types = tt }; back = sym none }

time_made : (n : ℕ) → is_train_time n ≡ true → Made n (one T_TRAIN whole)
unfolding Reads
time_made n h r (t, r', a, e, none) =
    let all : r ≡ (T_TRAIN, t) ∷ [] = rw (e, none) refl in
    let own : IsOwn train_body (TrainTime n t) = record { variant = h; variables = refl; types = (admits_parts T_TRAIN t a).1 } in
    let made : IsMadeOf train_body n ((T_TRAIN, t) ∷ []) (TrainTime n t) = record { number = refl; own = own; back = refl } in
    rw (all, h) made

status_made : Made 157 (one Q_STATUS whole)
unfolding Reads
status_made r (q, r', a, e, none) =
    let all : r ≡ (Q_STATUS, q) ∷ [] = rw (e, none) refl in
    let own : IsOwn train_body (Status q) = record { variant = refl; variables = number_ok Q_STATUS q a; types = tt } in
    let made : IsMadeOf train_body 157 ((Q_STATUS, q) ∷ []) (Status q) = record { number = refl; own = own; back = refl } in
    rw all made

-- what holds of each row, with its number
abbrev EachRow : (ℕ → Layout → Type 0) → List (ℕ × Layout) → Type 0
EachRow P [] = Unit {0}
EachRow P (row ∷ rows) = P row.0 row.1 × EachRow P rows

-- holds of the row that is found
of_found : (P : ℕ → Layout → Type 0) (rows : List (ℕ × Layout)) (n : ℕ) (row : Layout) → EachRow P rows → found rows n ≡ Some row → P n row
of_found P [] n row each is = absurd cc
of_found P ((m, here) ∷ rows) n row each is = by_number (n == m) refl (λ later. of_found P rows n row each.1 later) is
  where
    by_number : (b : Bool) → (n == m) ≡ b → (found rows n ≡ Some row → P n row) → (if b then Some here else found rows n) ≡ Some row → P n row
    by_number true same later first =
        let number : n ≡ m = eqb-true n m same in
        let its : here ≡ row = cc in
        rw (number, ← its) each.0
    by_number false other later first = later first

made : EachRow Made (message_rows_to ToTrack)
made =
    (plain_made 130 refl, (plain_made 136 refl, (time_made 137 refl, (time_made 138 refl, (time_made 146 refl, (plain_made 150 refl, (plain_made 155 refl, (plain_made 156 refl, (status_made, (plain_made 159 refl, tt))))))))))

pub body_made : (nid : ℕ) (row : Layout) (r : Reading) → message_row_to ToTrack nid ≡ Some row → Reads row [] r → IsMadeOf train_body nid r (body_by nid (numbers r))
body_made nid row r is h = of_found Made (message_rows_to ToTrack) nid row made is r h

pub body_laws : OwnLaws ToTrack TrainBody body_reading train_body
body_laws = record {
  is_sent = λ b. refl;
  reads = reads;
  one = one_body;
  back = body_made;
}

-- ---- The numbers of one variable.

pub record One (v : Var) (f : List ℕ) : Type 0 where
  pub count : length f ≡ 1
  pub below : slice_index f 0 < 2 ^ width v

one_of : (v : Var) (r : Reading) (f : List ℕ) → Reads (one v whole) [] r → numbers r ≡ f → One v f
unfolding Reads
one_of v r f (m, r', a, e, none) n =
    let all : r ≡ (v, m) ∷ [] = rw (e, none) refl in
    let is : f ≡ m ∷ [] = sym n ∙ ap numbers all in
    rw is record { count = refl; below = (admits_parts v m a).1 }

one_numbers : (nid : ℕ) (f : List ℕ) (v : Var) → message_row_to ToTrack nid ≡ Some (one v whole) → IsOwnNumbers ToTrack nid f → One v f
one_numbers nid f v is (row, r, found, reads, n) =
    let same : row ≡ one v whole = cc in
    one_of v r f (subst (λ (x : Layout). Reads x [] r) same reads) n

pub time_numbers : (nid : ℕ) (f : List ℕ) → is_train_time nid ≡ true → IsOwnNumbers ToTrack nid f → One T_TRAIN f
time_numbers nid f h numbered = one_numbers nid f T_TRAIN (time_row nid h) numbered

pub status_numbers : (nid : ℕ) (f : List ℕ) → nid ≡ 157 → IsOwnNumbers ToTrack nid f → One Q_STATUS f
status_numbers nid f e numbered = one_numbers nid f Q_STATUS (ap (message_row_to ToTrack) e) numbered
