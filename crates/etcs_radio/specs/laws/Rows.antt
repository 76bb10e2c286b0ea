-- The variables of a message's own: a body of its numbers.
use Rattle.std.proofs.Common.{◌≡◌, ℕ, ◌^◌, ◌<◌, Bool, true, false, List, [], ◌∷◌, length, Option, Some, None, refl, sym, ap, ◌∙◌, subst, inl, inr, arith}
use Rattle.std.proofs.lemmas.Bool.{or_cases, eqb-true, ne_eqb}
use Rattle.std.specs.Prelude.{◌||◌, ◌++◌, option_map, IsTrue, if◌then◌else◌, ℤ, slice_index_or, ◌==◌}
use Rattle.etcs_bits.specs.Bits.{bit}
use Rattle.etcs_bits.proofs.Numbers.{bit-eqb}
use Rattle.etcs_vars.specs.declared.var.Var.{Var}
use Rattle.etcs_vars.specs.declared.var.Var.TheVariants.{T_TRAIN, NID_EM, M_VERSION, Q_SCALE, D_SR, Q_ORIENTATION}
use Rattle.etcs_vars.specs.declared.fault.BuildFault.TheVariants.{NotAdmitted}
use Rattle.etcs_vars.specs.Faults.{number_fault}
use Rattle.etcs_vars.specs.Vars.{width, admits}
use Rattle.etcs_vars.specs.Reading.{Sent, Reading, numbers}
use Rattle.etcs_vars.proofs.Prefixes.{admits_parts}
use Rattle.etcs_tables.specs.declared.item.RowItem.{RowItem}
use Rattle.etcs_tables.specs.declared.item.RowItem.TheVariants as item
use Rattle.etcs_tables.specs.declared.row.Way.TheVariants.{ToTrain}
use Rattle.etcs_tables.specs.Layouts.{Layout, whole, one, guarded, counted, Reads, items}
use Rattle.etcs_tables.specs.Rows.{message_row_to, message_rows_to}
use Rattle.etcs_tables.proofs.EachRow.{of_each}
use Rattle.etcs_radio.specs.declared.body.Body.{Body}
use Rattle.etcs_radio.specs.declared.body.Body.TheVariants.{SrAuthorisation, TrainTime, Emergency, Version, Shifted}
use Rattle.etcs_radio.specs.Bodies.{body_reading, is_plain, is_plain_message, FitsSigned16, IsBody, IsBodyNumbers, ReadsBack}

-- ---- The numbers of a row.

-- as many numbers as variables, each admitted
abbrev pub Numbered : List Var → List ℕ → Type 0
Numbered [] f = f ≡ []
Numbered (v ∷ vs) f = (n : ℕ) × (g : List ℕ) × IsTrue (admits v n) × (f ≡ n ∷ g) × Numbered vs g

abbrev row_of : List Var → Layout
row_of [] = whole
row_of (v ∷ vs) = one v (row_of vs)

row_numbers : (vs : List Var) (s : List Sent) (r : Reading) → Reads (row_of vs) s r → Numbered vs (numbers r)
unfolding Reads
row_numbers [] s r h = ap numbers h
row_numbers (v ∷ vs) s r (n, r', a, e, h) = (n, numbers r', a, ap numbers e, row_numbers vs ((v, n) ∷ s) r' h)

-- variables with their numbers
abbrev pub labelled : List Var → List ℕ → Reading
labelled [] f = []
labelled (v ∷ vs) [] = []
labelled (v ∷ vs) (n ∷ f) = (v, n) ∷ labelled vs f

row_reading : (vs : List Var) (s : List Sent) (r : Reading) → Reads (row_of vs) s r → r ≡ labelled vs (numbers r)
unfolding Reads
row_reading [] s r h = h
row_reading (v ∷ vs) s r (n, r', a, e, h) = let rest = row_reading vs ((v, n) ∷ s) r' h in e ∙ ap (λ (q : Reading). (v, n) ∷ q) rest ∙ sym (ap (λ (q : Reading). labelled (v ∷ vs) (numbers q)) e)

module _ (nid : ℕ) (f : List ℕ) (vs : List Var) (found : message_row_to ToTrain nid ≡ Some (row_of vs)) where
  pub numbered : IsBodyNumbers nid f → Numbered vs f
  numbered (row, r, e, reads, n) =
      let same : row ≡ row_of vs = cc in
      subst (Numbered vs) n (row_numbers vs [] r (subst (λ (x : Layout). Reads x [] r) same reads))

  pub read_back : (b : Body) → body_reading b ≡ labelled vs f → ReadsBack nid f b
  read_back b e row r found' reads n =
      let same : row ≡ row_of vs = cc in
      e ∙ ap (labelled vs) (sym n) ∙ sym (row_reading vs [] r (subst (λ (x : Layout). Reads x [] r) same reads))

-- the numbers of one variable, and of two
pub record One (v : Var) (f : List ℕ) : Type 0 where
  pub count : length f ≡ 1
  pub admitted : IsTrue (admits v (slice_index_or f 0 0))
  pub all : f ≡ slice_index_or f 0 0 ∷ []

pub record Two (v w : Var) (f : List ℕ) : Type 0 where
  pub count : length f ≡ 2
  pub first : IsTrue (admits v (slice_index_or f 0 0))
  pub second : IsTrue (admits w (slice_index_or f 1 0))
  pub all : f ≡ slice_index_or f 0 0 ∷ slice_index_or f 1 0 ∷ []

one_of : (v : Var) (f : List ℕ) → Numbered (v ∷ []) f → One v f
one_of v f (n, g, a, e, h) = rw (e, h) (record { count = refl; admitted = a; all = refl })

two_of : (v w : Var) (f : List ℕ) → Numbered (v ∷ w ∷ []) f → Two v w f
two_of v w f (n, g, a, e, (m, k, b, i, h)) = rw (e, i, h) (record { count = refl; first = a; second = b; all = refl })

pub one_number : (nid : ℕ) (f : List ℕ) (v : Var) → message_row_to ToTrain nid ≡ Some (one v whole) → IsBodyNumbers nid f → One v f
one_number nid f v e h = one_of v f (numbered nid f (v ∷ []) e h)

pub two_numbers : (nid : ℕ) (f : List ℕ) (v w : Var) → message_row_to ToTrain nid ≡ Some (one v (one w whole)) → IsBodyNumbers nid f → Two v w f
two_numbers nid f v w e h = two_of v w f (numbered nid f (v ∷ w ∷ []) e h)

pub one_below : (v : Var) (f : List ℕ) → One v f → slice_index_or f 0 0 < 2 ^ width v
one_below v f h = (admits_parts v (slice_index_or f 0 0) h.admitted).1

pub first_below : (v w : Var) (f : List ℕ) → Two v w f → slice_index_or f 0 0 < 2 ^ width v
first_below v w f h = (admits_parts v (slice_index_or f 0 0) h.first).1

pub second_below : (v w : Var) (f : List ℕ) → Two v w f → slice_index_or f 1 0 < 2 ^ width w
second_below v w f h = (admits_parts w (slice_index_or f 1 0) h.second).1

-- ---- The rows by number.

plain_whole : (o : Option Layout) → is_plain o ≡ true → o ≡ Some whole
plain_whole None h = absurd cc
plain_whole (Some whole) h = refl
plain_whole (Some (one v rest)) h = absurd cc
plain_whole (Some (guarded g group rest)) h = absurd cc
plain_whole (Some (counted group rest)) h = absurd cc

pub plain_row : (nid : ℕ) → is_plain_message nid ≡ true → message_row_to ToTrain nid ≡ Some whole
plain_row nid h = plain_whole (message_row_to ToTrain nid) h

some_items : (first : RowItem) (table : List RowItem) → (length (first ∷ table) == 0) ≡ false
some_items first table = ne_eqb (length (first ∷ table)) 0 (λ e. omega (arith, e))

-- the table of a plain message's row is empty
pub plain_items : (o : Option Layout) (table : List RowItem) → Some table ≡ option_map items o → (length table == 0) ≡ is_plain o
plain_items None table e = absurd cc
plain_items (Some whole) table e = let same : table ≡ [] = cc in rw same refl
plain_items (Some (one v rest)) table e = let same : table ≡ item.One v ∷ items rest = cc in rw same (some_items (item.One v) (items rest))
plain_items (Some (guarded g group rest)) table e = let same : table ≡ item.When g (length (items group)) ∷ (items group ++ items rest) = cc in rw same (some_items (item.When g (length (items group))) (items group ++ items rest))
plain_items (Some (counted group rest)) table e = let same : table ≡ item.Many (length (items group)) ∷ (items group ++ items rest) = cc in rw same (some_items (item.Many (length (items group))) (items group ++ items rest))

pub plain_none : (o : Option Layout) → None ≡ option_map items o → false ≡ is_plain o
plain_none None e = refl
plain_none (Some row) e = absurd cc

-- what holds at the numbers of messages with T_TRAIN, or with NID_EM
pub at_time : (P : ℕ → Type 0) (nid : ℕ) → (nid == 8 || nid == 27 || nid == 28) ≡ true → P 8 → P 27 → P 28 → P nid
at_time P nid h a b c = elim (or_cases (nid == 8 || nid == 27) (nid == 28) h) [
  | inl y ↦ elim (or_cases (nid == 8) (nid == 27) y) [
    | inl x ↦ subst P (sym (eqb-true nid 8 x)) a
    | inr x ↦ subst P (sym (eqb-true nid 27 x)) b
  ]
  | inr x ↦ subst P (sym (eqb-true nid 28 x)) c
]

pub at_emergency : (P : ℕ → Type 0) (nid : ℕ) → (nid == 16 || nid == 18) ≡ true → P 16 → P 18 → P nid
at_emergency P nid h a b = elim (or_cases (nid == 16) (nid == 18) h) [
  | inl x ↦ subst P (sym (eqb-true nid 16 x)) a
  | inr x ↦ subst P (sym (eqb-true nid 18 x)) b
]

pub time_row : (nid : ℕ) → (nid == 8 || nid == 27 || nid == 28) ≡ true → message_row_to ToTrain nid ≡ Some (one T_TRAIN whole)
time_row nid h = at_time (λ n. message_row_to ToTrain n ≡ Some (one T_TRAIN whole)) nid h refl refl refl

pub emergency_row : (nid : ℕ) → (nid == 16 || nid == 18) ≡ true → message_row_to ToTrain nid ≡ Some (one NID_EM whole)
emergency_row nid h = at_emergency (λ n. message_row_to ToTrain n ≡ Some (one NID_EM whole)) nid h refl refl

-- a typed message of no other number is plain
pub plain_else : (nid : ℕ) (row : Layout) → message_row_to ToTrain nid ≡ Some row → (nid == 2) ≡ false → (nid == 8 || nid == 27 || nid == 28) ≡ false → (nid == 16 || nid == 18) ≡ false → (nid == 32) ≡ false → (nid == 33) ≡ false → (nid == 45) ≡ false → is_plain_message nid ≡ true
plain_else nid row is e2 et ee ev es eo =
    let known : (nid == 2 || (nid == 8 || nid == 27 || nid == 28) || (nid == 16 || nid == 18) || nid == 32 || nid == 33 || nid == 45 || is_plain (Some row)) ≡ true = of_each (λ n r. n == 2 || (n == 8 || n == 27 || n == 28) || (n == 16 || n == 18) || n == 32 || n == 33 || n == 45 || is_plain (Some r)) (message_rows_to ToTrain) nid row refl is in
    ap is_plain is ∙ (rw (e2, et, ee, ev, es, eo) at known)

-- ---- Bodies without a fault.

none_of : (v : Var) (b : Bool) → b ≡ true → (if b then None else Some (NotAdmitted v)) ≡ None
none_of v b h = rw h refl

pub no_fault : (v : Var) (n : ℕ) → IsTrue (admits v n) → number_fault v n ≡ None
no_fault v n h = none_of v (admits v n) h

below : (v : Var) (n : ℕ) → IsTrue (admits v n) → n < 2 ^ width v
below v n h = (admits_parts v n h).1

pub sr_body : (q d : ℕ) → IsTrue (admits Q_SCALE q) → IsTrue (admits D_SR d) → IsBody (SrAuthorisation q d)
sr_body q d h k = record { variant = refl; variables = rw (no_fault Q_SCALE q h) (no_fault D_SR d k); types = tt }

pub time_body : (n t : ℕ) → (n == 8 || n == 27 || n == 28) ≡ true → IsTrue (admits T_TRAIN t) → IsBody (TrainTime n t)
time_body n t v h = record { variant = v; variables = refl; types = below T_TRAIN t h }

pub emergency_body : (n e : ℕ) → (n == 16 || n == 18) ≡ true → IsTrue (admits NID_EM e) → IsBody (Emergency n e)
emergency_body n e v h = record { variant = v; variables = no_fault NID_EM e h; types = tt }

pub version_body : (v : ℕ) → IsTrue (admits M_VERSION v) → IsBody (Version v)
version_body v h = record { variant = refl; variables = no_fault M_VERSION v h; types = tt }

pub shifted_body : (q : ℕ) (d : ℤ) → IsTrue (admits Q_SCALE q) → FitsSigned16 d → IsBody (Shifted q d)
shifted_body q d h k = record { variant = refl; variables = no_fault Q_SCALE q h; types = k }

pub one_flag : (n : ℕ) → IsTrue (admits Q_ORIENTATION n) → bit (n == 1) ≡ n
one_flag n h = bit-eqb n (below Q_ORIENTATION n h)

-- ---- Their readings.

pub back_none : (nid : ℕ) (f : List ℕ) (b : Body) → message_row_to ToTrain nid ≡ Some whole → IsBodyNumbers nid f → body_reading b ≡ [] → ReadsBack nid f b
back_none nid f b e h i = read_back nid f [] e b i

pub back_one : (nid : ℕ) (f : List ℕ) (b : Body) (v : Var) → message_row_to ToTrain nid ≡ Some (one v whole) → One v f → body_reading b ≡ (v, slice_index_or f 0 0) ∷ [] → ReadsBack nid f b
back_one nid f b v e h i = read_back nid f (v ∷ []) e b (i ∙ sym (ap (labelled (v ∷ [])) h.all))

pub back_two : (nid : ℕ) (f : List ℕ) (b : Body) (v w : Var) → message_row_to ToTrain nid ≡ Some (one v (one w whole)) → Two v w f → body_reading b ≡ (v, slice_index_or f 0 0) ∷ (w, slice_index_or f 1 0) ∷ [] → ReadsBack nid f b
back_two nid f b v w e h i = read_back nid f (v ∷ w ∷ []) e b (i ∙ sym (ap (labelled (v ∷ w ∷ [])) h.all))
