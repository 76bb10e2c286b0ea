-- The bodies of radio messages, and those of their numbers.
use Rattle.std.proofs.Common.{◌≡◌, ℕ, ◌^◌, ◌<◌, ltb, Bool, true, false, List, [], ◌∷◌, Some, None, refl, sym, arith, ◌-◌, ap, ◌∙◌}
use Rattle.std.specs.Prelude.{IsTrue, Option, ℤ, pos, negsuc, ◌||◌, ◌==◌, nat_lt, slice_index_or, if◌then◌else◌}
use Rattle.std.proofs.lemmas.Bool.{ltb-true, eqb-true, ltb-false}
use Rattle.std.proofs.lemmas.Bool.Decides.{nat_tests}
use Rattle.etcs_bits.specs.Bits.{bit}
use Rattle.etcs_vars.specs.declared.var.Var.{Var}
use Rattle.etcs_vars.specs.declared.var.Var.TheVariants.{T_TRAIN, M_ACK, NID_EM, M_VERSION, Q_SCALE, D_REF, D_SR, Q_ORIENTATION}
use Rattle.etcs_vars.specs.declared.fault.BuildFault.TheVariants.{NotAdmitted}
use Rattle.etcs_vars.specs.Faults.{number_fault}
use Rattle.etcs_vars.specs.Vars.{admits}
use Rattle.etcs_tables.specs.declared.row.Way.TheVariants.{ToTrain}
use Rattle.etcs_tables.specs.Layouts.{Layout, whole, one, Reads}
use Rattle.etcs_tables.specs.Rows.{message_row_to}
use Rattle.etcs_radio.specs.declared.body.Body.{Body}
use Rattle.etcs_radio.specs.declared.body.Body.TheVariants.{SrAuthorisation, Plain, TrainTime, Emergency, Version, Shifted, Orientation}
use Rattle.etcs_vars.specs.Reading.{Reading, numbers}
use Rattle.etcs_vars.specs.declared.fault.BuildFault.{BuildFault}
use Rattle.etcs_vars.specs.Faults.{◌or_else◌}
use Rattle.etcs_messages.specs.Kinds.{OfRow, IsMadeOf, OwnLaws}
use Rattle.etcs_radio.specs.Bodies.{is_plain_message, nid_of_body, body_reading, d_ref_number, signed, body_by, radio_body, FitsSigned16, IsBody, IsBodyNumbers, ReadsBack}
use Rattle.etcs_radio.specs.laws.Rows.{at_time, at_emergency, one_number, two_numbers, second_below, plain_row, plain_else, time_row, emergency_row, sr_body, time_body, emergency_body, version_body, shifted_body, one_flag, back_none, back_one, back_two}

-- ---- What a variable without a fault admits.

none_left : (e f : Option BuildFault) → (e or_else f) ≡ None → (e ≡ None) × (f ≡ None)
none_left None f h = (refl, h)
none_left (Some x) f h = absurd cc

test_true : (b : Bool) (x : BuildFault) → (if b then None else Some x) ≡ None → b ≡ true
test_true true x h = refl
test_true false x h = absurd cc

pub admits_of : (v : Var) (n : ℕ) → number_fault v n ≡ None → IsTrue (admits v n)
admits_of v n h = test_true (admits v n) (NotAdmitted v) h

pub time_admitted : (n : ℕ) → n < 2 ^ 32 → IsTrue (admits T_TRAIN n)
time_admitted n h = grind (arith, nat_tests)

pub ack_admitted : (b : Bool) → IsTrue (admits M_ACK (bit b))
ack_admitted true = refl
ack_admitted false = refl

orientation_admitted : (b : Bool) → IsTrue (admits Q_ORIENTATION (bit b))
orientation_admitted true = refl
orientation_admitted false = refl

shift_admitted : (n : ℕ) → n < 2 ^ 16 → IsTrue (admits D_REF n)
shift_admitted n h = grind (arith, nat_tests)

pub shift_small : (d : ℤ) → FitsSigned16 d → d_ref_number d < 2 ^ 16
shift_small (pos n) h = omega (arith, h)
shift_small (negsuc n) h = omega (arith, h)

-- ---- A body is a reading of its row.

one_reads : (v : Var) (n : ℕ) → IsTrue (admits v n) → Reads (one v whole) [] ((v, n) ∷ [])
unfolding Reads
one_reads v n h = (n, [], h, refl, refl)

two_reads : (v w : Var) (n m : ℕ) → IsTrue (admits v n) → IsTrue (admits w m) → Reads (one v (one w whole)) [] ((v, n) ∷ (w, m) ∷ [])
unfolding Reads
two_reads v w n m h k = (n, (w, m) ∷ [], h, refl, (m, [], k, refl, refl))

none_reads : Reads whole [] []
unfolding Reads
none_reads = refl

pub body_reads : (b : Body) → IsBody b → OfRow ToTrain (nid_of_body b) (body_reading b)
body_reads (SrAuthorisation q d) h =
    let q' = admits_of Q_SCALE q (none_left (number_fault Q_SCALE q) (number_fault D_SR d) h.variables).0 in
    let d' = admits_of D_SR d (none_left (number_fault Q_SCALE q) (number_fault D_SR d) h.variables).1 in
    (_, refl, two_reads Q_SCALE D_SR q d q' d')
body_reads (Plain n) h = (whole, plain_row n h.variant, none_reads)
body_reads (TrainTime n t) h = (_, time_row n h.variant, one_reads T_TRAIN t (time_admitted t h.types))
body_reads (Emergency n e) h = (_, emergency_row n h.variant, one_reads NID_EM e (admits_of NID_EM e h.variables))
body_reads (Version v) h = (_, refl, one_reads M_VERSION v (admits_of M_VERSION v h.variables))
body_reads (Shifted q d) h = (_, refl, two_reads Q_SCALE D_REF q (d_ref_number d) (admits_of Q_SCALE q h.variables) (shift_admitted (d_ref_number d) (shift_small d h.types)))
body_reads (Orientation o) h = (_, refl, one_reads Q_ORIENTATION (bit o) (orientation_admitted o))

-- ---- A body by its reading.

abbrev first_number : Reading → ℕ
first_number [] = 0
first_number (p ∷ r) = p.1

abbrev second_number : Reading → ℕ
second_number [] = 0
second_number (p ∷ r) = first_number r

signed_back : (d : ℤ) → FitsSigned16 d → signed (d_ref_number d) ≡ d
signed_back (pos n) h = grind (arith, nat_tests)
signed_back (negsuc n) h = let high : nat_lt (65535 - n) 32768 ≡ false = grind (arith, nat_tests) in let same : 65535 - (65535 - n) ≡ n = omega (arith, h) in rw (high, same) refl

abbrev body_from : ℕ → Reading → Body
body_from nid r =
    if is_plain_message nid then Plain nid else
    if nid == 8 || nid == 27 || nid == 28 then TrainTime nid (first_number r) else
    if nid == 16 || nid == 18 then Emergency nid (first_number r) else
    if nid == 2 then SrAuthorisation (first_number r) (second_number r) else
    if nid == 32 then Version (first_number r) else
    if nid == 33 then Shifted (first_number r) (signed (second_number r)) else Orientation (first_number r == 1)

time_not_plain : (n : ℕ) → (n == 8 || n == 27 || n == 28) ≡ true → is_plain_message n ≡ false
time_not_plain n h = at_time (λ k. is_plain_message k ≡ false) n h refl refl refl

emergency_not_plain : (n : ℕ) → (n == 16 || n == 18) ≡ true → is_plain_message n ≡ false
emergency_not_plain n h = at_emergency (λ k. is_plain_message k ≡ false) n h refl refl

emergency_not_time : (n : ℕ) → (n == 16 || n == 18) ≡ true → (n == 8 || n == 27 || n == 28) ≡ false
emergency_not_time n h = grind (arith, nat_tests)

flag_back : (o : Bool) → (bit o == 1) ≡ o
flag_back true = refl
flag_back false = refl

body_back : (b : Body) → IsBody b → body_from (nid_of_body b) (body_reading b) ≡ b
body_back (SrAuthorisation q d) h = refl
body_back (Plain n) h = rw h.variant refl
body_back (TrainTime n t) h = rw (time_not_plain n h.variant, h.variant) refl
body_back (Emergency n e) h = rw (emergency_not_plain n h.variant, emergency_not_time n h.variant, h.variant) refl
body_back (Version v) h = refl
body_back (Shifted q d) h = ap (Shifted q) (signed_back d h.types)
body_back (Orientation o) h = ap Orientation (flag_back o)

pub one_body : (b c : Body) → IsBody b → IsBody c → nid_of_body b ≡ nid_of_body c → body_reading b ≡ body_reading c → b ≡ c
one_body b c hb hc n e = sym (body_back b hb) ∙ ap (λ (k : ℕ). body_from k (body_reading b)) n ∙ ap (body_from (nid_of_body c)) e ∙ body_back c hc

-- ---- The body of some numbers.

signed_two : (n : ℕ) → n < 2 ^ 16 → (FitsSigned16 (signed n)) × (d_ref_number (signed n) ≡ n)
signed_two n h = by_test (nat_lt n 32768) refl
  where
    by_test : (b : Bool) → nat_lt n 32768 ≡ b → (FitsSigned16 (signed n)) × (d_ref_number (signed n) ≡ n)
    by_test true e = let l = ltb-true n 32768 e in rw e (omega (arith, l), refl)
    by_test false e = let l = ltb-false n 32768 e in rw e (omega (arith, l, h), omega (arith, l, h))

-- ---- The body.

pub record BodyMade (nid : ℕ) (g : List ℕ) (b : Body) : Type 0 where
  pub number : nid_of_body b ≡ nid
  pub body : IsBody b
  pub back : ReadsBack nid g b

pub body_made : (nid : ℕ) (g : List ℕ) → IsBodyNumbers nid g → BodyMade nid g (body_by nid g)
body_made nid g h = by_sr (nid == 2) refl
  where
    none_typed : (nid == 2) ≡ false → is_plain_message nid ≡ false → (nid == 8 || nid == 27 || nid == 28) ≡ false → (nid == 16 || nid == 18) ≡ false → (nid == 32) ≡ false → (nid == 33) ≡ false → (nid == 45) ≡ false → ⊥
    none_typed e2 ep et ee ev es eo =
        let (row, r, typed, reads, nums) = h in
        let plain = plain_else nid row typed e2 et ee ev es eo in
        absurd cc

    by_orientation : (b : Bool) → (nid == 45) ≡ b → (nid == 2) ≡ false → is_plain_message nid ≡ false → (nid == 8 || nid == 27 || nid == 28) ≡ false → (nid == 16 || nid == 18) ≡ false → (nid == 32) ≡ false → (nid == 33) ≡ false → BodyMade nid g (body_by nid g)
    by_orientation true e e2 ep et ee ev es =
        let n : nid ≡ 45 = eqb-true nid 45 e in
        let t = one_number nid g Q_ORIENTATION (ap (message_row_to ToTrain) n) h in
        rw (ep, e2, et, ee, ev, es)
        (record { number = sym n; body = record { variant = refl; variables = refl; types = tt }; back = back_one nid g (Orientation (slice_index_or g 0 0 == 1)) Q_ORIENTATION (ap (message_row_to ToTrain) n) t (ap (λ (k : ℕ). let r : Reading = (Q_ORIENTATION, k) ∷ [] in r) (one_flag (slice_index_or g 0 0) t.admitted)) })
    by_orientation false e e2 ep et ee ev es = absurd (none_typed e2 ep et ee ev es e)

    by_shifted : (b : Bool) → (nid == 33) ≡ b → (nid == 2) ≡ false → is_plain_message nid ≡ false → (nid == 8 || nid == 27 || nid == 28) ≡ false → (nid == 16 || nid == 18) ≡ false → (nid == 32) ≡ false → BodyMade nid g (body_by nid g)
    by_shifted true e e2 ep et ee ev =
        let n : nid ≡ 33 = eqb-true nid 33 e in
        let t = two_numbers nid g Q_SCALE D_REF (ap (message_row_to ToTrain) n) h in
        let s = signed_two (slice_index_or g 1 0) (second_below Q_SCALE D_REF g t) in
        rw (ep, e2, et, ee, ev, e)
        (record { number = sym n; body = shifted_body (slice_index_or g 0 0) (signed (slice_index_or g 1 0)) t.first s.0; back = back_two nid g (Shifted (slice_index_or g 0 0) (signed (slice_index_or g 1 0))) Q_SCALE D_REF (ap (message_row_to ToTrain) n) t (ap (λ (k : ℕ). let r : Reading = (Q_SCALE, slice_index_or g 0 0) ∷ (D_REF, k) ∷ [] in r) s.1) })
    by_shifted false e e2 ep et ee ev = by_orientation (nid == 45) refl e2 ep et ee ev e

    by_version : (b : Bool) → (nid == 32) ≡ b → (nid == 2) ≡ false → is_plain_message nid ≡ false → (nid == 8 || nid == 27 || nid == 28) ≡ false → (nid == 16 || nid == 18) ≡ false → BodyMade nid g (body_by nid g)
    by_version true e e2 ep et ee =
        let n : nid ≡ 32 = eqb-true nid 32 e in
        let t = one_number nid g M_VERSION (ap (message_row_to ToTrain) n) h in
        rw (ep, e2, et, ee, e)
        (record { number = sym n; body = version_body (slice_index_or g 0 0) t.admitted; back = back_one nid g (Version (slice_index_or g 0 0)) M_VERSION (ap (message_row_to ToTrain) n) t refl })
    by_version false e e2 ep et ee = by_shifted (nid == 33) refl e2 ep et ee e

    by_emergency : (b : Bool) → (nid == 16 || nid == 18) ≡ b → (nid == 2) ≡ false → is_plain_message nid ≡ false → (nid == 8 || nid == 27 || nid == 28) ≡ false → BodyMade nid g (body_by nid g)
    by_emergency true e e2 ep et =
        let t = one_number nid g NID_EM (emergency_row nid e) h in
        rw (ep, e2, et, e)
        (record { number = refl; body = emergency_body nid (slice_index_or g 0 0) e t.admitted; back = back_one nid g (Emergency nid (slice_index_or g 0 0)) NID_EM (emergency_row nid e) t refl })
    by_emergency false e e2 ep et = by_version (nid == 32) refl e2 ep et e

    by_time : (b : Bool) → (nid == 8 || nid == 27 || nid == 28) ≡ b → (nid == 2) ≡ false → is_plain_message nid ≡ false → BodyMade nid g (body_by nid g)
    by_time true e e2 ep =
        let t = one_number nid g T_TRAIN (time_row nid e) h in
        rw (ep, e2, e)
        (record { number = refl; body = time_body nid (slice_index_or g 0 0) e t.admitted; back = back_one nid g (TrainTime nid (slice_index_or g 0 0)) T_TRAIN (time_row nid e) t refl })
    by_time false e e2 ep = by_emergency (nid == 16 || nid == 18) refl e2 ep e

    by_plain : (b : Bool) → is_plain_message nid ≡ b → (nid == 2) ≡ false → BodyMade nid g (body_by nid g)
    by_plain true e e2 = rw (e, e2) (record { number = refl; body = record { variant = e; variables = refl; types = tt }; back = back_none nid g (Plain nid) (plain_row nid e) h refl })
    by_plain false e e2 = by_time (nid == 8 || nid == 27 || nid == 28) refl e2 e

    by_sr : (b : Bool) → (nid == 2) ≡ b → BodyMade nid g (body_by nid g)
    by_sr true e =
        let n : nid ≡ 2 = eqb-true nid 2 e in
        let t = two_numbers nid g Q_SCALE D_SR (ap (message_row_to ToTrain) n) h in
        rw e (record { number = sym n; body = sr_body (slice_index_or g 0 0) (slice_index_or g 1 0) t.first t.second; back = back_two nid g (SrAuthorisation (slice_index_or g 0 0) (slice_index_or g 1 0)) Q_SCALE D_SR (ap (message_row_to ToTrain) n) t refl })
    by_sr false e = by_plain (is_plain_message nid) refl e

back : (nid : ℕ) (row : Layout) (r : Reading) → message_row_to ToTrain nid ≡ Some row → Reads row [] r → IsMadeOf radio_body nid r (body_by nid (numbers r))
back nid row r typed reads =
    let made = body_made nid (numbers r) (row, r, typed, reads, refl) in
    record { number = made.number; own = made.body; back = made.back row r typed reads refl }

pub body_laws : OwnLaws ToTrain Body body_reading radio_body
body_laws = record {
  is_sent = λ b. refl;
  reads = body_reads;
  one = one_body;
  back = back;
}
