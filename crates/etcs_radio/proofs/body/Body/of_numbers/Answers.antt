use Rattle.std.proofs.Common.{rules, ◌≡◌, ◌^◌, ◌<◌, ℕ, List, [], ◌∷◌, true, length, ap, refl, sym, ◌∙◌, arith, inl, inr}
use Rattle.std.specs.Prelude.{slice_index_or, ◌==◌, ◌||◌, ◌⊎◌}
use Rattle.etcs_vars.specs.declared.var.Var.TheVariants.{T_TRAIN, NID_EM, M_VERSION, Q_SCALE, D_REF, D_SR, Q_ORIENTATION}
use Rattle.etcs_vars.specs.Reading.{Reading}
use mir.Val.{SFits}
use mir.Syntax.{w16}
use Rattle.std.proofs.lemmas.Int.{to_z-of_z}
use Rattle.etcs_tables.specs.declared.row.Way.TheVariants.{ToTrain}
use Rattle.etcs_tables.specs.Rows.{message_row_to}
use Rattle.etcs_radio.specs.declared.body.Body.TheVariants.{SrAuthorisation, Plain, TrainTime, Emergency, Version, Shifted, Orientation}
use Rattle.etcs_radio.specs.Bodies.{IsBodyNumbers, is_plain_message}
use Rattle.etcs_radio.specs.laws.Rows.{One, Two, one_number, two_numbers, one_below, first_below, second_below, plain_row, time_row, emergency_row, sr_body, time_body, emergency_body, version_body, shifted_body, one_flag, back_none, back_one, back_two}
use Rattle.etcs_radio.proofs.body.Body.of_numbers.Goals as goal

numbers_2 : (nid : ℕ) (f : List ℕ) → nid ≡ 2 → IsBodyNumbers nid f → Two Q_SCALE D_SR f
numbers_2 nid f e h = two_numbers nid f Q_SCALE D_SR (ap (message_row_to ToTrain) e) h

numbers_33 : (nid : ℕ) (f : List ℕ) → nid ≡ 33 → IsBodyNumbers nid f → Two Q_SCALE D_REF f
numbers_33 nid f e h = two_numbers nid f Q_SCALE D_REF (ap (message_row_to ToTrain) e) h

numbers_32 : (nid : ℕ) (f : List ℕ) → nid ≡ 32 → IsBodyNumbers nid f → One M_VERSION f
numbers_32 nid f e h = one_number nid f M_VERSION (ap (message_row_to ToTrain) e) h

numbers_45 : (nid : ℕ) (f : List ℕ) → nid ≡ 45 → IsBodyNumbers nid f → One Q_ORIENTATION f
numbers_45 nid f e h = one_number nid f Q_ORIENTATION (ap (message_row_to ToTrain) e) h

abbrev flag_reading : ℕ → Reading
flag_reading k = (Q_ORIENTATION, k) ∷ []

abbrev shifted_reading : ℕ → ℕ → Reading
shifted_reading q k = (Q_SCALE, q) ∷ (D_REF, k) ∷ []

is_emergency : (nid : ℕ) → (nid ≡ 16) ⊎ (nid ≡ 18) → (nid == 16 || nid == 18) ≡ true
is_emergency nid (inl e) = rw e refl
is_emergency nid (inr e) = rw e refl

pub returns-in_default-clause-reading : goal.returns-in_default-clause-reading
returns-in_default-clause-reading c =
    let plain : is_plain_message c.args.nid ≡ true = search rules in
    back_none c.args.nid c.args.numbers.now (Plain c.args.nid) (plain_row c.args.nid plain) c.requires refl

pub bounds-numbers-0 : goal.bounds-numbers-0
bounds-numbers-0 c = let h = one_number c.args.nid c.args.numbers.now T_TRAIN (time_row c.args.nid (sym c.is_train_time.ensures ∙ c.if-is_train_time.true)) c.requires in omega (arith, h.count)

pub overflow_cast-result : goal.overflow_cast-result
overflow_cast-result c = let h = one_number c.args.nid c.args.numbers.now T_TRAIN (time_row c.args.nid (sym c.is_train_time.ensures ∙ c.if-is_train_time.true)) c.requires in let k : slice_index_or c.args.numbers.now 0 0 < 2 ^ 32 = one_below T_TRAIN c.args.numbers.now h in search rules

pub returns-then-is_train_time-clause-body : goal.returns-then-is_train_time-clause-body
returns-then-is_train_time-clause-body c = let h = one_number c.args.nid c.args.numbers.now T_TRAIN (time_row c.args.nid (sym c.is_train_time.ensures ∙ c.if-is_train_time.true)) c.requires in time_body c.args.nid (slice_index_or c.args.numbers.now 0 0) (sym c.is_train_time.ensures ∙ c.if-is_train_time.true) h.admitted

pub returns-then-is_train_time-clause-reading : goal.returns-then-is_train_time-clause-reading
returns-then-is_train_time-clause-reading c = let h = one_number c.args.nid c.args.numbers.now T_TRAIN (time_row c.args.nid (sym c.is_train_time.ensures ∙ c.if-is_train_time.true)) c.requires in back_one c.args.nid c.args.numbers.now (TrainTime c.args.nid (slice_index_or c.args.numbers.now 0 0)) T_TRAIN (time_row c.args.nid (sym c.is_train_time.ensures ∙ c.if-is_train_time.true)) h refl

pub bounds-numbers-0-in-2 : goal.bounds-numbers-0-in-2
bounds-numbers-0-in-2 c = let h = numbers_2 c.args.nid c.args.numbers.now c.in-2.is c.requires in omega (arith, h.count)

pub overflow_cast-result-in-2 : goal.overflow_cast-result-in-2
overflow_cast-result-in-2 c = let h = numbers_2 c.args.nid c.args.numbers.now c.in-2.is c.requires in let k : slice_index_or c.args.numbers.now 0 0 < 2 ^ 8 = omega (arith, first_below Q_SCALE D_SR c.args.numbers.now h) in search rules

pub bounds-numbers-1 : goal.bounds-numbers-1
bounds-numbers-1 c = let h = numbers_2 c.args.nid c.args.numbers.now c.in-2.is c.requires in let k : 1 < length c.args.numbers.now = omega (arith, h.count) in search rules

pub overflow_cast-result-in-2-2 : goal.overflow_cast-result-in-2-2
overflow_cast-result-in-2-2 c = let h = numbers_2 c.args.nid c.args.numbers.now c.in-2.is c.requires in let k : slice_index_or c.args.numbers.now 1 0 < 2 ^ 16 = omega (arith, second_below Q_SCALE D_SR c.args.numbers.now h) in search rules

pub returns-in-2-clause-body : goal.returns-in-2-clause-body
returns-in-2-clause-body c = let h = numbers_2 c.args.nid c.args.numbers.now c.in-2.is c.requires in sr_body (slice_index_or c.args.numbers.now 0 0) (slice_index_or c.args.numbers.now 1 0) h.first h.second

pub returns-in-2-clause-reading : goal.returns-in-2-clause-reading
returns-in-2-clause-reading c = let h = numbers_2 c.args.nid c.args.numbers.now c.in-2.is c.requires in back_two c.args.nid c.args.numbers.now (SrAuthorisation (slice_index_or c.args.numbers.now 0 0) (slice_index_or c.args.numbers.now 1 0)) Q_SCALE D_SR (ap (message_row_to ToTrain) c.in-2.is) h refl

pub bounds-numbers-0-in-16 : goal.bounds-numbers-0-in-16
bounds-numbers-0-in-16 c = let h = one_number c.args.nid c.args.numbers.now NID_EM (emergency_row c.args.nid (is_emergency c.args.nid c.in-16.is)) c.requires in omega (arith, h.count)

pub overflow_cast-result-in-16 : goal.overflow_cast-result-in-16
overflow_cast-result-in-16 c = let h = one_number c.args.nid c.args.numbers.now NID_EM (emergency_row c.args.nid (is_emergency c.args.nid c.in-16.is)) c.requires in let k : slice_index_or c.args.numbers.now 0 0 < 2 ^ 8 = omega (arith, one_below NID_EM c.args.numbers.now h) in search rules

pub returns-in-16-clause-body : goal.returns-in-16-clause-body
returns-in-16-clause-body c = let h = one_number c.args.nid c.args.numbers.now NID_EM (emergency_row c.args.nid (is_emergency c.args.nid c.in-16.is)) c.requires in emergency_body c.args.nid (slice_index_or c.args.numbers.now 0 0) (is_emergency c.args.nid c.in-16.is) h.admitted

pub returns-in-16-clause-reading : goal.returns-in-16-clause-reading
returns-in-16-clause-reading c = let h = one_number c.args.nid c.args.numbers.now NID_EM (emergency_row c.args.nid (is_emergency c.args.nid c.in-16.is)) c.requires in back_one c.args.nid c.args.numbers.now (Emergency c.args.nid (slice_index_or c.args.numbers.now 0 0)) NID_EM (emergency_row c.args.nid (is_emergency c.args.nid c.in-16.is)) h refl

pub bounds-numbers-0-in-32 : goal.bounds-numbers-0-in-32
bounds-numbers-0-in-32 c = let h = numbers_32 c.args.nid c.args.numbers.now c.in-32.is c.requires in omega (arith, h.count)

pub overflow_cast-result-in-32 : goal.overflow_cast-result-in-32
overflow_cast-result-in-32 c = let h = numbers_32 c.args.nid c.args.numbers.now c.in-32.is c.requires in let k : slice_index_or c.args.numbers.now 0 0 < 2 ^ 8 = omega (arith, one_below M_VERSION c.args.numbers.now h) in search rules

pub returns-in-32-clause-body : goal.returns-in-32-clause-body
returns-in-32-clause-body c = let h = numbers_32 c.args.nid c.args.numbers.now c.in-32.is c.requires in version_body (slice_index_or c.args.numbers.now 0 0) h.admitted

pub returns-in-32-clause-reading : goal.returns-in-32-clause-reading
returns-in-32-clause-reading c = let h = numbers_32 c.args.nid c.args.numbers.now c.in-32.is c.requires in back_one c.args.nid c.args.numbers.now (Version (slice_index_or c.args.numbers.now 0 0)) M_VERSION (ap (message_row_to ToTrain) c.in-32.is) h refl

pub bounds-numbers-0-in-33 : goal.bounds-numbers-0-in-33
bounds-numbers-0-in-33 c = let h = numbers_33 c.args.nid c.args.numbers.now c.in-33.is c.requires in omega (arith, h.count)

pub overflow_cast-result-in-33 : goal.overflow_cast-result-in-33
overflow_cast-result-in-33 c = let h = numbers_33 c.args.nid c.args.numbers.now c.in-33.is c.requires in let k : slice_index_or c.args.numbers.now 0 0 < 2 ^ 8 = omega (arith, first_below Q_SCALE D_REF c.args.numbers.now h) in search rules

pub bounds-numbers-1-in-33 : goal.bounds-numbers-1-in-33
bounds-numbers-1-in-33 c = let h = numbers_33 c.args.nid c.args.numbers.now c.in-33.is c.requires in let k : 1 < length c.args.numbers.now = omega (arith, h.count) in search rules

pub signed_d_ref-requires : goal.signed_d_ref-requires
signed_d_ref-requires c = let h = numbers_33 c.args.nid c.args.numbers.now c.in-33.is c.requires in second_below Q_SCALE D_REF c.args.numbers.now h

pub returns-in-33-clause-body : goal.returns-in-33-clause-body
returns-in-33-clause-body c =
    let h = numbers_33 c.args.nid c.args.numbers.now c.in-33.is c.requires in
    let d = c.signed_d_ref.result in
    let f : SFits w16 d = search rules in
    rw (to_z-of_z w16 d f) (shifted_body (slice_index_or c.args.numbers.now 0 0) d h.first c.signed_d_ref.ensures.fits)

pub returns-in-33-clause-reading : goal.returns-in-33-clause-reading
returns-in-33-clause-reading c =
    let h = numbers_33 c.args.nid c.args.numbers.now c.in-33.is c.requires in
    let q = slice_index_or c.args.numbers.now 0 0 in
    let d = c.signed_d_ref.result in
    let f : SFits w16 d = search rules in
    rw (to_z-of_z w16 d f) (back_two c.args.nid c.args.numbers.now (Shifted q d) Q_SCALE D_REF (ap (message_row_to ToTrain) c.in-33.is) h (ap (shifted_reading q) c.signed_d_ref.ensures.two))

pub bounds-numbers-0-in-45 : goal.bounds-numbers-0-in-45
bounds-numbers-0-in-45 c = let h = numbers_45 c.args.nid c.args.numbers.now c.in-45.is c.requires in omega (arith, h.count)

pub returns-in-45-clause-reading : goal.returns-in-45-clause-reading
returns-in-45-clause-reading c = let h = numbers_45 c.args.nid c.args.numbers.now c.in-45.is c.requires in back_one c.args.nid c.args.numbers.now (Orientation (slice_index_or c.args.numbers.now 0 0 == 1)) Q_ORIENTATION (ap (message_row_to ToTrain) c.in-45.is) h (ap (λ (k : ℕ). flag_reading k) (one_flag (slice_index_or c.args.numbers.now 0 0) h.admitted))
