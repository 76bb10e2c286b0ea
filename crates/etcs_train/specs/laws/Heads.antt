-- The heads of messages to the track, and those of their numbers.
use Rattle.std.proofs.Common.{◌≡◌, ℕ, ◌^◌, ◌≤◌, ◌<◌, List, [], ◌∷◌, length, refl, sym, ap, subst, arith}
use Rattle.std.specs.Prelude.{IsTrue, slice_index}
use Rattle.std.proofs.lemmas.Bool.Decides.{nat_tests}
use Rattle.etcs_vars.specs.declared.var.Var.TheVariants.{T_TRAIN, NID_ENGINE}
use Rattle.etcs_vars.specs.Vars.{admits}
use Rattle.etcs_vars.specs.Reading.{Reading, numbers, spelled}
use Rattle.etcs_vars.proofs.Prefixes.{admits_parts}
use Rattle.etcs_tables.specs.declared.row.Way.TheVariants.{ToTrack}
use Rattle.etcs_bodies.specs.laws.Repeats.{bit_count_is}
use Rattle.etcs_bodies.specs.laws.Takes.{number_ok, admitted}
use Rattle.etcs_reader.specs.Fields.{ReadsFields}
use Rattle.etcs_messages.specs.Kinds.{IsHead, HeadLaws}
use Rattle.etcs_tables.specs.Headers.{head_row}
use Rattle.etcs_train.specs.declared.body.TrainHead.{TrainHead}
use Rattle.etcs_train.specs.Bodies.{head_variables, head_by, train_head}

pub time_admitted : (n : ℕ) → n < 2 ^ 32 → IsTrue (admits T_TRAIN n)
time_admitted n h = grind (arith, nat_tests)

reads : (h : TrainHead) → IsHead train_head h → ReadsFields (head_row ToTrack) (head_variables h)
reads h i = (h.t_train, _, time_admitted h.t_train i.types, refl, (h.nid_engine, _, admitted NID_ENGINE h.nid_engine i.variables, refl, refl))

pub head_bits : (h : TrainHead) → 56 ≡ length (spelled (head_variables h))
head_bits h = rw (bit_count_is (head_variables h)) refl

-- they are within the widths of their variables
pub record HeadNumbers (f : List ℕ) : Type 0 where
  pub two : 2 ≤ length f
  pub time : slice_index f 0 < 2 ^ 32
  pub engine : slice_index f 1 < 2 ^ 24

-- a head's reading by its numbers
pub record HeadRead (r : Reading) : Type 0 where
  pub head : IsHead train_head (head_by (numbers r))
  pub is : head_variables (head_by (numbers r)) ≡ r
  pub fine : HeadNumbers (numbers r)

pub head_read : (r : Reading) → ReadsFields (head_row ToTrack) r → HeadRead r
head_read r (t, r1, a, e1, (n, r2, b, e2, e3)) =
    let front : Reading = (T_TRAIN, t) ∷ (NID_ENGINE, n) ∷ [] in
    let all : r ≡ front = rw (e1, e2, e3) refl in
    let time = (admits_parts T_TRAIN t a).1 in
    let engine = (admits_parts NID_ENGINE n b).1 in
    let made : HeadRead front = record { head = record { variables = number_ok NID_ENGINE n b; types = time }; is = refl; fine = record { two = omega arith; time = time; engine = engine } } in
    subst HeadRead (sym all) made

pub head_laws : HeadLaws ToTrack TrainHead head_variables train_head
head_laws = record {
  is_sent = λ h. refl;
  reads = reads;
  one = λ h g i j e. ap (λ (r : Reading). head_by (numbers r)) e;
  back = λ r h. (let k = head_read r h in (k.head, k.is));
}
