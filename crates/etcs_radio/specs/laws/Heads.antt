-- The heads of radio messages, and those of their numbers.
use Rattle.std.proofs.Common.{◌≡◌, ℕ, Bool, true, false, List, [], ◌∷◌, Some, None, refl, sym, ap, subst, ◌∙◌, arith}
use Rattle.std.specs.Prelude.{◌==◌}
use Rattle.etcs_bits.specs.Bits.{bit}
use Rattle.etcs_bits.proofs.Numbers.{bit-eqb}
use Rattle.etcs_vars.specs.declared.var.Var.TheVariants.{T_TRAIN, M_ACK, NID_LRBG}
use Rattle.etcs_vars.specs.Reading.{Reading, numbers}
use Rattle.etcs_vars.proofs.Prefixes.{admits_parts}
use Rattle.etcs_tables.specs.declared.row.Way.TheVariants.{ToTrain}
use Rattle.etcs_reader.specs.Fields.{ReadsFields}
use Rattle.etcs_messages.specs.Kinds.{IsHead, HeadLaws}
use Rattle.etcs_tables.specs.Headers.{head_row}
use Rattle.etcs_radio.specs.declared.body.RadioHead.{RadioHead}
use Rattle.etcs_radio.specs.Bodies.{head_variables, head_by, radio_head, IsHeadNumbers}
use Rattle.etcs_radio.specs.laws.Rows.{no_fault}
use Rattle.etcs_radio.specs.laws.Bodies.{admits_of, time_admitted, ack_admitted}

reads : (h : RadioHead) → IsHead radio_head h → ReadsFields (head_row ToTrain) (head_variables h)
reads h i = (h.t_train, _, time_admitted h.t_train i.types, refl, (bit h.m_ack, _, ack_admitted h.m_ack, refl, (h.nid_lrbg, _, admits_of NID_LRBG h.nid_lrbg i.variables, refl, refl)))

flag_back : (b : Bool) (h : RadioHead) → h.m_ack ≡ b → head_by (numbers (head_variables h)) ≡ h
flag_back true h e = rw e refl
flag_back false h e = rw e refl

pub head_back : (h : RadioHead) → head_by (numbers (head_variables h)) ≡ h
head_back h = flag_back h.m_ack h refl

one : (h g : RadioHead) → IsHead radio_head h → IsHead radio_head g → head_variables h ≡ head_variables g → h ≡ g
one h g i j e = sym (head_back h) ∙ ap (λ (r : Reading). head_by (numbers r)) e ∙ head_back g

-- a head's reading by its numbers
pub record HeadRead (r : Reading) : Type 0 where
  pub head : IsHead radio_head (head_by (numbers r))
  pub is : head_variables (head_by (numbers r)) ≡ r
  pub fine : IsHeadNumbers (numbers r)

pub head_fields : (r : Reading) → ReadsFields (head_row ToTrain) r → HeadRead r
head_fields r (t, r1, a, e1, (m, r2, b, e2, (l, r3, k, e3, e4))) =
    let front : Reading = (T_TRAIN, t) ∷ (M_ACK, m) ∷ (NID_LRBG, l) ∷ [] in
    let all : r ≡ front = rw (e1, e2, e3, e4) refl in
    let ack : bit (m == 1) ≡ m = bit-eqb m (admits_parts M_ACK m b).1 in
    let time = (admits_parts T_TRAIN t a).1 in
    let group = (admits_parts NID_LRBG l k).1 in
    let is : head_variables (head_by (numbers front)) ≡ front = rw ack refl in
    let made : HeadRead front = record { head = record { variables = no_fault NID_LRBG l k; types = time }; is = is; fine = record { three = omega arith; time = time; group = group } } in
    subst HeadRead (sym all) made

pub head_laws : HeadLaws ToTrain RadioHead head_variables radio_head
head_laws = record {
  is_sent = λ h. refl;
  reads = reads;
  one = one;
  back = λ r h. (let k = head_fields r h in (k.head, k.is));
}
