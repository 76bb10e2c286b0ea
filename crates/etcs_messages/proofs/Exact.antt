-- The numbers of the next variable with which a message goes on.
use Rattle.std.proofs.Common.{◌≡◌, ℕ, zero, suc, ◌^◌, ◌<◌, Some, refl, subst, arith}
use Rattle.std.specs.Prelude.{IsTrue, nat_le, false, ◌&&◌}
use Rattle.std.proofs.lemmas.Bool.{and_from, or_left, le-leb}
use Rattle.etcs_vars.specs.declared.var.Var.{Var}
use Rattle.etcs_vars.specs.declared.var.Var.TheVariants.{NID_MESSAGE, L_MESSAGE, PADDING, OTHER_DATA}
use Rattle.etcs_vars.specs.Vars.{admits}
use Rattle.etcs_vars.proofs.Prefixes.{width_pos, admits_from}
use Rattle.etcs_tables.specs.declared.row.Way.{Way}
use Rattle.etcs_reader.specs.Rests.{Goes}
use Rattle.etcs_rows.specs.declared.here.Here.{Here}
use Rattle.etcs_rows.specs.declared.here.Here.TheVariants.{Any, MessageLength}
use Rattle.etcs_rows.specs.Causes.{Exactly}
use Rattle.etcs_rows.specs.laws.RestLaws.{head_of}
use Rattle.etcs_rows.proofs.ExactLemmas.{exact_as, exact_admitted, exact_each}
use Rattle.etcs_sequence.specs.Lefts.{next_of, left_of}
use Rattle.etcs_sequence.proofs.Exact.{data_admitted}
use Rattle.etcs_messages.specs.declared.phase.Phase.TheVariants as phase
use Rattle.etcs_messages.specs.Lefts.{front_row, AfterMessageLength, LengthLeft, next_at, left_at, MessageState, Left, next_var}
use Rattle.etcs_messages.specs.laws.RestLaws.{rest_regular}
use Rattle.etcs_messages.proofs.Begins.{begins_number, begins_front, begins_packets, begins_padding, begins_data}
use Rattle.etcs_messages.proofs.LengthFits.{length_fits}

-- each NID_MESSAGE is admitted, and each bit of PADDING
number_admitted : (n : ℕ) → n < 2 ^ 8 → IsTrue (admits NID_MESSAGE n)
number_admitted n lt = admits_from NID_MESSAGE n (or_left (nat_le 0 n && nat_le n 255) false (and_from (nat_le 0 n) (nat_le n 255) (le-leb 0 n (omega arith)) (le-leb n 255 (omega (arith, lt))))) lt

padding_admitted : (n : ℕ) → n < 2 → IsTrue (admits PADDING n)
padding_admitted zero lt = refl
padding_admitted (suc zero) lt = refl
padding_admitted (suc (suc n)) lt = absurd (omega (arith, lt))

-- L_MESSAGE
lengths_exact : (way : Way) (nid : ℕ) → Exactly (LengthLeft way nid) L_MESSAGE (MessageLength way nid)
lengths_exact way nid =
    record {
      passes = λ l (r, (m, q, e, after)). (let h = head_of L_MESSAGE l m r q e in (length_fits way nid l).1 (q, subst (λ (k : ℕ). AfterMessageLength way (front_row way nid) k q) h.0 after));
      continues = λ l f. (let (q, after) = (length_fits way nid l).0 f in (q, (l, q, refl, after)));
    }

module _ {S : Type 0} (s : MessageState S) (x : Var) (next : next_var s ≡ Some x) where
  pub number_exact : s.phase ≡ phase.Number → Exactly (Left s) x Any
  number_exact e =
      let next' : next_at s.way s.nid phase.Number s.left ≡ Some x = rw e at next in
      let same : NID_MESSAGE ≡ x = cc in
      exact_each (Left s) (rest_regular s) x (rw (← same) number_admitted) (λ n small. begins_number s x 0 n next e (width_pos x) small)

  pub length_next : s.phase ≡ phase.Length → x ≡ L_MESSAGE
  length_next e =
      let next' : next_at s.way s.nid phase.Length s.left ≡ Some x = rw e at next in
      let same : x ≡ L_MESSAGE = cc in
      same

  pub length_exact : s.phase ≡ phase.Length → Exactly (Left s) x (MessageLength s.way s.nid)
  length_exact e = rw (e, length_next e) (lengths_exact s.way s.nid)

  pub front_exact : (at : ℕ) → s.phase ≡ phase.Front at → Goes (Left s) → Exactly (Left s) x Any
  front_exact at e goes = exact_admitted (Left s) (rest_regular s) x (λ n small. begins_front s x 0 n next at e (width_pos x) small goes)

  pub packets_next : s.phase ≡ phase.Packets → next_of s.left.stage ≡ Some x
  packets_next e = rw e at next

  pub packets_exact : s.phase ≡ phase.Packets → (here : Here) → Goes (Left s) → (Goes (left_of s.left.carrier s.left.room s.left.stage) → Exactly (left_of s.left.carrier s.left.room s.left.stage) x here) → Exactly (Left s) x here
  packets_exact e here goes exact =
      let all : Goes (left_at s.way s.nid phase.Packets s.left) = rw e at goes in
      let (r, (p, q, is, run, after)) = all in
      exact_as (left_of s.left.carrier s.left.room s.left.stage) (Left s) x here (λ n. begins_packets s x 0 n next e) (exact (p, run))

  pub padding_exact : (left : ℕ) → s.phase ≡ phase.Padding left → Exactly (Left s) x Any
  padding_exact left e =
      let next' : next_at s.way s.nid (phase.Padding left) s.left ≡ Some x = rw e at next in
      let same : PADDING ≡ x = cc in
      exact_each (Left s) (rest_regular s) x (rw (← same) padding_admitted) (λ n small. begins_padding s x 0 n next left e (width_pos x) small)

  pub data_exact : (left : ℕ) → s.phase ≡ phase.Data left → Exactly (Left s) x Any
  data_exact left e =
      let next' : next_at s.way s.nid (phase.Data left) s.left ≡ Some x = rw e at next in
      let same : OTHER_DATA ≡ x = cc in
      exact_each (Left s) (rest_regular s) x (rw (← same) data_admitted) (λ n small. begins_data s x 0 n next left e (width_pos x) small)
