-- What holds of what comes next in a message.
use Rattle.std.proofs.Common.{◌≡◌, ℕ, ◌<◌, ◌≤◌, Bool, true, false, List, length, drop, Option, Some, None, refl, ap, subst, arith, ltb}
use Rattle.std.specs.Prelude.{IsTrue, not, ◌&&◌, ◌||◌, ◌==◌, nat_lt}
use Rattle.std.proofs.lemmas.Bool.{and_parts, and_from, ltb-true, lt-ltb, eqb-true, eq-eqb, not-true}
use Rattle.etcs_vars.specs.declared.var.Var.{Var}
use Rattle.etcs_vars.specs.Reading.{Reading}
use Rattle.etcs_vars.proofs.Languages.{Same}
use Rattle.etcs_tables.specs.declared.row.Way.{Way}
use Rattle.etcs_rows.specs.declared.frames.Carrier.{Carrier}
use Rattle.etcs_rows.specs.declared.frames.Carrier.TheVariants.{Message}
use Rattle.etcs_sequence.specs.Contents.{PacketsIn}
use Rattle.etcs_reader.specs.Fields.{first_of}
use Rattle.etcs_sequence.specs.declared.state.PacketsState.{PacketsState}
use Rattle.etcs_sequence.specs.declared.stage.Stage.TheVariants as stage
use Rattle.etcs_sequence.specs.Lefts.{left_of, ahead, is_stage, is_closed, Moved}
use Rattle.etcs_sequence.proofs.StageLaws.{closed_stage, closed_room, begun_room}
use Rattle.etcs_messages.specs.declared.phase.Phase.{Phase}
use Rattle.etcs_messages.specs.declared.phase.Phase.TheVariants as phase
use Rattle.etcs_messages.specs.Lefts.{front_row, front_vars, some_row, MessageState, next_var, is_message, stands_at, after_packets, beyond_front, after_padding}
use Rattle.etcs_messages.specs.Kinds.{is_carrier}
use Rattle.etcs_messages.proofs.Ways.{carrier_is, carrier_to}
use Rattle.etcs_messages.proofs.RestSteps.{by_test}

-- ---- Packets of a message.

then_true : (a b : Bool) → IsTrue (not a || b) → a ≡ true → IsTrue b
then_true true b h e = h
then_true false b h e = absurd cc

from_then : (a b : Bool) → (a ≡ true → IsTrue b) → IsTrue (not a || b)
from_then true b h = h refl
from_then false b h = refl

pub message_inner : (way : Way) (l : PacketsState) → IsTrue (is_message way l) → (l.carrier ≡ (Message way)) × (is_closed l.stage ≡ true → l.room < 8)
message_inner way l h =
    let both = and_parts (is_carrier way l.carrier) (not (is_closed l.stage) || nat_lt l.room 8) h in
    (carrier_is way l.carrier both.0, λ e. ltb-true l.room 8 (then_true (is_closed l.stage) (nat_lt l.room 8) both.1 e))

pub message_from : (way : Way) (l : PacketsState) → l.carrier ≡ (Message way) → (l.stage ≡ stage.Closed → l.room ≤ 7) → IsTrue (is_message way l)
message_from way l same room =
    let first : is_carrier way l.carrier ≡ true = rw same (carrier_to way) in
    and_from (is_carrier way l.carrier) (not (is_closed l.stage) || nat_lt l.room 8) first
    (from_then (is_closed l.stage) (nat_lt l.room 8) (λ e. let r = room (closed_stage l.stage e) in lt-ltb l.room 8 (omega (arith, r))))

pub begun_message : (way : Way) (l : PacketsState) (room : ℕ) → l.carrier ≡ (Message way) → ahead l.carrier l.room l.stage ≡ room → Same (left_of l.carrier l.room l.stage) (PacketsIn (Message way) room) → IsTrue (is_message way l)
begun_message way l room same a left = message_from way l same (begun_room way room l.carrier l.room l.stage a left)

moved_message : (way : Way) (l l' : PacketsState) (p : Reading) → l.carrier ≡ (Message way) → is_closed l.stage ≡ false → Moved l.carrier l.room l.stage p l'.carrier l'.room l'.stage → IsTrue (is_message way l')
moved_message way l l' p same open_now m =
    let m' : Moved (Message way) l.room l.stage p l'.carrier l'.room l'.stage = subst (λ (c : Carrier). Moved c l.room l.stage p l'.carrier l'.room l'.stage) same m in
    let stands : IsTrue (is_stage (Message way) l.room l.stage) = subst (λ (c : Carrier). IsTrue (is_stage c l.room l.stage)) same l.stands in
    message_from way l' m'.same (closed_room way l.room l.stage p l'.carrier l'.room l'.stage stands open_now m')

-- ---- What `stands` means.

module _ {S : Type 0} (s : MessageState S) where
  stands_with : (here : Phase) → s.phase ≡ here → IsTrue (stands_at s.way s.nid here (length s.front) s.left)
  stands_with here e = subst (λ (x : Phase). IsTrue (stands_at s.way s.nid x (length s.front) s.left)) e s.stands

  pub begin_parts : s.phase ≡ phase.Length → (length s.front ≡ 0) × (is_closed s.left.stage ≡ true)
  begin_parts e =
      let both = and_parts (length s.front == 0) (is_closed s.left.stage) (stands_with phase.Length e) in
      (eqb-true (length s.front) 0 both.0, both.1)

  pub front_parts : (at : ℕ) → s.phase ≡ phase.Front at → (at < length (front_vars s.way s.nid)) × (length s.front ≡ at) × IsTrue (is_message s.way s.left)
  front_parts at e =
      let all = and_parts (nat_lt at (length (front_vars s.way s.nid))) ((length s.front == at) && is_message s.way s.left) (stands_with (phase.Front at) e) in
      let both = and_parts (length s.front == at) (is_message s.way s.left) all.1 in
      (ltb-true at (length (front_vars s.way s.nid)) all.0, eqb-true (length s.front) at both.0, both.1)

  -- the variable that comes next, by what is known of those of a typed message
  pub front_next : (at : ℕ) (x : Option Var) → s.phase ≡ phase.Front at → ((vars : List Var) → front_row s.way s.nid ≡ Some vars → x ≡ first_of (drop at vars)) → x ≡ next_var s
  front_next at x e next = rw e (of (front_row s.way s.nid) refl (front_parts at e).0)
    where
      of : (o : Option (List Var)) → front_row s.way s.nid ≡ o → at < length (some_row o) → x ≡ first_of (drop at (some_row o))
      of None is far = absurd (omega arith)
      of (Some vars) is far = next vars is

  pub packets_parts : s.phase ≡ phase.Packets → (s.left.carrier ≡ Message s.way) × (is_closed s.left.stage ≡ false)
  packets_parts e =
      let both = and_parts (is_message s.way s.left) (not (is_closed s.left.stage)) (stands_with phase.Packets e) in
      ((message_inner s.way s.left both.0).0, not-true (is_closed s.left.stage) both.1)

  pub padding_parts : (left : ℕ) → s.phase ≡ phase.Padding left → (0 < left) × (left < 8)
  padding_parts left e =
      let both = and_parts (nat_lt 0 left) (nat_lt left 8) (stands_with (phase.Padding left) e) in
      (ltb-true 0 left both.0, ltb-true left 8 both.1)

  pub data_parts : (left : ℕ) → s.phase ≡ phase.Data left → (0 < left) × (is_closed s.left.stage ≡ true)
  data_parts left e =
      let both = and_parts (nat_lt 0 left) (is_closed s.left.stage) (stands_with (phase.Data left) e) in
      (ltb-true 0 left both.0, both.1)

  pub packets_message : (l : PacketsState) (p : Reading) → s.phase ≡ phase.Packets → Moved s.left.carrier s.left.room s.left.stage p l.carrier l.room l.stage → IsTrue (is_message s.way l)
  packets_message l p e moved = let parts = packets_parts e in moved_message s.way s.left l p parts.0 parts.1 moved

-- ---- What follows a variable.

pub padding_stands : (way : Way) (nid left m : ℕ) (l : PacketsState) → left < 8 → IsTrue (stands_at way nid (after_padding left) m l)
padding_stands way nid left m l short =
    by_test (ltb 0 left) (λ x. IsTrue (stands_at way nid x m l)) (phase.Padding left) phase.Whole
    (λ t. and_from (nat_lt 0 left) (nat_lt left 8) t (lt-ltb left 8 short))
    (λ _. refl)

packets_stand : (way : Way) (nid m : ℕ) (l : PacketsState) → IsTrue (is_message way l) → IsTrue (stands_at way nid (after_packets l) m l)
packets_stand way nid m l h =
    by_test (is_closed l.stage) (λ x. IsTrue (stands_at way nid x m l)) (after_padding l.room) phase.Packets
    (λ t. padding_stands way nid l.room m l ((message_inner way l h).1 t))
    (λ f. and_from (is_message way l) (not (is_closed l.stage)) h (ap not f))

pub front_stands : (way : Way) (nid at m : ℕ) (l : PacketsState) → m ≡ at → IsTrue (is_message way l) → IsTrue (stands_at way nid (beyond_front (length (front_vars way nid)) at l) m l)
front_stands way nid at m l same h =
    by_test (ltb at (length (front_vars way nid))) (λ x. IsTrue (stands_at way nid x m l)) (phase.Front at) (after_packets l)
    (λ t. and_from (nat_lt at (length (front_vars way nid))) ((m == at) && is_message way l) t (and_from (m == at) (is_message way l) (eq-eqb m at same) h))
    (λ _. packets_stand way nid m l h)

pub packets_stands : {S : Type 0} (s : MessageState S) (here : Phase) (l : PacketsState) (p : Reading) → s.phase ≡ phase.Packets → here ≡ after_packets l → Moved s.left.carrier s.left.room s.left.stage p l.carrier l.room l.stage → IsTrue (stands_at s.way s.nid here (length s.front) l)
packets_stands s here l p e e' moved = rw e' (packets_stand s.way s.nid (length s.front) l (packets_message s l p e moved))

-- ---- What is left has room.

pub begun_stands : (way : Way) (nid m : ℕ) (vs : List Var) (l : PacketsState) → front_vars way nid ≡ vs → 0 < length vs → m ≡ 0 → IsTrue (is_message way l) → IsTrue (stands_at way nid (phase.Front 0) m l)
begun_stands way nid m vs l e pos none h =
    let some : nat_lt 0 (length (front_vars way nid)) ≡ true = rw e (lt-ltb 0 (length vs) pos) in
    and_from (nat_lt 0 (length (front_vars way nid))) ((m == 0) && is_message way l) some (and_from (m == 0) (is_message way l) (eq-eqb m 0 none) h)
