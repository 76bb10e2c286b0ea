-- The numbers of the next variable with which packets go on.
use Rattle.std.proofs.Common.{ℕ, zero, suc, ◌<◌, ◌≤◌, ◌∷◌, refl, subst, arith}
use Rattle.std.specs.Prelude.{IsTrue}
use Rattle.etcs_vars.specs.declared.var.Var.TheVariants.{NID_PACKET, NID_VBCMK, Q_DIR, L_PACKET, OTHER_DATA}
use Rattle.etcs_vars.specs.Vars.{admits}
use Rattle.etcs_vars.specs.Reading.{Then}
use Rattle.etcs_tables.specs.declared.row.Way.{Way}
use Rattle.etcs_tables.specs.declared.row.Way.TheVariants.{ToTrain, ToTrack}
use Rattle.etcs_tables.specs.Frames.{sends}
use Rattle.etcs_reader.specs.Rests.{Goes}
use Rattle.etcs_rows.specs.declared.frames.Carrier.{Carrier}
use Rattle.etcs_rows.specs.declared.here.Here.TheVariants.{Any, PacketNumber, PacketLength}
use Rattle.etcs_rows.specs.Frames.{NumberFits, LengthFits, way_of}
use Rattle.etcs_rows.specs.Causes.{Exactly}
use Rattle.etcs_rows.specs.laws.RestLaws.{head_of}
use Rattle.etcs_rows.proofs.ExactLemmas.{exact_each}
use Rattle.etcs_sequence.specs.Contents.{PacketsIn, KeptIn, DirectionLeft, LengthLeft, MarkerLeft, IsOpen}
use Rattle.etcs_sequence.specs.declared.stage.Stage.TheVariants as stage
use Rattle.etcs_sequence.specs.laws.RunSteps.{number_step}
use Rattle.etcs_sequence.specs.laws.LeftLaws.{left_regular}
use Rattle.etcs_sequence.proofs.KeptLaws.{kept_starts}
use Rattle.etcs_sequence.proofs.Fits.{length_some, some_length, number_some, some_number}

-- NID_PACKET
pub number_exact : (c : Carrier) (room : ℕ) → IsOpen c room → room ≤ 8191 → Exactly (PacketsIn c room) NID_PACKET (PacketNumber c room)
number_exact c room more small =
    record {
      passes = λ n (r, run).
          (let (m, q, e, le, after) = (number_step c room more).opens ((NID_PACKET, n) ∷ r) run in
          let h = head_of NID_PACKET n m r q e in
          subst (NumberFits c room) h.0 (some_number c room m q after));
      continues = λ n f. (let (r, after) = number_some c room n small f in (r, (number_step c room more).closes n r after));
    }

-- L_PACKET
pub length_exact : (c : Carrier) (nid room : ℕ) → room ≤ 8191 → Exactly (LengthLeft c nid room) L_PACKET (PacketLength c nid room)
length_exact c nid room small =
    record {
      passes = λ l (r, (m, q, e, after)).
          (let h = head_of L_PACKET l m r q e in
          subst (LengthFits c nid room) h.0 (some_length c nid room m q after));
      continues = λ l f. (let (r, after) = length_some c nid room l small f in (r, (l, r, refl, after)));
    }

-- ---- Those with any number that the variable admits.

pub marker_exact : (room : ℕ) → Goes (MarkerLeft room) → Exactly (MarkerLeft room) NID_VBCMK Any
marker_exact room (r0, (n0, q0, e0, (a0, le, run))) =
    record {
      passes = λ n (r, (m, q, e, after)). (let h = head_of NID_VBCMK n m r q e in subst (λ (j : ℕ). IsTrue (admits NID_VBCMK j)) h.0 after.0);
      continues = λ n a. (q0, (n, q0, refl, (a, le, run)));
    }

sent_is : (way : Way) (n : ℕ) → IsTrue (sends way n) → IsTrue (admits Q_DIR n)
sent_is ToTrain n h = h
sent_is ToTrack n h = absurd cc

sent_as : (way : Way) (m n : ℕ) → IsTrue (sends way m) → IsTrue (admits Q_DIR n) → IsTrue (sends way n)
sent_as ToTrain m n h a = a
sent_as ToTrack m n h a = absurd cc

pub direction_exact : (c : Carrier) (nid room : ℕ) → Goes (DirectionLeft c nid room) → Exactly (DirectionLeft c nid room) Q_DIR Any
direction_exact c nid room (r0, (n0, q0, e0, (a0, l0))) =
    record {
      passes = λ n (r, (m, q, e, (a, l))). (let h = head_of Q_DIR n m r q e in subst (λ (j : ℕ). IsTrue (admits Q_DIR j)) h.0 (sent_is (way_of c) m a));
      continues = λ n a. (q0, (n, q0, refl, (sent_as (way_of c) n0 n a0 a, l0)));
    }

-- each bit is admitted
pub data_admitted : (n : ℕ) → n < 2 → IsTrue (admits OTHER_DATA n)
data_admitted zero lt = refl
data_admitted (suc zero) lt = refl
data_admitted (suc (suc n)) lt = absurd (omega (arith, lt))

pub kept_exact : (c : Carrier) (room nid dir left : ℕ) → 0 < left → Goes (PacketsIn c room) → Exactly (Then (KeptIn left) (PacketsIn c room)) OTHER_DATA Any
kept_exact c room nid dir left some beyond =
    exact_each (Then (KeptIn left) (PacketsIn c room)) (left_regular c room (stage.Kept nid dir left)) OTHER_DATA data_admitted
    (λ n small. kept_starts left (PacketsIn c room) OTHER_DATA 0 n refl some beyond (omega arith) small)
