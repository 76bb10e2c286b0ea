-- The tests of first bits tell which numbers continue.
use Rattle.std.proofs.Common.{◌≡◌, ℕ, ◌-◌, ◌/◌, ◌^◌, ◌<◌, ◌≤◌, Bool, sym, ap, ◌∙◌, arith}
use Rattle.std.specs.Prelude.{IsTrue, ◌↔◌}
use Rattle.etcs_vars.specs.declared.var.Var.{Var}
use Rattle.etcs_vars.specs.declared.var.Var.TheVariants.{NID_VBCMK, Q_DIR}
use Rattle.etcs_vars.specs.Vars.{width, ranges, begins}
use Rattle.etcs_vars.specs.Reading.{Reading}
use Rattle.etcs_vars.proofs.Stepping.{Tested, admitted_tested}
use Rattle.etcs_tables.specs.declared.row.Way.{Way}
use Rattle.etcs_tables.specs.declared.row.Way.TheVariants.{ToTrain, ToTrack}
use Rattle.etcs_rows.specs.declared.frames.Carrier.{Carrier}
use Rattle.etcs_tables.specs.Frames.{sends}
use Rattle.etcs_rows.specs.Frames.{way_of, NumberFits, LengthFits}
use Rattle.etcs_sequence.specs.Contents.{LengthLeft, AfterNumber, AfterMarker, AfterDirection, AfterLength}
use Rattle.etcs_sequence.proofs.Fits.{number_some, some_number, length_some, some_length}
use Rattle.etcs_sequence.specs.laws.OpenLaws.{GoesOn}

pub starts_number : (c : Carrier) (room rest bits : ℕ) (result : Bool) → room ≤ 8191 → IsTrue result ↔ ((n : ℕ) × (n / 2 ^ rest ≡ bits) × NumberFits c room n) → IsTrue result ↔ GoesOn (AfterNumber c room) rest bits
starts_number c room rest bits result small iff = (
  λ yes. (let (n, e, fits) = iff.0 yes in let r = number_some c room n small fits in (n, r.0, e, r.1)),
  λ (n, r, e, a). iff.1 (n, e, some_number c room n r a),
)

pub starts_length : (c : Carrier) (nid room rest bits : ℕ) (result : Bool) → room ≤ 8191 → IsTrue result ↔ ((l : ℕ) × (l / 2 ^ rest ≡ bits) × LengthFits c nid room l) → IsTrue result ↔ GoesOn (AfterLength c nid room) rest bits
starts_length c nid room rest bits result small iff = (
  λ yes. (let (l, e, fits) = iff.0 yes in let r = length_some c nid room l small fits in (l, r.0, e, r.1)),
  λ (l, r, e, a). iff.1 (l, e, some_length c nid room l r a),
)

some_goes : (After : ℕ → Reading → Type 0) (k rest bits : ℕ) → k ≡ rest → (n : ℕ) × (r : Reading) × (n / 2 ^ k ≡ bits) × After n r → GoesOn After rest bits
some_goes After k rest bits same (n, r, e, a) = (n, r, ap (λ (j : ℕ). n / 2 ^ j) (sym same) ∙ e, a)

-- a variable with no condition after it
starts_admitted : (x : Var) (After : ℕ → Reading → Type 0) (rest bits : ℕ) → rest ≤ width x → bits < 2 ^ (width x - rest) → Tested x After (begins (ranges x)) → IsTrue (begins (ranges x) rest bits) ↔ GoesOn After rest bits
starts_admitted x After rest bits le fits t =
    let whole : width x - (width x - rest) ≡ rest = omega arith in (
      λ yes. some_goes After (width x - (width x - rest)) rest bits whole (t.some (width x - rest) bits (omega arith) fits (rw whole yes)),
      λ (n, r, e, a). rw e at (t.each rest n r a),
    )

pub starts_marker : (c : Carrier) (room rest bits : ℕ) (result : Bool) → rest ≤ 6 → bits < 2 ^ (6 - rest) → ((n : ℕ) × (r : Reading) × AfterMarker room n r) → result ≡ begins (ranges NID_VBCMK) rest bits → IsTrue result ↔ GoesOn (AfterMarker room) rest bits
starts_marker c room rest bits result le fits (n0, r0, (a0, l0, run)) e =
    rw e (starts_admitted NID_VBCMK (AfterMarker room) rest bits le fits (admitted_tested NID_VBCMK (AfterMarker room) (λ n a. (r0, (a, l0, run))) (λ n r h. h.0)))

-- Q_DIR admits each direction that is sent
sent_tested : (way : Way) (L : Reading → Type 0) (r : Reading) → L r → (n : ℕ) → IsTrue (sends way n) → Tested Q_DIR (λ m q. IsTrue (sends way m) × L q) (begins (ranges Q_DIR))
sent_tested ToTrack L r l n h = absurd cc
sent_tested ToTrain L r l n h = admitted_tested Q_DIR (λ m q. IsTrue (sends ToTrain m) × L q) (λ m a. (r, (a, l))) (λ m q k. k.0)

pub starts_direction : (c : Carrier) (nid room rest bits : ℕ) (result : Bool) → rest ≤ 2 → bits < 2 ^ (2 - rest) → ((n : ℕ) × (r : Reading) × AfterDirection c nid room n r) → result ≡ begins (ranges Q_DIR) rest bits → IsTrue result ↔ GoesOn (AfterDirection c nid room) rest bits
starts_direction c nid room rest bits result le fits (n0, r0, (a0, l0)) e =
    rw e (starts_admitted Q_DIR (AfterDirection c nid room) rest bits le fits (sent_tested (way_of c) (LengthLeft c nid room) r0 l0 n0 a0))
