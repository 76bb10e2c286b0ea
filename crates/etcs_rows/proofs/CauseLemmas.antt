-- What the tables have of the numbers that begin with some bits.
use Rattle.std.proofs.Common.{◌≡◌, ℕ, ◌+◌, ◌-◌, ◌^◌, ◌<◌, ◌≤◌, Option, Some, None, [], refl, subst, arith, inr}
use Rattle.std.specs.Prelude.{IsTrue}
use Rattle.etcs_vars.specs.declared.var.Var.{Var}
use Rattle.etcs_tables.specs.declared.row.Way.{Way}
use Rattle.etcs_tables.specs.Layouts.{Layout, Lengths}
use Rattle.etcs_tables.specs.Rows.{row_to}
use Rattle.etcs_tables.specs.Frames.{frame_bits, is_framed, is_kept}
use Rattle.etcs_reader.specs.Blocks.{NoneOf}
use Rattle.etcs_rows.specs.declared.frames.Carrier.{Carrier}
use Rattle.etcs_rows.specs.declared.frames.Carrier.TheVariants.{Message}
use Rattle.etcs_rows.specs.declared.here.Here.{Here}
use Rattle.etcs_rows.specs.Frames.{way_of, BodyLength, IsBlock}
use Rattle.etcs_rows.specs.Nearest.{IsFirst}
use Rattle.etcs_rows.specs.Causes.{HasNumber, HasLength, Among, OneOf, Claims, cause_by}
use Rattle.etcs_rows.proofs.FrameLemmas.{body_row, body_kept}

pub claims_by : (here : Here) (x : Var) (rest bits : ℕ) (one : Option ℕ) → OneOf (Among here x) rest bits one → Claims here x rest bits (cause_by one)
claims_by here x rest bits None h = h
claims_by here x rest bits (Some n) h = h

-- ---- Numbers of packets.

pub no_number : (way : Way) (rest bits low high : ℕ) → IsBlock (2 ^ rest) bits low high → ((n : ℕ) → low ≤ n → n ≤ high → IsTrue (is_framed way n) → ⊥) → NoneOf (HasNumber (Message way)) rest bits
no_number way rest bits low high block none n e h = let w = (block n).0 e in none n w.0 w.1 h

-- ---- Lengths of packets, whatever is left.

-- the first that a packet may have after its frame
pub row_first : (way : Way) (nid : ℕ) (row : Layout) (from : ℕ) (o : Option ℕ) → row_to way nid ≡ Some row → IsFirst (λ m. Lengths row [] m × (from ≤ m)) o → IsFirst (λ m. BodyLength way nid m × (m ≤ 8191) × (from ≤ m)) o
row_first way nid row from None e h = λ m (body, small, le). h m ((body_row way nid row m e).0 body, le)
row_first way nid row from (Some k) e ((l, le), all) = (((body_row way nid row k e).1 l, (let (r, rest, reads, f, long, small) = l in small), le), λ m (body, small, j). all m ((body_row way nid row m e).0 body, j))

pub kept_first : (way : Way) (nid from : ℕ) → from ≤ 8191 → IsTrue (is_kept way nid) → IsFirst (λ m. BodyLength way nid m × (m ≤ 8191) × (from ≤ m)) (Some from)
kept_first way nid from small kept = ((inr kept, small, omega arith), λ m (body, s, le). le)

pub none_first : (way : Way) (nid from : ℕ) → row_to way nid ≡ None → (IsTrue (is_kept way nid) → ⊥) → IsFirst (λ m. BodyLength way nid m × (m ≤ 8191) × (from ≤ m)) None
none_first way nid from e none = λ m (body, small, le). none ((body_kept way nid m e).0 body)

module _ (c : Carrier) (nid rest bits low high : ℕ) (block : IsBlock (2 ^ rest) bits low high) (short : high < 2 ^ 13) where
  pub length_found : (m : ℕ) → IsFirst (λ k. BodyLength (way_of c) nid k × (k ≤ 8191) × (low - frame_bits (way_of c) ≤ k)) (Some m) → m + frame_bits (way_of c) ≤ high → OneOf (HasLength c nid) rest bits (Some (m + frame_bits (way_of c)))
  length_found m ((body, s, from), all) le =
      let f = frame_bits (way_of c) in
      let back : m ≡ m + f - f = omega arith in
      ((block (m + f)).1 (omega (arith, from), le), (omega arith, omega (arith, le, short), subst (BodyLength (way_of c) nid) back body))

  -- none in reach
  pub no_length : (o : Option ℕ) → IsFirst (λ k. BodyLength (way_of c) nid k × (k ≤ 8191) × (low - frame_bits (way_of c) ≤ k)) o → ((m : ℕ) → o ≡ Some m → m + frame_bits (way_of c) ≤ high → ⊥) → NoneOf (HasLength c nid) rest bits
  no_length None first far l e (framed, small, body) =
      let w = (block l).0 e in
      first (l - frame_bits (way_of c)) (body, omega (arith, small), omega (arith, w.0))
  no_length (Some m) (k, all) far l e (framed, small, body) =
      let w = (block l).0 e in
      let le = all (l - frame_bits (way_of c)) (body, omega (arith, small), omega (arith, w.0)) in
      far m refl (omega (arith, le, framed, w.1))
