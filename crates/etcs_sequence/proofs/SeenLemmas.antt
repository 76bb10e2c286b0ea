-- Packets that are seen without values.
use Rattle.std.proofs.Common.{◌≡◌, ℕ, ◌+◌, ◌-◌, ◌≤◌, Bool, List, ◌++◌, length, take, drop, sym, ap, ◌∙◌, arith}
use Rattle.std.specs.Prelude.{IsTrue}
use Rattle.std.proofs.lemmas.List.{length-append, length-drop, take_at}
use Rattle.etcs_bits.specs.Bits.{part}
use Rattle.etcs_vars.specs.Reading.{Reading, spelled}
use Rattle.etcs_tables.specs.declared.row.Way.{Way}
use Rattle.etcs_tables.specs.Frames.{is_direction}
use Rattle.etcs_tables.specs.Layouts.{ROW_LIMIT}
use Rattle.etcs_tables.specs.Typed.{IsFramed}
use Rattle.etcs_bodies.specs.Taking.{Left, in_bits, ahead}
use Rattle.etcs_bodies.specs.Passing.{PassedRow}

-- variables that were passed, and left as many bits as come after these, are what they spell
passed_bits : (xs rest : List Bool) (at len : ℕ) (r : Reading) → at + len ≤ length xs → length rest ≡ length xs - (at + len) → in_bits (drop at xs) ≡ ahead r (in_bits rest) → (spelled r ≡ part at len xs) × (length (spelled r) ≡ len)
passed_bits xs rest at len r inside left h =
    let e : drop at xs ≡ spelled r ++ rest = (let same : in_bits (drop at xs) ≡ in_bits (spelled r ++ rest) = h in cc) in
    let long : length (spelled r) ≡ len = omega (arith, inside, left, length-drop at xs, ap length e, length-append (spelled r) rest) in
    (sym (take_at (spelled r) rest len long) ∙ ap (take len) (sym e), long)

-- so a row that was passed is that of a packet with these bits
pub passed_framed : {S : Type 0} (way : Way) (nid dir : ℕ) (with : S → Reading → S) (xs rest : List Bool) (at len : ℕ) (out out' : S) → at + len ≤ length xs → length rest ≡ length xs - (at + len) → len ≤ ROW_LIMIT → IsTrue (is_direction way dir) → PassedRow way nid with (in_bits (drop at xs)) (in_bits rest) out out' → (r : Reading) × IsFramed way nid dir r × (spelled r ≡ part at len xs) × (out' ≡ with out r)
passed_framed way nid dir with xs rest at len out out' inside left short directed (r, framed, went) =
    let (is, long) = passed_bits xs rest at len r inside left went.taken in
    (r, framed dir directed (omega (arith, long, short)), is, went.sent)
