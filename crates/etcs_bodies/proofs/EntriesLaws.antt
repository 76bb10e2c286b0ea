-- Lemmas about specs/Entries.antt.
use Rattle.std.proofs.Common.{◌≡◌, ℕ, ◌+◌, List, length, ◌∙◌, arith}
use Rattle.std.specs.Prelude.{flat_map}
use Rattle.etcs_vars.specs.declared.var.Var.TheVariants.{N_ITER}
use Rattle.etcs_vars.specs.Reading.{Reading, spelled}
use Rattle.etcs_bodies.specs.laws.Repeats.{bit_count_is, bit_count-append}
use Rattle.etcs_bodies.specs.Codecs.{list_reading}
use Rattle.etcs_bodies.specs.Entries.{entries_reading}

-- ---- Their bits.

pub counted_length : {V : Type 0} (reading : V → Reading) (l : List V) (b : ℕ) → b ≡ length (spelled (flat_map reading l)) → 5 + b ≡ length (spelled (list_reading N_ITER reading l))
counted_length reading l b h =
    let e = h ∙ bit_count_is (flat_map reading l) in
    rw (bit_count_is (list_reading N_ITER reading l)) (omega arith)

pub entries_length : {V : Type 0} (reading : V → Reading) (e : V × List V) (a b : ℕ) → a ≡ length (spelled (reading e.0)) → b ≡ length (spelled (flat_map reading e.1)) → 5 + a + b ≡ length (spelled (entries_reading reading e))
entries_length reading e a b ha hb =
    let both = bit_count-append (reading e.0) (list_reading N_ITER reading e.1) in
    let ea = ha ∙ bit_count_is (reading e.0) in
    let eb = hb ∙ bit_count_is (flat_map reading e.1) in
    rw (bit_count_is (entries_reading reading e)) (omega arith)
