-- Lemmas about specs/Entries.antt.
use Rattle.std.proofs.Common.{ℕ, ◌+◌, ◌*◌, ◌≤◌, ◌<◌, List, [], ◌∷◌, length, Option, arith}
use Rattle.std.specs.Prelude.{All, flat_map, IsTrue, nat_le}
use Rattle.std.proofs.lemmas.Bool.{leb-true}
use Rattle.std.proofs.lemmas.List.Elements.{All-head, All-tail}
use Rattle.etcs_vars.specs.declared.var.Var.TheVariants.{N_ITER}
use Rattle.etcs_vars.specs.Reading.{Reading, spelled}
use Rattle.etcs_tables.specs.Layouts.{Layout}
use Rattle.etcs_bodies.specs.Taking.{Left}
use Rattle.etcs_bodies.specs.Repeats.{bit_count}
use Rattle.etcs_bodies.specs.laws.Repeats.{bit_count_is, bit_count-append}
use Rattle.etcs_bodies.specs.Codecs.{Codes, IsEntries, list_reading}
use Rattle.etcs_bodies.specs.laws.Codecs.{both, list}
use Rattle.etcs_bodies.specs.laws.Choices.{few_counted}
use Rattle.etcs_bodies.specs.Entries.{AreEntries, entries_reading, entries_from, entries_row}

module _ {V : Type 0} {row : Layout → Layout} {IsV : V → Type 0} {reading : V → Reading} {from : Left → Option (V × Left)} (codes : Codes row IsV reading from) where
  pub entries_codes : Codes (entries_row row) (AreEntries IsV) (entries_reading reading) (entries_from from)
  entries_codes = both codes (list N_ITER codes)

-- ---- Their bits.

module _ {V : Type 0} (IsV : V → Type 0) (reading : V → Reading) (most : ℕ) (each : (v : V) → IsV v → bit_count (reading v) ≤ most) where
  pub all_most : (vs : List V) → All IsV vs → bit_count (flat_map reading vs) ≤ length vs * most
  all_most [] h = omega arith
  all_most (v ∷ vs) h =
      let both = bit_count-append (reading v) (flat_map reading vs) in
      let one = each v (All-head IsV v vs h) in
      let more = all_most vs (All-tail IsV v vs h) in
      omega arith

  few_most : (many : ℕ) → many ≤ 31 → many * most ≤ 31 * most
  few_most many h = grind arith

  pub list_most : (l : List V) → IsEntries N_ITER IsV l → bit_count (list_reading N_ITER reading l) ≤ 5 + 31 * most
  list_most l h = omega (arith, few_most (length l) (few_counted (length l) h.0), all_most l h.1)

  pub list_small : IsTrue (nat_le most 2047) → (l : List V) → IsEntries N_ITER IsV l → length (spelled (list_reading N_ITER reading l)) < 65536
  list_small short l h =
      let few = leb-true most 2047 short in
      rw (bit_count_is (list_reading N_ITER reading l)) (omega (arith, list_most l h))

  pub entries_most : (e : V × List V) → AreEntries IsV e → bit_count (entries_reading reading e) ≤ 5 + 32 * most
  entries_most e h =
      let few = few_most (length e.1) (few_counted (length e.1) h.1.0) in
      let all = all_most e.1 h.1.1 in
      let first = each e.0 h.0 in
      let both = bit_count-append (reading e.0) (list_reading N_ITER reading e.1) in
      omega arith

  pub entries_small : IsTrue (nat_le most 2047) → (e : V × List V) → AreEntries IsV e → length (spelled (entries_reading reading e)) < 65536
  entries_small short e h =
      let few = leb-true most 2047 short in
      rw (bit_count_is (entries_reading reading e)) (omega (arith, entries_most e h))
