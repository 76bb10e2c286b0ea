-- Entries: a first one, and after the count N_ITER further ones (SUBSET-026, 7.4).
use Rattle.std.proofs.Common.{List, ◌++◌, Option}
use Rattle.etcs_vars.specs.declared.var.Var.TheVariants.{N_ITER}
use Rattle.etcs_vars.specs.Reading.{Reading}
use Rattle.etcs_tables.specs.Layouts.{Layout, whole, one, counted}
use Rattle.etcs_bodies.specs.Taking.{Left}
use Rattle.etcs_bodies.specs.Codecs.{both_from, list_reading, list_from, IsEntries}

-- a first entry and further ones, as many as N_ITER admits, are values
abbrev pub AreEntries : {V : Type 0} → (V → Type 0) → V × List V → Type 0
AreEntries IsV e = IsV e.0 × IsEntries N_ITER IsV e.1

-- the variables of a first entry, of the count N_ITER and of the further entries, in the order of sending
abbrev pub entries_reading : {V : Type 0} → (V → Reading) → V × List V → Reading
entries_reading reading e = reading e.0 ++ list_reading N_ITER reading e.1

-- a first entry and further ones with which what is left begins, and what is left after them
abbrev pub entries_from : {V : Type 0} → (Left → Option (V × Left)) → Left → Option ((V × List V) × Left)
entries_from from = both_from from (list_from N_ITER from)

-- the row of a first entry and further ones, before a rest
abbrev pub entries_row : (Layout → Layout) → Layout → Layout
entries_row row rest = row (one N_ITER (counted (row whole) rest))
