-- Items one after another.
use Rattle.std.specs.Prelude.{◌≡◌, Bool, List, [], ◌∷◌, ◌++◌}
use Rattle.etcs_vars.specs.Reading.{Reading, spelled}
use Rattle.etcs_text.specs.declared.entry.Kind.{Kind}
use Rattle.etcs_text.specs.Entries.{EntryValue, EntryReads}

-- the bits are the spellings of the items, one after another, and nothing more
abbrev pub AreSpelled : Kind → List EntryValue → List Bool → Type 0
AreSpelled kind [] bits = bits ≡ []
AreSpelled kind (e ∷ es) bits = (r : Reading) × (beyond : List Bool) × EntryReads kind e r × (bits ≡ spelled r ++ beyond) × AreSpelled kind es beyond
