-- What the reader of a run expects next.
use Rattle.std.specs.Prelude.{◌≡◌, ℕ, ◌<◌, Bool, List, length}
use Rattle.etcs_vars.specs.Reading.{NoneYet, Viable, readings_of}
use Rattle.etcs_text.specs.declared.entry.Kind.{Kind}
use Rattle.etcs_text.specs.Entries.{EntryReads}
use Rattle.etcs_text.specs.Readers.{ReaderValue, reading, seen_bits}

-- the reader expects more bits of an item of this kind: some item begins with the bits so far, and no front of them is one
pub record Awaits (kind : Kind) (r : ReaderValue) : Type 0 where
  pub kind_is : r.kind ≡ kind
  pub progress_is : r.progress ≡ reading (seen_bits r.progress)
  pub unfinished : NoneYet (readings_of (EntryReads kind)) (seen_bits r.progress)
  pub viable : Viable (readings_of (EntryReads kind)) (seen_bits r.progress)

-- an item was begun only if a run may have one more
abbrev pub HasRoom : ℕ → List Bool → Type 0
HasRoom output seen = 0 < length seen → output < 1000000
