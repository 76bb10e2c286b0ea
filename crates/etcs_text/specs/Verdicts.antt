-- What bytes are: an item of a kind and nothing else, or not.
use Rattle.std.specs.Prelude.{◌≡◌, ℕ, ◌*◌, ◌<◌, List, length}
use Rattle.etcs_bits.specs.Bits.{bits}
use Rattle.etcs_vars.specs.Reading.{Reading, spelled, IsOutcome, done, refused, more}
use Rattle.etcs_text.specs.declared.entry.Kind.{Kind}
use Rattle.etcs_text.specs.Entries.{EntryValue, EntryReads, entry_value}
use Rattle.etcs_text.specs.declared.verdict.Verdict.{Verdict}
use Rattle.etcs_text.specs.declared.verdict.Verdict.TheVariants.{Item, Refused, TooShort, TooLong}

-- the bits of the bytes are the spelling of an item of the kind
abbrev pub IsItem : Kind → List ℕ → EntryValue → Type 0
IsItem kind bytes e = (r : Reading) × EntryReads kind e r × (spelled r ≡ bits bytes)

-- the bytes begin with an item of the kind that has fewer bytes
abbrev pub IsBegun : Kind → List ℕ → Type 0
IsBegun kind bytes = (e : EntryValue) × (k : ℕ) × (k < length bytes) × IsOutcome (EntryReads kind) (bits bytes) (done e (8 * k))

-- the bytes are this item; or they are no item, and this bit is the first that is refused, or an item continues with
-- all of them, or they begin with an item that has fewer bytes
abbrev pub IsVerdict : Kind → List ℕ → Verdict → Type 0
IsVerdict kind bytes (Item e) = IsItem kind bytes (entry_value e)
IsVerdict kind bytes (Refused i x) = ((e : EntryValue) → IsItem kind bytes e → ⊥) × IsOutcome (EntryReads kind) (bits bytes) (refused i x)
IsVerdict kind bytes TooShort = ((e : EntryValue) → IsItem kind bytes e → ⊥) × IsOutcome (EntryReads kind) (bits bytes) more
IsVerdict kind bytes TooLong = ((e : EntryValue) → IsItem kind bytes e → ⊥) × IsBegun kind bytes
