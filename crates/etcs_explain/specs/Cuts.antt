-- Where lines of hexadecimal are cut into parts.
use Rattle.std.specs.Prelude.{◌≡◌, ℕ, ◌+◌, ◌-◌, ◌<◌, ◌≤◌, ◌⊎◌, ◌==◌, min, max, Bool, false, List, [], ◌∷◌, ◌++◌, length, take, drop, slice_index, Option, Some, None, is_none, IsTrue, if◌then◌else◌}
use Rattle.etcs_bits.specs.Bits.{bits}
use Rattle.etcs_vars.specs.declared.var.Var.{Var}
use Rattle.etcs_vars.specs.Reading.{Viable, InLanguage, readings_of}
use Rattle.etcs_vars.specs.Walking.{Refuses}
use Rattle.etcs_tables.specs.Rows.{message_row_to}
use Rattle.etcs_tables.specs.declared.row.Way.TheVariants.{ToTrain, ToTrack}
use Rattle.etcs_text.specs.declared.entry.Kind.{Kind}
use Rattle.etcs_text.specs.declared.entry.Kind.TheVariants.{Long, Short, Radio, Train}
use Rattle.etcs_text.specs.Entries.{EntryValue, EntryReads}
use Rattle.etcs_text.specs.Verdicts.{IsItem}
use Rattle.etcs_reasons.specs.Kinds.{wanted_bytes}
use Rattle.etcs_explain.specs.Kinds.{kind_of}
use Rattle.etcs_explain.specs.Inputs.{Token, of_byte, of_line, placed}

-- ---- What bytes are.

-- no item continues with some bit of the bytes, of at most 1,023 of them
abbrev pub AreRefused : Kind → List ℕ → Type 0
AreRefused kind bytes = (i : ℕ) × (x : Var) × Refuses (readings_of (EntryReads kind)) (take 8184 (bits bytes)) i x

-- an item continues with all of them, and they aren't one
abbrev pub AreOpen : Kind → List ℕ → Type 0
AreOpen kind bytes = Viable (readings_of (EntryReads kind)) (take 8184 (bits bytes)) × (InLanguage (readings_of (EntryReads kind)) (take 8184 (bits bytes)) → ⊥)

-- the first n of them are an item
abbrev pub IsFront : Kind → List ℕ → ℕ → Type 0
IsFront kind bytes n = (n ≤ length bytes) × (e : EntryValue) × IsItem kind (take n bytes) e

-- the number, from 3 to 1,023; without one 3
abbrev pub at_least_3 : Option ℕ → ℕ
at_least_3 None = 3
at_least_3 (Some n) = max 3 (min n 1023)

-- how many bytes the item has that they begin: 104 or 27, or L_MESSAGE, as far as that is there
abbrev pub awaited : Kind → List ℕ → ℕ
awaited kind bytes = at_least_3 (wanted_bytes kind (bits bytes))

-- they begin a message that is kept as bits
abbrev pub is_kept : Kind → List ℕ → Bool
is_kept Radio (nid ∷ bytes) = is_none (message_row_to ToTrain nid)
is_kept Train (nid ∷ bytes) = is_none (message_row_to ToTrack nid)
is_kept Radio [] = false
is_kept Train [] = false
is_kept Long bytes = false
is_kept Short bytes = false

-- ---- A line that begins another item.

-- a line by itself begins an item: it begins with a whole one, or, if it is longer than the rest of the item before, it is
-- the front of one. A message that is kept as bits has to be whole and all of the line, as nearly any bytes begin one
abbrev pub BeginsItem : Kind → List ℕ → Type 0 → Type 0
BeginsItem kind line longer =
    ((n : ℕ) × IsFront kind line n × (IsTrue (is_kept kind line) → n ≡ length line))
    ⊎ (AreOpen kind line × longer × (is_kept kind line ≡ false))

-- the bytes are fewer than the item has that they begin
abbrev pub AreFew : Option Kind → List ℕ → Type 0
AreFew asked bytes = length bytes < awaited (kind_of asked bytes) bytes

-- the bytes of an item that isn't all there, continued with those of a line, have a refused bit, and the line begins another
abbrev pub IsCut : Option Kind → List ℕ → List ℕ → Type 0
IsCut asked held line = AreRefused (kind_of asked (held ++ line)) (held ++ line) × BeginsItem (kind_of asked line) line (awaited (kind_of asked (held ++ line)) (held ++ line) < length (held ++ line))

-- ---- Lines among the tokens of an input.

-- the first bytes, as long as they are of line n
abbrev pub of_this : ℕ → List Token → List ℕ
of_this n [] = []
of_this n (of_byte m b ∷ ts) = if m == n then b ∷ of_this n ts else []
of_this n (of_line m text ∷ ts) = []

-- the bytes of the first line, if it has any
abbrev pub first_line : List Token → List ℕ
first_line [] = []
first_line (of_byte n b ∷ ts) = b ∷ of_this n ts
first_line (of_line n text ∷ ts) = []

-- line n ends before these
abbrev pub IsPast : ℕ → List Token → Type 0
IsPast n [] = Unit {0}
IsPast n (of_byte m b ∷ ts) = m ≡ n → ⊥
IsPast n (of_line m text ∷ ts) = Unit {0}

-- the item that the bytes begin ends before these, all there or not: there are none, the first is a line without bytes, or
-- a line by which it is cut
abbrev pub EndsBefore : Option Kind → List ℕ → List Token → Type 0
EndsBefore asked bytes [] = Unit {0}
EndsBefore asked bytes (of_byte n b ∷ ts) = IsCut asked bytes (first_line (of_byte n b ∷ ts))
EndsBefore asked bytes (of_line n text ∷ ts) = Unit {0}

-- the bytes, each with its line, are those of one part if these follow: where a line ends among them, the item isn't all
-- there, and the next line doesn't cut it
abbrev pub AreJoined : Option Kind → List ℕ → List ℕ → List Token → Type 0
AreJoined asked lines bytes next =
    (n : ℕ) → n + 1 < length bytes → (slice_index lines n ≡ slice_index lines (n + 1) → ⊥)
    → AreFew asked (take (n + 1) bytes) × (IsCut asked (take (n + 1) bytes) (first_line (placed (drop (n + 1) lines) (drop (n + 1) bytes) ++ next)) → ⊥)

-- a part that isn't an item ends before these: with its last line, and, where its item has to go on, as that ends
abbrev pub IsOver : Option Kind → List ℕ → List ℕ → Type 0 → List Token → Type 0
IsOver asked lines bytes goes_on next = IsPast (slice_index lines (length bytes - 1)) next × (goes_on → EndsBefore asked bytes next)
