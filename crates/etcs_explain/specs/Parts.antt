-- What an input is cut into, one after another; each has one text.
use Rattle.std.specs.Prelude.{◌≡◌, ℕ, ◌+◌, ◌*◌, ◌<◌, ◌⊎◌, min, if◌then◌else◌, Bool, true, false, List, [], ◌∷◌, ◌++◌, length, flat_map, take, slice_index, codes, Option, Some, None}
use Rattle.std.specs.Fmt.{decimal}
use Rattle.hex.specs.Hex.{is_hex_digit}
use Rattle.etcs_bits.specs.Bits.{bits}
use Rattle.etcs_vars.specs.declared.var.Var.{Var}
use Rattle.etcs_vars.specs.Reading.{Viable, InLanguage, readings_of}
use Rattle.etcs_vars.specs.Walking.{Refuses}
use Rattle.etcs_text.specs.declared.entry.Kind.{Kind}
use Rattle.etcs_text.specs.Entries.{EntryValue, EntryReads}
use Rattle.etcs_text.specs.Verdicts.{IsItem}
use Rattle.etcs_json.specs.JsonLines.{OfLine, SaysItem, SaysRefused}
use Rattle.etcs_json.specs.Loose.{IsLoose}
use Rattle.etcs_json.specs.TreeReading.{IsTreeOf}
use Rattle.etcs_runs.specs.Passes.{counted}
use Rattle.etcs_runs.specs.declared.form.Form.{Form}
use Rattle.etcs_runs.specs.declared.form.Form.TheVariants.{Hex, Bin, Json}
use Rattle.etcs_runs.specs.declared.fault.RunFault.{RunFault}
use Rattle.etcs_runs.specs.declared.fault.RunFault.TheVariants.{Refused, Truncated, BadHex, BadJson, Read, Write, Endless, Memory}
use Rattle.etcs_reasons.specs.declared.sheet.Layout.{Layout}
use Rattle.etcs_reasons.specs.declared.sheet.Layout.TheVariants.{Text, Html}
use Rattle.etcs_explain.specs.declared.task.Task.{Task}
use Rattle.etcs_runs.specs.Digits.{line_digits}
use Rattle.etcs_explain.specs.Inputs.{Token, of_line, placed}
use Rattle.etcs_explain.specs.Kinds.{IsAsked, kind_of}
use Rattle.etcs_explain.specs.Cuts.{awaited, AreJoined, IsOver}

-- a part of an input: the bytes of an item, each with its line; bytes that are refused or unfinished; a line of JSON, with
-- its number, that is an item; a line that isn't one; the number of a line that is too long. Each but the last has its kind
-- first; the last of each is its text
pub data Part : Type 0 where
  item : Kind → List ℕ → List ℕ → List ℕ → Part
  broken : Kind → List ℕ → List ℕ → RunFault → List ℕ → Part
  good_line : Kind → ℕ → List ℕ → List ℕ → Part
  bad_line : Kind → ℕ → List ℕ → RunFault → List ℕ → Part
  long_line : ℕ → RunFault → List ℕ → Part

-- ---- What it takes of the input, and of the counts.

-- the tokens of a part: its bytes or its line; none for a line that is too long
abbrev pub tokens_of : Part → List Token
tokens_of (item kind lines bytes text) = placed lines bytes
tokens_of (broken kind lines bytes fault text) = placed lines bytes
tokens_of (good_line kind n line text) = of_line n line ∷ []
tokens_of (bad_line kind n line fault text) = of_line n line ∷ []
tokens_of (long_line n fault text) = []

-- the number of its line, if that is too long
abbrev pub long_of : Part → List ℕ
long_of (item kind lines bytes text) = []
long_of (broken kind lines bytes fault text) = []
long_of (good_line kind n line text) = []
long_of (bad_line kind n line fault text) = []
long_of (long_line n fault text) = n ∷ []

-- 1 if the fault counts an item
abbrev pub item_of : RunFault → ℕ
item_of (Refused number i x) = 1
item_of (Truncated number k) = 1
item_of (BadHex n place) = 0
item_of (BadJson n) = 0
item_of Read = 0
item_of (Write sent) = 0
item_of Endless = 0
item_of Memory = 0

-- how many items a part counts as
abbrev pub items_of : Part → ℕ
items_of (item kind lines bytes text) = 1
items_of (broken kind lines bytes fault text) = 1
items_of (good_line kind n line text) = 1
items_of (bad_line kind n line fault text) = item_of fault
items_of (long_line n fault text) = 0

-- its fault, if it has one
abbrev pub fault_of : Part → Option RunFault
fault_of (item kind lines bytes text) = None
fault_of (broken kind lines bytes fault text) = Some fault
fault_of (good_line kind n line text) = None
fault_of (bad_line kind n line fault text) = Some fault
fault_of (long_line n fault text) = Some fault

-- its text
abbrev pub text_of : Part → List ℕ
text_of (item kind lines bytes text) = text
text_of (broken kind lines bytes fault text) = text
text_of (good_line kind n line text) = text
text_of (bad_line kind n line fault text) = text
text_of (long_line n fault text) = text

-- ---- Its text.

-- where it is: the number of the item in an input of bytes, else that of the line
abbrev pub place : Form → ℕ → ℕ → List ℕ
place Bin number line = codes "item " ++ decimal number ++ codes ": "
place Hex number line = codes "line " ++ decimal line ++ codes ": "
place Json number line = codes "line " ++ decimal line ++ codes ": "

-- what a page has before it, for an item and for a line that isn't one
abbrev pub opening : Layout → Bool → List ℕ
opening Text is_item = []
opening Html true = codes "<details class=item><summary><h2>"
opening Html false = codes "<p class=no>"

-- the text begins with what a page has there and its place; what follows is open
abbrev pub HasTitle : Task → Bool → ℕ → ℕ → List ℕ → Type 0
HasTitle task is_item number line text = (more : List ℕ) × (text ≡ opening task.layout is_item ++ (place task.from number line ++ more))

-- ---- Its fault.

-- the fault names the first bit of the bytes, of at most 1,023 of them, with which no item continues, and the variable that
-- holds it; or they begin an item, aren't one, and the fault has the number of their bits
abbrev pub IsBroken : Kind → ℕ → List ℕ → RunFault → Type 0
IsBroken kind number bytes fault =
    ((i : ℕ) × (x : Var) × (fault ≡ Refused number i x) × Refuses (readings_of (EntryReads kind)) (take 8184 (bits bytes)) i x)
    ⊎ ((fault ≡ Truncated number (8 * min (length bytes) 1023)) × Viable (readings_of (EntryReads kind)) (take 8184 (bits bytes)) × (InLanguage (readings_of (EntryReads kind)) (take 8184 (bits bytes)) → ⊥))

-- the line is the JSON of an item whose kept bits are refused, with that bit and its variable; or of no item
abbrev pub IsBadJson : Kind → ℕ → ℕ → List ℕ → RunFault → Type 0
IsBadJson kind number n line fault =
    ((i : ℕ) × (x : Var) × (fault ≡ Refused number i x) × SaysRefused kind line i x)
    ⊎ ((fault ≡ BadJson n) × ((o : EntryValue) → IsLoose kind o → OfLine (λ d. IsTreeOf o d) line → ⊥))

-- how many digits a line begins with
abbrev pub first_digits : List ℕ → ℕ
first_digits [] = 0
first_digits (c ∷ cs) = if is_hex_digit c then 1 + first_digits cs else 0

-- the place of what is wrong with a line without bytes: the first character that is no digit if it has no digits at its end,
-- else its end
abbrev pub bad_place : List ℕ → List ℕ → ℕ
bad_place [] line = first_digits line
bad_place (c ∷ digits) line = length line

-- the fault has the line's number and that place
abbrev pub IsBadHex : ℕ → List ℕ → RunFault → Type 0
IsBadHex n line fault = fault ≡ BadHex n (bad_place (line_digits line) line)

-- the fault of a line that is not an item, in an input of this form
abbrev pub IsBad : Form → Kind → ℕ → ℕ → List ℕ → RunFault → Type 0
IsBad Json kind number n line fault = IsBadJson kind number n line fault
IsBad Hex kind number n line fault = IsBadHex n line fault
IsBad Bin kind number n line fault = IsBadHex n line fault

-- the fault of a line that is too long
abbrev pub long_fault : Form → ℕ → RunFault
long_fault Json n = BadJson n
long_fault Hex n = BadHex n 1048576
long_fault Bin n = BadHex n 1048576

-- ---- Parts.

-- the part is as its variant is named, if its item has this number: bytes of an item or with their fault, a line with its fault
-- unless it is an item. Its kind is asked for or guessed, by its bytes and what comes after an item, and its text begins with
-- its place
abbrev pub IsPart : Task → ℕ → Part → Type 0
IsPart task number (item kind lines bytes text) = ((more : List ℕ) × (kind ≡ kind_of task.kind (bytes ++ more))) × (length lines ≡ length bytes) × (0 < length bytes) × ((e : EntryValue) × IsItem kind bytes e) × HasTitle task true number (slice_index lines 0) text
IsPart task number (broken kind lines bytes fault text) = (kind ≡ kind_of task.kind bytes) × (length lines ≡ length bytes) × (0 < length bytes) × IsBroken kind number bytes fault × HasTitle task true number (slice_index lines 0) text
IsPart task number (good_line kind n line text) = IsAsked task.kind kind × ((e : EntryValue) × SaysItem kind line e) × HasTitle task true number n text
IsPart task number (bad_line kind n line fault text) = IsAsked task.kind kind × IsBad task.from kind number n line fault × HasTitle task false number n text
IsPart task number (long_line n fault text) = (fault ≡ long_fault task.from n) × HasTitle task false number n text

-- the first fault isn't that of an unfinished item
abbrev pub IsUncut : Option RunFault → Type 0
IsUncut first = (number k : ℕ) → first ≡ Some (Truncated number k) → ⊥

-- the item goes on, as far as the fault says: it is unfinished, or refused before all of its bytes are there
abbrev pub GoesOn : RunFault → Kind → List ℕ → Type 0
GoesOn (Refused number i x) kind bytes = length bytes < awaited kind bytes
GoesOn (Truncated number k) kind bytes = Unit {0}
GoesOn (BadHex n place) kind bytes = ⊥
GoesOn (BadJson n) kind bytes = ⊥
GoesOn Read kind bytes = ⊥
GoesOn (Write sent) kind bytes = ⊥
GoesOn Endless kind bytes = ⊥
GoesOn Memory kind bytes = ⊥

-- lines of hexadecimal are cut where the part ends, and not before, if these follow
abbrev pub Fits : Form → Option Kind → Part → List Token → Type 0
Fits form asked (item kind lines bytes text) next = form ≡ Hex → AreJoined asked lines bytes next
Fits form asked (broken kind lines bytes fault text) next = form ≡ Hex → AreJoined asked lines bytes next × IsOver asked lines bytes (GoesOn fault kind bytes) next
Fits form asked (good_line kind n line text) next = Unit {0}
Fits form asked (bad_line kind n line fault text) next = Unit {0}
Fits form asked (long_line n fault text) next = Unit {0}

-- each of them is a part, one after another, after k items, and then these follow
abbrev pub AreParts : Task → ℕ → List Part → List Token → Type 0
AreParts task k [] next = Unit {0}
AreParts task k (p ∷ ps) next = IsPart task (counted (k + 1)) p × Fits task.from task.kind p (flat_map tokens_of ps ++ next) × AreParts task (k + items_of p) ps next

-- ---- All of them.

-- how many items parts count as
abbrev pub items_in : List Part → ℕ
items_in [] = 0
items_in (p ∷ ps) = items_of p + items_in ps

-- the first fault, if there is one, else the next
abbrev pub noted : Option RunFault → Option RunFault → Option RunFault
noted None fault = fault
noted (Some first) fault = Some first

-- the fault of the first part that has one
abbrev pub first_fault : List Part → Option RunFault
first_fault [] = None
first_fault (p ∷ ps) = noted (fault_of p) (first_fault ps)

-- what is before or after the texts: in a page this, and nothing else
abbrev pub edge : Layout → List ℕ → List ℕ
edge Text page = []
edge Html page = page

-- the head, if nothing was written yet
abbrev pub missing : Bool → List ℕ → List ℕ
missing true head = []
missing false head = head

-- the texts of the parts one after another, and the head before the first
abbrev pub written : List ℕ → List Part → List ℕ
written head [] = []
written head (p ∷ ps) = head ++ flat_map text_of (p ∷ ps)
