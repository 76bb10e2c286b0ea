-- What the items of an input are, and how it ends.
use Rattle.std.specs.Prelude.{◌≡◌, ℕ, ◌+◌, ◌<◌, ◌≤◌, Bool, List, [], ◌∷◌, ◌++◌, length, ◌⊎◌, Some}
use Rattle.etcs_bits.specs.Bits.{bits}
use Rattle.etcs_vars.specs.declared.var.Var.{Var}
use Rattle.etcs_vars.specs.Reading as reading
use Rattle.etcs_vars.specs.Reading.{IsOutcome, NoneYet, readings_of}
use Rattle.etcs_text.specs.declared.entry.Kind.{Kind}
use Rattle.etcs_runs.specs.declared.form.Form.{Form}
use Rattle.etcs_runs.specs.declared.form.Form.TheVariants.{Hex, Bin, Json}
use Rattle.etcs_text.specs.Entries.{EntryValue, EntryReads}
use Rattle.etcs_runs.specs.Lines.{IsLine, strip_cr, lines_text}
use Rattle.etcs_stream.specs.Lines.{bad_place, lines_bytes, AreGood, IsHexText}
use Rattle.etcs_stream.specs.JsonItems.{EndedJson, BadJsonLine, RefusedJsonLine, EndlessJson, WholeJson, FirstJson}
use Rattle.etcs_stream.specs.Streams.{AreSpelled}

-- how the items of an input end: with the input; at a refused bit of an item, which the variable holds; inside an item,
-- after this many of its bits; at a place of a bad line of hexadecimal; in a bad line of JSON; at a byte or a line
-- after the 1,000,000th item
pub data End : Type 0 where
  ended : End
  refused : ℕ → Var → End
  truncated : ℕ → End
  bad_hex : ℕ → ℕ → End
  bad_json : ℕ → End
  endless : End

-- after n items, the bits of the rest end like this: there are none; one is refused; an item isn't whole; or an item is
-- too many
abbrev pub EndsWith : Kind → ℕ → List Bool → End → Type 0
EndsWith kind n rest ended = rest ≡ []
EndsWith kind n rest (refused i x) = (n < 1000000) × IsOutcome (EntryReads kind) rest (reading.refused i x)
EndsWith kind n rest (truncated k) = (n < 1000000) × (k ≡ length rest) × (0 < k) × IsOutcome (EntryReads kind) rest reading.more
EndsWith kind n rest (bad_hex line place) = ⊥
EndsWith kind n rest (bad_json line) = ⊥
EndsWith kind n rest endless = (n ≡ 1000000) × (0 < length rest)

-- the bits are these items one after another, at most 1,000,000, and then end like this
pub record BitItems (kind : Kind) (b : List Bool) (es : List EntryValue) (end : End) : Type 0 where
  pub spelt : List Bool
  pub rest : List Bool
  pub are_spelled : AreSpelled kind es spelt
  pub bits_are : b ≡ spelt ++ rest
  pub few : length es ≤ 1000000
  pub ends : EndsWith kind (length es) rest end

-- the line of this number is the first that isn't hexadecimal, by this place (`bad_place`), and the lines before it
-- stand for these bytes
pub record IsBad (text bytes : List ℕ) (line place : ℕ) : Type 0 where
  pub lines : List (List ℕ)
  pub bad : List ℕ
  pub beyond : List ℕ
  pub lines_good : AreGood lines
  pub is_line : IsLine bad
  pub line_is : line ≡ length lines + 1
  pub bytes_are : bytes ≡ lines_bytes lines
  pub text_is : ((text ≡ lines_text lines ++ (bad ++ 10 ∷ beyond)) × (bad_place (strip_cr bad) ≡ Some place)) ⊎ ((text ≡ lines_text lines ++ bad) × (bad_place bad ≡ Some place))

-- the items of the lines before a bad one, and the end: a refused bit or an item too many in these lines comes first,
-- else it is the bad line
abbrev pub BadItems : Kind → List Bool → List EntryValue → ℕ → ℕ → End → Type 0
BadItems kind b es line place ended = ⊥
BadItems kind b es line place (refused i x) = BitItems kind b es (refused i x)
BadItems kind b es line place (truncated k) = ⊥
BadItems kind b es line place (bad_hex l p) = (l ≡ line) × (p ≡ place) × (BitItems kind b es ended ⊎ ((k : ℕ) × BitItems kind b es (truncated k)))
BadItems kind b es line place (bad_json l) = ⊥
BadItems kind b es line place endless = BitItems kind b es endless

-- the items of an input of lines of JSON, and how it ends
abbrev pub JsonItems : Kind → List ℕ → List EntryValue → End → Type 0
JsonItems kind input es ended = EndedJson kind input es
JsonItems kind input es (refused i x) = RefusedJsonLine kind input es i x
JsonItems kind input es (truncated k) = ⊥
JsonItems kind input es (bad_hex line place) = ⊥
JsonItems kind input es (bad_json line) = BadJsonLine kind input es line
JsonItems kind input es endless = EndlessJson kind input es

-- the items of an input of this form, and how it ends. Of lines of hexadecimal they are those of the bytes of all
-- lines; if a line is bad, a refused bit or an item too many in the lines before it comes first
abbrev pub ItemsOf : Form → Kind → List ℕ → List EntryValue → End → Type 0
ItemsOf Bin kind input es end = BitItems kind (bits input) es end
ItemsOf Json kind input es end = JsonItems kind input es end
ItemsOf Hex kind input es end =
    ((bytes : List ℕ) × IsHexText input bytes × BitItems kind (bits bytes) es end)
    ⊎ ((bytes : List ℕ) × (line : ℕ) × (place : ℕ) × IsBad input bytes line place × BadItems kind (bits bytes) es line place end)

-- ---- The front of an input.

-- what is there of an input, which isn't JSON, stands for these bytes: of lines, those that have a LF
abbrev pub SaysSoFar : Form → List ℕ → List ℕ → Type 0
SaysSoFar Bin given bytes = bytes ≡ given
SaysSoFar Json given bytes = ⊥
SaysSoFar Hex given bytes = (lines : List (List ℕ)) × (rest : List ℕ) × (given ≡ lines_text lines ++ rest) × AreGood lines × IsLine rest × (bytes ≡ lines_bytes lines)

-- these are all items that are whole in the bytes for which that stands
pub record WholeBytes (form : Form) (kind : Kind) (given : List ℕ) (es : List EntryValue) : Type 0 where
  pub bytes : List ℕ
  pub says : SaysSoFar form given bytes
  pub spelt : List Bool
  pub rest : List Bool
  pub are_spelled : AreSpelled kind es spelt
  pub bits_are : bits bytes ≡ spelt ++ rest
  pub few : length es ≤ 1000000
  pub none_more : NoneYet (readings_of (EntryReads kind)) rest

-- these are all items that are whole in what is there of an input: of lines, in those that have a LF
abbrev pub WholeItems : Form → Kind → List ℕ → List EntryValue → Type 0
WholeItems Hex kind given es = WholeBytes Hex kind given es
WholeItems Bin kind given es = WholeBytes Bin kind given es
WholeItems Json kind given es = WholeJson kind given es

-- some lines at its front stand for these bytes, the last of them perhaps without a LF
abbrev pub SaysFirst : Form → List ℕ → List ℕ → Type 0
SaysFirst Bin given bytes = bytes ≡ given
SaysFirst Json given bytes = ⊥
SaysFirst Hex given bytes = ((lines : List (List ℕ)) × (rest : List ℕ) × (given ≡ lines_text lines ++ rest) × AreGood lines × (bytes ≡ lines_bytes lines)) ⊎ IsHexText given bytes

-- these are some first items of the bytes for which such a front stands
pub record FirstBytes (form : Form) (kind : Kind) (given : List ℕ) (es : List EntryValue) : Type 0 where
  pub bytes : List ℕ
  pub says : SaysFirst form given bytes
  pub spelt : List Bool
  pub rest : List Bool
  pub are_spelled : AreSpelled kind es spelt
  pub bits_are : bits bytes ≡ spelt ++ rest
  pub few : length es ≤ 1000000

-- these are some first items of an input that begins with what is given
abbrev pub FirstItems : Form → Kind → List ℕ → List EntryValue → Type 0
FirstItems Hex kind given es = FirstBytes Hex kind given es
FirstItems Bin kind given es = FirstBytes Bin kind given es
FirstItems Json kind given es = FirstJson kind given es
