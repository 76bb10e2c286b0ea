-- The items of lines of JSON, each of which has one item or is empty.
use Rattle.std.specs.Prelude.{◌≡◌, ℕ, ◌+◌, ◌<◌, ◌≤◌, List, [], ◌∷◌, ◌++◌, length, ◌⊎◌, All, map}
use Rattle.etcs_vars.specs.declared.var.Var.{Var}
use Rattle.etcs_text.specs.declared.entry.Kind.{Kind}
use Rattle.etcs_text.specs.Entries.{EntryValue}
use Rattle.etcs_json.specs.JsonLines.{SaysItem, SaysRefused}
use Rattle.etcs_runs.specs.Lines.{IsLine, strip_cr, lines_text}

-- the line isn't empty, has at most 1,048,576 bytes, and is the JSON of the item of the kind (`SaysItem`)
abbrev pub IsItemLine : Kind → List ℕ → EntryValue → Type 0
IsItemLine kind line e = (0 < length line) × (length line ≤ 1048576) × SaysItem kind line e

-- the line isn't empty, has at most 1,048,576 bytes, and is JSON of an older form whose bits are refused at bit i,
-- which the variable x holds (`SaysRefused`)
abbrev pub IsRefusedLine : Kind → List ℕ → ℕ → Var → Type 0
IsRefusedLine kind line i x = (0 < length line) × (length line ≤ 1048576) × SaysRefused kind line i x

-- the lines are those of the items, and empty ones
abbrev pub AreItemLines : Kind → List (List ℕ) → List EntryValue → Type 0
AreItemLines kind [] es = es ≡ []
AreItemLines kind (line ∷ lines) es = ((line ≡ []) × AreItemLines kind lines es) ⊎ ((e : EntryValue) × (beyond : List EntryValue) × (es ≡ e ∷ beyond) × IsItemLine kind line e × AreItemLines kind lines beyond)

-- the text begins with these lines, each with its LF, and they are those of these items, at most 1,000,000; rest follows
pub record JsonFront (kind : Kind) (text : List ℕ) (es : List EntryValue) (lines : List (List ℕ)) (rest : List ℕ) : Type 0 where
  pub text_is : text ≡ lines_text lines ++ rest
  pub are_lines : All IsLine lines
  pub are_items : AreItemLines kind (map strip_cr lines) es
  pub few : length es ≤ 1000000

-- the text begins with this line, without its LF and a CR before it; or the text is the line, and has no LF
abbrev pub BeginsWith : List ℕ → List ℕ → Type 0
BeginsWith text line = ((raw : List ℕ) × (beyond : List ℕ) × IsLine raw × (text ≡ raw ++ 10 ∷ beyond) × (line ≡ strip_cr raw)) ⊎ (IsLine text × (line ≡ text))

-- these are all items that are whole in what is there of an input: those of the lines that have a LF
abbrev pub WholeJson : Kind → List ℕ → List EntryValue → Type 0
WholeJson kind given es = (lines : List (List ℕ)) × (rest : List ℕ) × JsonFront kind given es lines rest × IsLine rest

-- the text is the lines of these items, at most 1,000,000; the last line has no LF, and may be empty
pub record EndedJson (kind : Kind) (text : List ℕ) (es : List EntryValue) : Type 0 where
  pub lines : List (List ℕ)
  pub last : List ℕ
  pub front : List EntryValue
  pub beyond : List EntryValue
  pub lines_are : JsonFront kind text front lines last
  pub is_line : IsLine last
  pub last_is : AreItemLines kind (last ∷ []) beyond
  pub items_are : es ≡ front ++ beyond
  pub few : length es ≤ 1000000

-- these are some first items of a text that begins with these bytes
abbrev pub FirstJson : Kind → List ℕ → List EntryValue → Type 0
FirstJson kind given es = ((lines : List (List ℕ)) × (rest : List ℕ) × JsonFront kind given es lines rest) ⊎ EndedJson kind given es

-- after the lines of the items comes one more that isn't empty, with a LF or at the end of the text
pub record FurtherLine (kind : Kind) (text : List ℕ) (es : List EntryValue) (lines : List (List ℕ)) (line : List ℕ) : Type 0 where
  pub rest : List ℕ
  pub front : JsonFront kind text es lines rest
  pub begins : BeginsWith rest line
  pub some : 0 < length line

-- the line of this number is the first that is no item, and isn't refused at a bit
abbrev pub BadJsonLine : Kind → List ℕ → List EntryValue → ℕ → Type 0
BadJsonLine kind text es number = (lines : List (List ℕ)) × (line : List ℕ) × FurtherLine kind text es lines line × (number ≡ length lines + 1) × (length es < 1000000) × ((e : EntryValue) → IsItemLine kind line e → ⊥) × ((i : ℕ) (x : Var) → IsRefusedLine kind line i x → ⊥)

-- the first line that is no item is refused at bit i, which the variable x holds
abbrev pub RefusedJsonLine : Kind → List ℕ → List EntryValue → ℕ → Var → Type 0
RefusedJsonLine kind text es i x = (lines : List (List ℕ)) × (line : List ℕ) × FurtherLine kind text es lines line × (length es < 1000000) × IsRefusedLine kind line i x

-- after 1,000,000 items comes a further line, good or bad
abbrev pub EndlessJson : Kind → List ℕ → List EntryValue → Type 0
EndlessJson kind text es = (lines : List (List ℕ)) × (line : List ℕ) × FurtherLine kind text es lines line × (length es ≡ 1000000)
