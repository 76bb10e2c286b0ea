-- Which item a line of JSON is, or at which bit it is refused.
use Rattle.std.specs.Prelude.{◌≡◌, ℕ, List, IsUtf8, Some}
use Rattle.serde_json.specs.Data.{Data}
use Rattle.serde_json.specs.Read.{read}
use Rattle.etcs_vars.specs.declared.var.Var.{Var}
use Rattle.etcs_text.specs.declared.entry.Kind.{Kind}
use Rattle.etcs_text.specs.Entries.{EntryValue}
use Rattle.etcs_json.specs.Loose.{TreeSays, TreeRefused}

-- the line is UTF-8 and is read as a tree, of which P holds
abbrev pub OfLine : (Data → Type 0) → List ℕ → Type 0
OfLine P line = (d : Data) × IsUtf8 line × (read line ≡ Some d) × P d

-- the line is UTF-8 and is read as a tree of the item e of the kind, or of older JSON with the same bits
abbrev pub SaysItem : Kind → List ℕ → EntryValue → Type 0
SaysItem kind line e = OfLine (λ d. TreeSays kind d e) line

-- the line is UTF-8 and is read as a tree of older JSON whose bits are refused at bit i, which the variable x holds
abbrev pub SaysRefused : Kind → List ℕ → ℕ → Var → Type 0
SaysRefused kind line i x = OfLine (λ d. TreeRefused kind d i x) line
