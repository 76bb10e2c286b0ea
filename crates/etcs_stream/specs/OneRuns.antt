-- An input has one list of items, one end and one text, so what a run promises of it is unambiguous.
use Rattle.std.specs.Prelude.{◌≡◌, ℕ, List, Option, ◌++◌}
use Rattle.etcs_telegram.specs.Telegrams.{TelegramContent}
use Rattle.etcs_group.specs.Groups.{IsGroup}
use Rattle.etcs_text.specs.declared.entry.Kind.{Kind}
use Rattle.etcs_stream.specs.declared.job.Command.{Command}
use Rattle.etcs_runs.specs.declared.form.Form.{Form}
use Rattle.etcs_text.specs.Entries.{EntryValue}
use Rattle.etcs_stream.specs.Groups.{LastLines}
use Rattle.etcs_stream.specs.Printers.{ItemsText}
use Rattle.etcs_stream.specs.Inputs.{End, ItemsOf, WholeItems, FirstItems}

-- an input has one list of items, and ends in one way
abbrev pub OneEnd : Type 0
OneEnd = (form : Form) (kind : Kind) (input : List ℕ) (es es' : List EntryValue) (end end' : End) → ItemsOf form kind input es end → ItemsOf form kind input es' end' → (es ≡ es') × (end ≡ end')

-- what is there of an input has one list of all items that are whole
abbrev pub OneWhole : Type 0
OneWhole = (form : Form) (kind : Kind) (given : List ℕ) (es es' : List EntryValue) → WholeItems form kind given es → WholeItems form kind given es' → es ≡ es'

-- the list of an input's items begins with any first items of it
abbrev pub OneFront : Type 0
OneFront = (form : Form) (kind : Kind) (input : List ℕ) (es es' : List EntryValue) (end : End) → FirstItems form kind input es → ItemsOf form kind input es' end → (beyond : List EntryValue) × (es' ≡ es ++ beyond)

-- items have one text
abbrev pub OneText : Type 0
OneText = (command : Command) (es : List EntryValue) (text text' : List ℕ) → ItemsText command es text → ItemsText command es text' → text ≡ text'

-- a group that is held has one text of last lines
abbrev pub OneLast : Type 0
OneLast = (held : List (Option TelegramContent)) (text text' : List ℕ) → IsGroup held → LastLines held text → LastLines held text' → text ≡ text'
