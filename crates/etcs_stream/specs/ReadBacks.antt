-- What a conversion writes is read again as the same items.
use Rattle.std.specs.Prelude.{ℕ, ◌≤◌, Bool, List, length}
use Rattle.etcs_text.specs.declared.entry.Kind.{Kind}
use Rattle.etcs_text.specs.Entries.{EntryValue}
use Rattle.etcs_stream.specs.declared.job.Command.TheVariants.{Convert}
use Rattle.etcs_runs.specs.declared.form.Form.{Form}
use Rattle.etcs_stream.specs.Inputs.{ItemsOf, ended}
use Rattle.etcs_stream.specs.Streams.{AreSpelled}
use Rattle.etcs_stream.specs.Printers.{ItemsText}

-- the text that a conversion writes of at most 1,000,000 items of one kind, which have spellings, has in that form these
-- items, in order, and then ends
abbrev pub ReadBack : Type 0
ReadBack = (form : Form) (kind : Kind) (es : List EntryValue) (spelt : List Bool) (text : List ℕ) → AreSpelled kind es spelt → length es ≤ 1000000 → ItemsText (Convert form) es text → ItemsOf form kind text es ended
