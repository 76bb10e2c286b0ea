-- What a command writes of the items of an input, one after another, and after the last.
use Rattle.std.specs.Prelude.{◌≡◌, ◌↔◌, ℕ, ◌+◌, Bool, true, List, [], ◌∷◌, ◌++◌, None, replicate}
use Rattle.hex.specs.Hex.{encode_upper}
use Rattle.serde_json.specs.Written.{compact_text}
use Rattle.etcs_group.specs.Messages.{IsWhole}
use Rattle.etcs_text.specs.Encodings.{IsEncoded, check_line}
use Rattle.etcs_text.specs.Trees.{json_tree}
use Rattle.etcs_text.specs.Entries.{EntryValue, of_telegram, of_message, entry_text}
use Rattle.etcs_runs.specs.declared.form.Form.TheVariants.{Hex, Bin, Json}
use Rattle.etcs_stream.specs.declared.job.Command.{Command}
use Rattle.etcs_stream.specs.declared.job.Command.TheVariants.{Show, Check, Convert, Group}
use Rattle.etcs_stream.specs.declared.job.Job.{Job}
use Rattle.etcs_stream.specs.declared.job.Tally.{Tally}
use Rattle.etcs_text.specs.Kinds.{IsOfTelegrams}
use Rattle.etcs_stream.specs.Groups.{GroupItem, LastLines}
use Rattle.etcs_stream.specs.Reported.{Reported}

-- the job groups no messages: only kinds of telegrams are grouped
abbrev pub IsGroupable : Job → Type 0
IsGroupable job = job.command ≡ Group → IsOfTelegrams job.kind

-- what was reported at the start of a run: no item, no clash, and nothing is held
abbrev pub nothing_reported : Reported
nothing_reported = record { count = 0; clashes = 0; held = replicate 8 None }

-- one item more was reported
abbrev pub one_more : Reported → Reported
one_more s = record { count = s.count + 1; clashes = s.clashes; held = s.held }

-- what the command writes of an item after those reported, and what was reported then: its text with its number, one
-- more than were reported; its line of `check`; its digits, its bytes or its line of JSON; or its line in a group
abbrev pub OutputsItem : Command → EntryValue → Reported → List ℕ → Reported → Type 0
OutputsItem Show e s text s' = (text ≡ entry_text e (s.count + 1)) × (s' ≡ one_more s)
OutputsItem Check e s text s' = (text ≡ check_line e (s.count + 1)) × (s' ≡ one_more s)
OutputsItem (Convert Hex) e s text s' = ((bytes : List ℕ) × IsEncoded e bytes × (text ≡ encode_upper bytes ++ 10 ∷ [])) × (s' ≡ one_more s)
OutputsItem (Convert Bin) e s text s' = IsEncoded e text × (s' ≡ one_more s)
OutputsItem (Convert Json) e s text s' = (text ≡ compact_text (json_tree e) ++ 10 ∷ []) × (s' ≡ one_more s)
OutputsItem Group (of_telegram t) s text s' = GroupItem t s text s'
OutputsItem Group (of_message way m) s text s' = ⊥

-- the same of items one after another
abbrev pub OutputsItems : Command → Reported → List EntryValue → List ℕ → Reported → Type 0
OutputsItems c s [] text s' = (text ≡ []) × (s' ≡ s)
OutputsItems c s (e ∷ es) text s' = (mid : Reported) × (first : List ℕ) × (rest : List ℕ) × (text ≡ first ++ rest) × OutputsItem c e s first mid × OutputsItems c mid es rest s'

-- what the command writes of items one after another, with nothing reported before
abbrev pub ItemsText : Command → List EntryValue → List ℕ → Type 0
ItemsText c es text = (s : Reported) × OutputsItems c nothing_reported es text s

-- what is written at the end of an input after what was reported, and the tally: for a group its last lines, how many
-- items, how many clashes, and complete exactly if it is whole; for each other command nothing, how many items, 0 and
-- true
abbrev pub Closes : Command → Reported → List ℕ → Tally → Type 0
Closes Group s last tally = LastLines s.held last × (tally.items ≡ s.count) × (tally.clashes ≡ s.clashes) × ((tally.complete ≡ true) ↔ IsWhole s.held)
Closes c s last tally = (last ≡ []) × (tally.items ≡ s.count) × (tally.clashes ≡ 0) × (tally.complete ≡ true)
