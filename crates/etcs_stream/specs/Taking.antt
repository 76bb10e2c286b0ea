-- How a run continues with each piece that it gets, and how it ends early.
use Rattle.std.specs.Prelude.{◌≡◌, ℕ, ◌+◌, ◌<◌, ◌≤◌, Bool, List, [], ◌∷◌, ◌++◌, length, take}
use Rattle.etcs_bits.specs.Bits.{bits}
use Rattle.etcs_vars.specs.Reading.{readings_of}
use Rattle.etcs_vars.specs.Walking.{Refuses}
use Rattle.etcs_vars.specs.declared.var.Var.{Var}
use Rattle.etcs_text.specs.declared.entry.Kind.{Kind}
use Rattle.etcs_stream.specs.declared.job.Command.{Command}
use Rattle.etcs_text.specs.Entries.{EntryValue, EntryReads}
use Rattle.etcs_stream.specs.Reported.{Reported}
use Rattle.etcs_stream.specs.Printers.{OutputsItem, OutputsItems}
use Rattle.etcs_stream.specs.declared.job.Job.{Job}
use Rattle.etcs_stream.specs.JsonItems.{IsItemLine, IsRefusedLine}
use Rattle.etcs_runs.specs.declared.fault.RunFault.{RunFault}
use Rattle.etcs_runs.specs.declared.fault.RunFault.TheVariants.{Refused, Truncated, BadHex, BadJson, Read, Write, Endless, Memory}
use Rattle.etcs_runs.specs.Lines.{IsLine, strip_cr}
use Rattle.etcs_text.specs.Readers.{ReaderValue, seen_bits}
use Rattle.etcs_stream.specs.Readers.{Awaits, HasRoom}
use Rattle.etcs_stream.specs.Streams.{AreSpelled}

-- with these bytes after the bits seen before, some items became whole and were reported, and bits are left
pub record Advances (kind : Kind) (command : Command) (seen seen' : List Bool) (before after : Reported) (bytes text text' : List ℕ) : Type 0 where
  pub reported : List EntryValue
  pub spelt : List Bool
  pub added : List ℕ
  pub are_spelled : AreSpelled kind reported spelt
  pub bits_are : seen ++ bits bytes ≡ spelt ++ seen'
  pub added_is : OutputsItems command before reported added after
  pub text_is : text' ≡ text ++ added

-- the first n of the bytes were taken, up to the end of an item or all of them
pub record TakesFront (job : Job) (reader reader' : ReaderValue) (before after : Reported) (bytes text text' : List ℕ) (n : ℕ) : Type 0 where
  pub some : 0 < n
  pub within : n ≤ length bytes
  pub waits : Awaits job.kind reader'
  pub few : after.count ≤ 1000000
  pub room : HasRoom after.count (seen_bits reader'.progress)
  pub advances : Advances job.kind job.command (seen_bits reader.progress) (seen_bits reader'.progress) before after (take n bytes) text text'

-- why no more is taken of the bits after n items
abbrev pub HaltsBy : Kind → ℕ → List Bool → RunFault → Type 0
HaltsBy kind n rest (Refused item i x) = (item ≡ n + 1) × (n < 1000000) × Refuses (readings_of (EntryReads kind)) rest i x
HaltsBy kind n rest (Truncated item k) = ⊥
HaltsBy kind n rest (BadHex line place) = ⊥
HaltsBy kind n rest (BadJson line) = ⊥
HaltsBy kind n rest Read = ⊥
HaltsBy kind n rest (Write sent) = ⊥
HaltsBy kind n rest Endless = (n ≡ 1000000) × (0 < length rest)
HaltsBy kind n rest Memory = Unit {0}

-- with these bytes after the bits seen before, some items became whole and were reported, and then no more was taken
pub record Halts (kind : Kind) (command : Command) (seen : List Bool) (before : Reported) (bytes text text' : List ℕ) (fault : RunFault) : Type 0 where
  pub reported : List EntryValue
  pub spelt : List Bool
  pub rest : List Bool
  pub added : List ℕ
  pub are_spelled : AreSpelled kind reported spelt
  pub bits_are : seen ++ bits bytes ≡ spelt ++ rest
  pub after : Reported
  pub few : before.count + length reported ≤ 1000000
  pub added_is : OutputsItems command before reported added after
  pub text_is : text' ≡ text ++ added
  pub why : HaltsBy kind (before.count + length reported) rest fault

-- this text was written of some items, and at most one more was counted
pub record Says (command : Command) (before now : Reported) (text text' : List ℕ) : Type 0 where
  pub reported : List EntryValue
  pub added : List ℕ
  pub after : Reported
  pub added_is : OutputsItems command before reported added after
  pub text_is : text' ≡ text ++ added
  pub counted : now.count ≤ after.count + 1

-- ---- Lines of JSON.

-- the item of a line was reported, or the line is empty
pub data TakesJson (job : Job) (line : List ℕ) (before after : Reported) (text text' : List ℕ) : Type 0 where
  empty_line : line ≡ [] → after ≡ before → text' ≡ text → TakesJson job line before after text text'
  item_line : (e : EntryValue) (added : List ℕ) → IsItemLine job.kind line e → before.count < 1000000 → OutputsItem job.command e before added after → text' ≡ text ++ added → TakesJson job line before after text text'

-- why the item of a line wasn't reported
abbrev pub HaltsJson : Job → List ℕ → ℕ → Reported → RunFault → Type 0
HaltsJson job line number before (Refused item i x) = (item ≡ before.count + 1) × (before.count < 1000000) × IsRefusedLine job.kind line i x
HaltsJson job line number before (Truncated item k) = ⊥
HaltsJson job line number before (BadHex l place) = ⊥
HaltsJson job line number before (BadJson l) = (l ≡ number) × (0 < length line) × (before.count < 1000000) × ((e : EntryValue) → IsItemLine job.kind line e → ⊥) × ((i : ℕ) (x : Var) → IsRefusedLine job.kind line i x → ⊥)
HaltsJson job line number before Read = ⊥
HaltsJson job line number before (Write sent) = ⊥
HaltsJson job line number before Endless = (before.count ≡ 1000000) × (0 < length line)
HaltsJson job line number before Memory = Unit {0}

-- the text begins with this line, which has n bytes with its LF, and the item of the line was reported
pub record TakesFirst (job : Job) (rest : List ℕ) (before after : Reported) (text text' : List ℕ) (n : ℕ) : Type 0 where
  pub raw : List ℕ
  pub beyond : List ℕ
  pub rest_is : rest ≡ raw ++ 10 ∷ beyond
  pub is_line : IsLine raw
  pub bytes_is : n ≡ length raw + 1
  pub takes : TakesJson job (strip_cr raw) before after text text'
