-- What a run of a job writes of its input, and how it ends: the promises of `run`.
use Rattle.std.specs.Prelude.{◌≡◌, ℕ, ◌+◌, List, ◌++◌, length, ◌⊎◌}
use Rattle.etcs_text.specs.Entries.{EntryValue}
use Rattle.etcs_stream.specs.Reported.{Reported}
use Rattle.etcs_stream.specs.Printers.{OutputsItems, ItemsText, Closes, nothing_reported}
use Rattle.etcs_stream.specs.declared.job.Job.{Job}
use Rattle.etcs_stream.specs.declared.job.Tally.{Tally}
use Rattle.etcs_runs.specs.declared.fault.RunFault.{RunFault}
use Rattle.etcs_runs.specs.declared.fault.RunFault.TheVariants.{Refused, Truncated, BadHex, BadJson, Endless, Memory}
use Rattle.etcs_runs.specs.Promises as runs
use Rattle.etcs_runs.specs.Promises.{Promises}
use Rattle.etcs_stream.specs.Inputs.{End, ended, refused, truncated, bad_hex, bad_json, endless, ItemsOf, WholeItems, FirstItems}

-- the fault by which a run reports how the items of an input end, after n of them
abbrev pub EndsBy : ℕ → End → RunFault → Type 0
EndsBy n ended f = ⊥
EndsBy n (refused i x) f = f ≡ Refused (n + 1) i x
EndsBy n (truncated k) f = f ≡ Truncated (n + 1) k
EndsBy n (bad_hex line place) f = f ≡ BadHex line place
EndsBy n (bad_json line) f = f ≡ BadJson line
EndsBy n endless f = f ≡ Endless

-- output is the text of all items that are whole in what is given
abbrev pub Outputs : Job → List ℕ → List ℕ → Type 0
Outputs job given output = (es : List EntryValue) × WholeItems job.from job.kind given es × ItemsText job.command es output

-- the bytes given are a whole input of nothing but items; output is what the command writes of them and then at the
-- end, and the tally counts them
pub record Ends (job : Job) (given output : List ℕ) (tally : Tally) : Type 0 where
  pub items : List EntryValue
  pub items_of : ItemsOf job.from job.kind given items ended
  pub lines : List ℕ
  pub last : List ℕ
  pub after : Reported
  pub text : OutputsItems job.command nothing_reported items lines after
  pub closes : Closes job.command after last tally
  pub output_is : output ≡ lines ++ last
  pub items_are : tally.items ≡ length items

-- the same, for some tally
abbrev pub EndsWhole : Job → List ℕ → List ℕ → Type 0
EndsWhole job given output = (tally : Tally) × Ends job given output tally

-- output is the text of some first items of an input that begins with the bytes given
abbrev pub Prints : Job → List ℕ → List ℕ → Type 0
Prints job given output = (es : List EntryValue) × FirstItems job.from job.kind given es × ItemsText job.command es output

-- the fault is `Memory`, and output is the text of such items
abbrev pub Starves : Job → List ℕ → List ℕ → RunFault → Type 0
Starves job given output f = (f ≡ Memory) × Prints job given output

-- each input that begins with the bytes given ends with this fault, after the items of output; or it is out of memory
abbrev pub Stops : Job → List ℕ → List ℕ → RunFault → Type 0
Stops job given output f = Starves job given output f ⊎ ((es : List EntryValue) × (end : End) × EndsBy (length es) end f × ItemsText job.command es output × ((more : List ℕ) → ItemsOf job.from job.kind (given ++ more) es end))

-- the input of the bytes given ends with this fault, after the items of output; or it is out of memory
abbrev pub StopsAtEnd : Job → List ℕ → List ℕ → RunFault → Type 0
StopsAtEnd job given output f = Starves job given output f ⊎ ((es : List EntryValue) × (end : End) × EndsBy (length es) end f × ItemsText job.command es output × ItemsOf job.from job.kind given es end)

-- what a run of the job promises
abbrev pub promises : Job → Promises Tally
promises job = record { Outputs = Outputs job; Ends = Ends job; Stops = Stops job; StopsAtEnd = StopsAtEnd job; Prints = Prints job }

-- it ran out of memory at the last piece that was read: output begins with the text of all items that are whole in what
-- is given without its last bytes, at most 4,096, and is that of some first items of all
abbrev pub StarvesIn : Job → List ℕ → List ℕ → Type 0
StarvesIn job given output = runs.StarvesIn (promises job) given output
