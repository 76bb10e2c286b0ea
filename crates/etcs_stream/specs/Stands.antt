-- What was reported of the bytes that an engine was fed.
use Rattle.std.specs.Prelude.{◌≡◌, ℕ, ◌≤◌, Bool, List, ◌++◌, length, map, All}
use Rattle.etcs_bits.specs.Bits.{bits}
use Rattle.etcs_vars.specs.Reading.{NoneYet, readings_of}
use Rattle.etcs_runs.specs.declared.form.Form.TheVariants.{Hex, Bin, Json}
use Rattle.etcs_text.specs.Entries.{EntryValue, EntryReads}
use Rattle.etcs_stream.specs.Reported.{Reported}
use Rattle.etcs_stream.specs.Printers.{OutputsItems, nothing_reported}
use Rattle.etcs_stream.specs.declared.job.Job.{Job}
use Rattle.etcs_runs.specs.Lines.{IsLine, strip_cr, lines_text}
use Rattle.etcs_stream.specs.Lines.{lines_bytes, AreGood}
use Rattle.etcs_stream.specs.JsonItems.{AreItemLines}
use Rattle.etcs_text.specs.Readers.{ReaderValue, seen_bits}
use Rattle.etcs_stream.specs.Readers.{Awaits, HasRoom}
use Rattle.etcs_stream.specs.Streams.{AreSpelled}

-- of these bytes items were reported, and of the next one these bits were seen
pub record ItemsStand (job : Job) (seen : List Bool) (after : Reported) (bytes output : List ℕ) : Type 0 where
  pub items : List EntryValue
  pub spelt : List Bool
  pub are_spelled : AreSpelled job.kind items spelt
  pub bits_are : bits bytes ≡ spelt ++ seen
  pub count_is : after.count ≡ length items
  pub few : after.count ≤ 1000000
  pub room : HasRoom after.count seen
  pub none_more : NoneYet (readings_of (EntryReads job.kind)) seen
  pub text : OutputsItems job.command nothing_reported items output after

-- the bytes given are the items themselves
abbrev pub BinStands : Job → ReaderValue → Reported → List ℕ → List ℕ → Type 0
BinStands job reader after given output = (job.from ≡ Bin) × Awaits job.kind reader × ItemsStand job (seen_bits reader.progress) after given output

-- the bytes given are lines of hexadecimal, and these characters of the last one are kept
pub record HexStands (job : Job) (reader : ReaderValue) (after : Reported) (begun : List ℕ) (line : ℕ) (given output : List ℕ) : Type 0 where
  pub form : job.from ≡ Hex
  pub waits : Awaits job.kind reader
  pub lines : List (List ℕ)
  pub given_is : given ≡ lines_text lines ++ begun
  pub lines_good : AreGood lines
  pub is_line : IsLine begun
  pub line_is : line ≡ length lines
  pub items : ItemsStand job (seen_bits reader.progress) after (lines_bytes lines) output

-- ---- Lines.

-- these lines of hexadecimal were taken, and this text was written of their items
pub record HexTook (job : Job) (reader : ReaderValue) (after : Reported) (lines : List (List ℕ)) (output : List ℕ) : Type 0 where
  pub form : job.from ≡ Hex
  pub waits : Awaits job.kind reader
  pub lines_good : AreGood lines
  pub items : ItemsStand job (seen_bits reader.progress) after (lines_bytes lines) output

-- these lines of JSON were taken, and this text was written of their items
pub record JsonTook (job : Job) (after : Reported) (lines : List (List ℕ)) (output : List ℕ) : Type 0 where
  pub form : job.from ≡ Json
  pub are_lines : All IsLine lines
  pub items : List EntryValue
  pub are_items : AreItemLines job.kind (map strip_cr lines) items
  pub count_is : after.count ≡ length items
  pub few : after.count ≤ 1000000
  pub text : OutputsItems job.command nothing_reported items output after
