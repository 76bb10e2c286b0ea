-- What a reader of a language of values stands for, its progress, and what a feed returns.
use Rattle.std.specs.Prelude.{◌≡◌, ℕ, ◌+◌, ◌*◌, ◌%◌, ◌<◌, ◌≤◌, Bool, true, false, List, ◌++◌, length, take, Option, Some, None, is_some, Result, Ok, Err, IsTrue, if◌then◌else◌}
use Rattle.etcs_vars.specs.declared.var.Var.{Var}
use Rattle.etcs_vars.specs.declared.var.Var.TheVariants.{NID_MESSAGE, L_MESSAGE, T_TRAIN, M_ACK, NID_LRBG, NID_ENGINE, NID_EM, Q_ORIENTATION, D_SR, D_REF, Q_STATUS, Q_DIR, PAD, PADDING}
use Rattle.etcs_vars.specs.Reading.{Reading, spelled, Viable, Owner, readings_of, IsOutcome, done, refused, more}
use Rattle.etcs_vars.specs.Walking.{Residual}
use Rattle.etcs_vars.specs.declared.feed.Fed.{Fed}
use Rattle.etcs_vars.specs.declared.feed.Fed.TheVariants.{More, Done}
use Rattle.etcs_vars.specs.declared.feed.ReadFault.{ReadFault}
use Rattle.etcs_vars.specs.declared.feed.ReadFault.TheVariants.{Refused, Ended, Memory}
use Rattle.etcs_reader.specs.declared.feeder.Stop.{Stop}
use Rattle.etcs_reader.specs.declared.feeder.Stop.TheVariants as stop
use Rattle.etcs_reader.specs.Rests.{Goes}

-- how far a reader came: it has taken these bits and expects more; it has a value; it refused this bit, which this
-- variable holds; it was out of memory after this many accepted bits
pub data Progress (V : Type 0) : Type 0 where
  reading : List Bool → Progress V
  finished : V → Progress V
  stopped : ℕ → Var → Progress V
  starved : ℕ → Progress V

-- how many leading bits were accepted; of a finished value as many as it has
abbrev pub seen_of : {V : Type 0} → (V → ℕ) → Progress V → ℕ
seen_of size (reading b) = length b
seen_of size (finished v) = size v
seen_of size (stopped i x) = i
seen_of size (starved n) = n

-- the reader expects more: its progress is `reading`
abbrev pub IsReading : {V : Type 0} → Progress V → Type 0
IsReading (reading b) = Unit {0}
IsReading (finished v) = ⊥
IsReading (stopped i x) = ⊥
IsReading (starved n) = ⊥

-- what each later feed returns: `Refused` after `stopped`, `Memory` after `starved`, else `Ended`
abbrev pub fault_of : {V : Type 0} → Progress V → ReadFault
fault_of (reading b) = Ended
fault_of (finished v) = Ended
fault_of (stopped i x) = Refused i x
fault_of (starved n) = Memory

-- the fault that a feed returns after a stop
abbrev pub fault_by : Stop → ReadFault
fault_by (stop.Refused i x) = Refused i x
fault_by stop.Memory = Memory

-- memory may be needed at this variable: at any but Q_DIR, PAD, PADDING, and those that are in the front of a message
-- alone, as NID_MESSAGE, L_MESSAGE and T_TRAIN
abbrev pub asks_memory : Var → Bool
asks_memory NID_MESSAGE = false
asks_memory L_MESSAGE = false
asks_memory T_TRAIN = false
asks_memory M_ACK = false
asks_memory NID_ENGINE = false
asks_memory NID_EM = false
asks_memory Q_ORIENTATION = false
asks_memory D_SR = false
asks_memory D_REF = false
asks_memory Q_STATUS = false
asks_memory Q_DIR = false
asks_memory PAD = false
asks_memory PADDING = false
asks_memory v = true

-- the bits after which memory may be needed at this variable: at NID_LRBG 75, so not in the header of a message to the
-- track, which it ends
abbrev pub asked_from : Var → ℕ
asked_from NID_LRBG = 75
asked_from v = 0

-- the result of a feed is the outcome of the bits seen and the new ones together, with the progress after it: `More` of
-- `more`, `Done` of `done` with the bits seen and those of the bytes taken, and an admitted value, `Refused` of
-- `refused`; `Memory` only after a number of bits, at least `least`, no fewer than were seen and fewer than all, with
-- the next of which a reading continues, and which a variable holds at which memory may be needed
abbrev pub Feeds : {V W : Type 0} → (W → Reading → Type 0) → (V → W) → (V → Type 0) → ℕ → List Bool → List Bool → Result Fed ReadFault → Progress V → Type 0
Feeds {V} Reads value IsValue least seen new (Ok More) s = (s ≡ reading (seen ++ new)) × IsOutcome Reads (seen ++ new) more
Feeds {V} Reads value IsValue least seen new (Ok (Done k)) s = (v : V) × (s ≡ finished v) × IsValue v × (8 * k ≤ length new) × IsOutcome Reads (seen ++ new) (done (value v) (length seen + 8 * k))
Feeds {V} Reads value IsValue least seen new (Err (Refused i x)) s = (s ≡ stopped i x) × IsOutcome Reads (seen ++ new) (refused i x)
Feeds {V} Reads value IsValue least seen new (Err Memory) s = (n : ℕ) × (s ≡ starved n) × (length seen ≤ n) × (n < length (seen ++ new)) × Viable (readings_of Reads) (take (n + 1) (seen ++ new)) × (least ≤ n) × (x : Var) × Owner (readings_of Reads) (take n (seen ++ new)) x × IsTrue (asks_memory x) × (asked_from x ≤ n)
Feeds {V} Reads value IsValue least seen new (Err Ended) s = ⊥

-- ---- The progress by what is kept.

-- the progress by the variable that comes next, the bits so far, the value if nothing comes, how many bits were taken,
-- and why no more are
abbrev pub progress_by : {V : Type 0} → Option Var → List Bool → V → ℕ → Option Stop → Progress V
progress_by next seen v count None = if is_some next then reading seen else finished v
progress_by next seen v count (Some (stop.Refused i x)) = stopped i x
progress_by next seen v count (Some stop.Memory) = starved count

-- a reader has come by the variables far, which `holds`, and the bits part of the next one to what is left of L
pub record Reached (L left holds : Reading → Type 0) (far : Reading) (part : List Bool) (count : ℕ) : Type 0 where
  pub residual : Residual L far left
  pub goes : Goes left
  pub held : holds far
  pub viable : Viable L (spelled far ++ part)
  pub counted : count ≡ length (spelled far ++ part)
  pub bytes : count % 8 ≡ 0

-- what holds of a reader between two pieces: what it has come to, of whole bytes, if it hasn't stopped; after a refused
-- bit that it has counted those before it
abbrev pub IsReader : (L left holds : Reading → Type 0) → Reading → List Bool → ℕ → Option Stop → Type 0
IsReader L left holds far part count None = Reached L left holds far part count
IsReader L left holds far part count (Some (stop.Refused i x)) = count ≡ i
IsReader L left holds far part count (Some stop.Memory) = Unit {0}
