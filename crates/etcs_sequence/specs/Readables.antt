-- What a reader of any item stands for, and the facts about what is left of one that it rests on.
use Rattle.std.specs.Prelude.{◌≡◌, ℕ, ◌*◌, ◌/◌, ◌%◌, ◌^◌, ◌<◌, ◌≤◌, Bool, List, [], ◌++◌, length, Option, Some, None, Result, Ok, Err, IsTrue}
use Rattle.etcs_bits.specs.Bits.{part}
use Rattle.etcs_vars.specs.declared.var.Var.{Var}
use Rattle.etcs_vars.specs.Vars.{width}
use Rattle.etcs_vars.specs.declared.feed.Fed.{Fed}
use Rattle.etcs_vars.specs.declared.feed.Fed.TheVariants.{More, Done}
use Rattle.etcs_vars.specs.declared.feed.ReadFault.{ReadFault}
use Rattle.etcs_vars.specs.Reading.{Reading, spelled, readings_of, Owner}
use Rattle.etcs_vars.specs.Walking.{Residual}
use Rattle.etcs_vars.proofs.Languages.{Same}
use Rattle.etcs_vars.proofs.Walk.{Regular}
use Rattle.etcs_reader.specs.declared.feeder.Stop.{Stop}
use Rattle.etcs_reader.specs.Rests.{Goes, BeginsWith, Ended, LeapsBy}
use Rattle.etcs_reader.specs.Feeders.{FeederValue}
use Rattle.etcs_sequence.specs.declared.list.PacketList.{PacketList}
use Rattle.etcs_sequence.specs.Progress.{Progress, reading, finished, progress_by, IsReader, asks_memory, asked_from, fault_by}

-- what a reader of an item stands for: what is known of the item's size, and its progress
pub record ItemValue (S V : Type 0) : Type 0 where
  pub size : S
  pub progress : Progress V

-- all bits that a feeder took: those of the variables that were read, and those of the unfinished one
abbrev pub seen_at : {R : Type 0} → (R → Reading) → FeederValue R → List Bool
seen_at far v = spelled (far v.rest) ++ v.part

-- the progress of a feeder over what is left of an item
abbrev pub progress_at : {R V : Type 0} → (R → Option Var) → (R → Reading) → (R → V) → FeederValue R → Progress V
progress_at next far made v = progress_by (next v.rest) (seen_at far v) (made v.rest) v.count v.stop

-- the facts about what is left of an item, R, by which `ItemReader` reads one: it is a language, whose readings are
-- those of values W; which variable comes next, what follows, where memory may be needed, the variables so far and what
-- is held of them, and at the end the value V with its number of bits; and packets, with numbers and bits of the next
-- one, that are members of the variables so far
pub record Readable (R V W P : Type 0) (left : R → Reading → Type 0) (next : R → Option Var) (follows : R → Reading → R → Type 0) (fails : R → Type 0) (far : R → Reading) (holds : R → Reading → Type 0) (Reads : W → Reading → Type 0) (value : V → W) (IsValue : V → Type 0) (size : V → ℕ) (made : R → V) (store : R → PacketList P) (Members : List P → List ℕ → List Bool → Reading → Type 0) (most least : ℕ) : Type 0 where
  pub regular : Regular (readings_of Reads)
  pub some : Goes (readings_of Reads)
  -- each reading has whole bytes, some and at most this many
  pub bytes : (r : Reading) → readings_of Reads r → (length (spelled r) % 8 ≡ 0) × (length (spelled r) ≤ 8 * most)
  pub room : 8 * most < 2 ^ 64
  pub long : (r : Reading) → readings_of Reads r → 0 < length (spelled r)
  pub begins_with : (s : R) (x : Var) → next s ≡ Some x → BeginsWith (left s) x
  pub ended : (s : R) → next s ≡ None → Ended (left s)
  pub residual : (s t : R) (p : Reading) → follows s p t → Residual (left s) p (left t)
  pub held : (s t : R) (p q : Reading) → follows s p t → holds s q → holds t (q ++ p)
  pub far_is : (s : R) (q : Reading) → Goes (left s) → holds s q → q ≡ far s
  -- memory may be needed only after this many bits, and at a variable of which asks_memory holds
  pub starved : (s : R) (q : Reading) → fails s → holds s q → least ≤ length (spelled q)
  pub asks : (s : R) (q : Reading) (x : Var) → next s ≡ Some x → Goes (left s) → fails s → holds s q → IsTrue (asks_memory x) × (asked_from x ≤ length (spelled q))
  pub whole : (s : R) → next s ≡ None → readings_of Reads (far s) → holds s (far s) → IsValue (made s) × Reads (value (made s)) (far s)
  pub counted : (v : V) (r : Reading) → IsValue v → Reads (value v) r → length (spelled r) ≡ size v
  -- between two pieces, with the bits of the variable that comes next
  pub members : (s : R) (part : List Bool) (x : Var) → next s ≡ Some x → Goes (left s) → holds s (far s) → length part < width x → length (spelled (far s) ++ part) % 8 ≡ 0 → Members (store s).packets.items (store s).numbers.items (store s).bits (far s)

-- the facts that a reader rests on, and what holds of it between two pieces
pub record IsItemReader (R V W P : Type 0) (left : R → Reading → Type 0) (next : R → Option Var) (follows : R → Reading → R → Type 0) (fails : R → Type 0) (far : R → Reading) (holds : R → Reading → Type 0) (Reads : W → Reading → Type 0) (value : V → W) (IsValue : V → Type 0) (size : V → ℕ) (made : R → V) (store : R → PacketList P) (Members : List P → List ℕ → List Bool → Reading → Type 0) (most least : ℕ) (v : FeederValue R) : Type 0 where
  pub readable : Readable R V W P left next follows fails far holds Reads value IsValue size made store Members most least
  pub is : IsReader (readings_of Reads) (left v.rest) (holds v.rest) (far v.rest) v.part v.count v.stop

-- ---- An item that was whole in the first piece, with the number of its bytes.

-- finished, if an item was whole in the first piece, else this progress
abbrev pub progress_with : {V : Type 0} → Option (V × ℕ) → Progress V → Progress V
progress_with None s = s
progress_with (Some d) s = finished d.0

-- if an item was whole in the first piece, it is an admitted value of this many bytes, whose bits a word counts, and
-- the feeder, whose progress is s, took none of them
abbrev pub IsDone : {V : Type 0} → (V → Type 0) → (V → ℕ) → Option (V × ℕ) → Progress V → Type 0
IsDone IsValue size None s = Unit {0}
IsDone IsValue size (Some d) s = IsValue d.0 × (size d.0 ≡ 8 * d.1) × (8 * d.1 < 2 ^ 64) × (s ≡ reading [])

-- ---- What a piece begins with.

-- the first n bits of a piece xs, no more than `most` bytes, spell whole variables that lead from all of an item, of
-- which nothing is kept, to what is left in rest; something is left there
abbrev pub IsPart : {R W : Type 0} → (R → Reading → Type 0) → (R → Reading → R → Type 0) → (R → Reading → Type 0) → (W → Reading → Type 0) → ℕ → List Bool → R → ℕ → Type 0
IsPart {R} left follows holds Reads most xs rest n = (n ≤ 8 * most) × (start : R) × Same (left start) (readings_of Reads) × holds start [] × LeapsBy (left rest) (λ p. follows start p rest) xs 0 n

-- ---- What a feed of an item returns, by the feeder's result.

-- what a feed returns after n bits by the variable that comes next: `More`, or `Done` if none does
abbrev pub IsFedTo : {R : Type 0} → (R → Reading → Type 0) → FeederValue R → ℕ → Option Var → Result Fed ReadFault → Type 0
IsFedTo left v n (Some x) fed = (fed ≡ Ok More) × (v.stop ≡ None → Owner (left v.rest) v.part x)
IsFedTo left v n None fed = (fed ≡ Ok (Done (n / 8))) × (v.stop ≡ None → left v.rest [])

-- what a feed of an item returns by the feeder's result: `More`, `Done` if nothing comes next, or the fault of its stop
abbrev pub IsFed : {R : Type 0} → (R → Reading → Type 0) → (R → Option Var) → FeederValue R → Result ℕ Stop → Result Fed ReadFault → Type 0
IsFed left next v (Ok n) fed = IsFedTo left v n (next v.rest) fed
IsFed left next v (Err stop) fed = fed ≡ Err (fault_by stop)
