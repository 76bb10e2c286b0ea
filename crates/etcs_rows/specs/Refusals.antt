-- Why a bit is refused.
use Rattle.std.specs.Prelude.{◌≡◌, ℕ, ◌+◌, ◌-◌, Bool, List, ◌++◌, length, take, Option, Some, None, Err}
use Rattle.etcs_bits.specs.Bits.{num, number_at}
use Rattle.etcs_vars.specs.Vars.{width}
use Rattle.etcs_vars.specs.Reading.{Reading, spelled}
use Rattle.etcs_vars.specs.Walking.{Refuses}
use Rattle.etcs_vars.specs.declared.var.Var.{Var}
use Rattle.etcs_reader.specs.declared.block.Block.{Block}
use Rattle.etcs_reader.specs.Blocks.{NoneOf, IsBelow, IsAbove, Blocks}
use Rattle.etcs_reader.specs.declared.feeder.Stop.TheVariants.{Refused}
use Rattle.etcs_reader.specs.Feeders.{FeederValue, Feeds, all_of}
use Rattle.etcs_rows.specs.declared.here.Here.{Here}
use Rattle.etcs_rows.specs.declared.refusal.Refusal.{Refusal}
use Rattle.etcs_rows.specs.Causes.{Passes, Exactly, Claims}

-- none of the block's numbers of x may come here, and the numbers next to it are the nearest that may
pub record IsBlockHere (here : Here) (x : Var) (b : Block) : Type 0 where
  pub numbers : Blocks (Passes here x) x b

-- by the tables and what is left: none of the numbers of the variable that begin with the refusal's bits may come here, the
-- cause says whether the tables have one of them, and the numbers next to them are the nearest that may
pub record Reasons (r : Refusal) : Type 0 where
  pub none : NoneOf (Passes r.here r.var) (width r.var - r.count) r.bits
  pub cause : Claims r.here r.var (width r.var - r.count) r.bits r.cause
  pub below : IsBelow (Passes r.here r.var) (width r.var - r.count) r.bits r.below
  pub above : IsAbove (Passes r.here r.var) (width r.var - r.count) r.bits r.above

-- why the bit is the first of b with which no reading of the language L continues: up to it, and with it, the bits of b are
-- those of whole variables and then the refusal's bits of its variable, of which they may have a whole number; after the
-- whole variables it may have exactly the numbers that may come here
pub record Explains (L : Reading → Type 0) (b : List Bool) (r : Refusal) : Type 0 where
  pub before : Reading
  pub bits : spelled before ++ num r.count r.bits ≡ take (r.bit + 1) b
  pub number : r.number ≡ number_at (length (spelled before)) (width r.var) b
  pub here : Exactly (λ q. L (before ++ q)) r.var r.here
  pub reasons : Reasons r

-- what a refusal says of the bit i, which x holds, where a feeder v was fed the bits b, and nothing else, and refused it
pub record Tells (R : Type 0) (left : R → Reading → Type 0) (next : R → Option Var) (follows : R → Reading → R → Type 0) (fails : R → Type 0) (b : List Bool) (i : ℕ) (x : Var) (v : FeederValue R) (r : Refusal) : Type 0 where
  pub bit : r.bit ≡ i
  pub var : r.var ≡ x
  pub explains : (start : R) → Feeds R left next follows fails (all_of start) b (Err (Refused i x)) v → Explains (left start) b r

-- what is found in the bits b: the first one with which no reading of the language L continues, and why; or that there is
-- none
abbrev pub FindsRefusal : (Reading → Type 0) → List Bool → Option Refusal → Type 0
FindsRefusal L b (Some r) = Refuses L b r.bit r.var × Explains L b r
FindsRefusal L b None = (i : ℕ) (x : Var) → Refuses L b i x → ⊥
