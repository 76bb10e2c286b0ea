-- What a run promises of its input.
use Rattle.std.specs.Prelude.{◌≡◌, ℕ, ◌≤◌, List, ◌++◌, length}
use Rattle.etcs_runs.specs.declared.fault.RunFault.{RunFault}
use Rattle.etcs_runs.specs.declared.fault.RunFault.TheVariants.{Memory}

-- what is written of an input, and how a run of it ends, with a result in T
pub record Promises (T : Type 0) : Type 1 where
  -- the text is that of all that is whole in what is given
  pub Outputs : List ℕ → List ℕ → Type 0
  -- the bytes are a whole input, with this text and this result
  pub Ends : List ℕ → List ℕ → T → Type 0
  -- each input that begins with the bytes ends with this fault, after this text; or memory was refused
  pub Stops : List ℕ → List ℕ → RunFault → Type 0
  -- the input of these bytes ends with this fault, after this text; or memory was refused
  pub StopsAtEnd : List ℕ → List ℕ → RunFault → Type 0
  -- the text is that of some first items of an input that begins with the bytes
  pub Prints : List ℕ → List ℕ → Type 0

-- the bytes are a whole input with this text, and some result
abbrev pub EndsWhole : {T : Type 0} → Promises T → List ℕ → List ℕ → Type 0
EndsWhole {T} p given output = (answer : T) × p.Ends given output answer

-- which promises follow from others
pub record Sound {T : Type 0} (p : Promises T) : Type 0 where
  pub outputs_print : (given output : List ℕ) → p.Outputs given output → p.Prints given output
  pub stops_print : (given output : List ℕ) (fault : RunFault) → p.Stops given output fault → p.Prints given output
  pub last_prints : (given output : List ℕ) (fault : RunFault) → p.StopsAtEnd given output fault → p.Prints given output
  -- memory may be refused at any further part
  pub starves : (given more output : List ℕ) → p.Outputs given output → p.Stops (given ++ more) output Memory

-- memory was refused at the last piece that was read: the bytes given are some, and at most 4,096 more; output begins
-- with the text of all that is whole in the first ones, and is that of some first items of all
pub record StarvesIn {T : Type 0} (p : Promises T) (given output : List ℕ) : Type 0 where
  pub before : List ℕ
  pub last : List ℕ
  pub given_is : given ≡ before ++ last
  pub short : length last ≤ 4096
  pub whole : List ℕ
  pub more : List ℕ
  pub output_is : output ≡ whole ++ more
  pub outputs : p.Outputs before whole
  pub prints : p.Prints given output
